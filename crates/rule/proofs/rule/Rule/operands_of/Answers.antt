use Rattle.std.proofs.Common.{arith}
use Rattle.rule.proofs.Standings.{each_stands}
use Rattle.rule.proofs.Below.{many_before, leaf_operands, one_operand, left_some, two_operands}
use Rattle.rule.proofs.rule.Rule.operands_of.Goals as goal

pub overflow_sub-result : goal.overflow_sub-result
overflow_sub-result c = omega (arith, many_before (each_stands _ _ c.requires).1 c.at.result c.at.ensures c.operands.ensures)

pub overflow_sub-right : goal.overflow_sub-right
overflow_sub-right c = omega (arith, many_before (each_stands _ _ c.requires).1 c.at.result c.at.ensures c.operands.ensures)

pub overflow_sub-left : goal.overflow_sub-left
overflow_sub-left c = left_some (each_stands _ _ c.requires).1 c.at.result c.at.ensures c.operands.ensures (omega arith) c.first-left.ensures.first

pub returns-in-0 : goal.returns-in-0
returns-in-0 c = leaf_operands (each_stands _ _ c.requires).1 c.at.result c.at.ensures c.operands.ensures c.in-0.is

pub returns-in-1 : goal.returns-in-1
returns-in-1 c = one_operand (each_stands _ _ c.requires).1 c.at.result c.at.ensures c.operands.ensures c.in-1.is

pub returns-in_default : goal.returns-in_default
returns-in_default c =
    two_operands (each_stands _ _ c.requires).1 c.at.result c.at.ensures c.operands.ensures (omega arith) c.first-left.ensures.first
