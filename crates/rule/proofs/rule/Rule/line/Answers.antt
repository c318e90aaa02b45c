use Rattle.std.proofs.Common.{arith}
use Rattle.grammar.proofs.Trees.{size_some}
use Rattle.rule.specs.Rules.{form_in, marked}
use Rattle.rule.proofs.Standings.{whole_stands}
use Rattle.rule.proofs.Printings.{adds_all, struck_short}
use Rattle.rule.proofs.rule.Rule.line.Goals as goal

pub overflow_sub-len : goal.overflow_sub-len
overflow_sub-len c = omega (arith, c.len.ensures, size_some (form_in c.args.self.now))

pub print-requires : goal.print-requires
print-requires c = whole_stands _ c.len.ensures

pub unwrap-requires : goal.unwrap-requires
unwrap-requires c =
    (adds_all _ c.requires (omega (arith, struck_short c.args.self.now (marked c.args.marks.now))) (c.print.ensures (whole_stands _ c.len.ensures))).0

pub returns : goal.returns
returns c =
    (adds_all _ c.requires (omega (arith, struck_short c.args.self.now (marked c.args.marks.now))) (c.print.ensures (whole_stands _ c.len.ensures))).1
