use Rattle.std.proofs.Common.{arith}
use Rattle.rule.proofs.Rules.{rule_few, slice_size, slice_part}
use Rattle.rule.proofs.rule.Rule.at.Goals as goal

pub offset_bounds-as_slice-number : goal.offset_bounds-as_slice-number
offset_bounds-as_slice-number c = omega (arith, rule_few c.args.self.now)

pub bounds-as_slice-number : goal.bounds-as_slice-number
bounds-as_slice-number c = omega (arith, slice_size c.args.self.now _ c.as_slice.ensures)

pub returns : goal.returns
returns c = slice_part c.args.self.now _ c.as_slice.ensures c.args.number c.requires _
