use Rattle.std.proofs.Common.{arith}
use Rattle.rule.proofs.Rules.{rule_few, slice_size, slice_part}
use Rattle.rule.proofs.Backs.{back_start, back_on, back_within, back_more, back_first, back_low}
use Rattle.rule.proofs.rule.Rule.first.Goals as goal

pub overflow_add-at : goal.overflow_add-at
overflow_add-at c = omega (arith, rule_few c.args.self.now)

pub loop-owed-init : goal.loop-owed-init
loop-owed-init c = back_start _ _ c.requires

pub overflow_sub-at : goal.overflow_sub-at
overflow_sub-at c = back_on _ _ c.requires _ _ c.loop-owed.invariant c.loop-owed-test.true

pub offset_bounds-parts-at : goal.offset_bounds-parts-at
offset_bounds-parts-at c = omega (arith, rule_few c.args.self.now, c.loop-owed.invariant.low)

pub bounds-parts-at : goal.bounds-parts-at
bounds-parts-at c =
    omega (arith, slice_size c.args.self.now _ c.as_slice-parts.ensures, back_within _ _ c.requires _ _ c.loop-owed.invariant c.loop-owed-test.true)

pub loop-owed-smaller : goal.loop-owed-smaller
loop-owed-smaller c = omega (arith, back_on _ _ c.requires _ _ c.loop-owed.invariant c.loop-owed-test.true)

pub loop-owed-preserved : goal.loop-owed-preserved
loop-owed-preserved c =
    let within = back_within _ _ c.requires _ _ c.loop-owed.invariant c.loop-owed-test.true in
    let here = slice_part c.args.self.now _ c.as_slice-parts.ensures _ within _ in
    back_more _ _ c.requires _ _ c.loop-owed.invariant c.loop-owed-test.true _ here _ c.operands.ensures

pub returns : goal.returns
returns c = record {
  low = back_low _ _ c.requires _ _ c.loop-owed.invariant c.loop-owed-test.false;
  first = back_first _ _ c.requires _ _ c.loop-owed.invariant c.loop-owed-test.false;
}
