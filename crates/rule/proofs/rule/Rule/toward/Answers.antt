use Rattle.std.proofs.Common.{arith}
use Rattle.rule.proofs.Standings.{stands_within, one_view, two_view, one_turned, two_turned}
use Rattle.rule.proofs.Toward.{not_leaf, into_one, into_left, into_right}
use Rattle.rule.proofs.rule.Rule.toward.Goals as goal

pub at-requires : goal.at-requires
at-requires c = stands_within c.requires.around.stands

pub operands_of-requires : goal.operands_of-requires
operands_of-requires c = stands_within c.requires.around.stands

pub unreachable-requires : goal.unreachable-requires
unreachable-requires c = not_leaf c.requires.around c.requires.below c.in-None.ensures

pub returns-in-One : goal.returns-in-One
returns-in-One c =
    let a = c.requires.around in
    let w = one_view a.stands c.in-One.ensures in
    record {
      nearer = w.less;
      around = into_one a c.requires.below w _ (one_turned a.stands c.at.result c.at.ensures c.flips-flips.ensures c.flipped-turned.ensures w);
    }

pub returns-in-Two : goal.returns-in-Two
returns-in-Two c =
    let a = c.requires.around in
    let w = two_view a.stands c.in-Two.ensures in
    record { nearer = w.latter_less; around = into_right a c.requires.below w c.if-left-number.true }

pub returns-in-Two-2 : goal.returns-in-Two-2
returns-in-Two-2 c =
    let a = c.requires.around in
    let w = two_view a.stands c.in-Two.ensures in
    record {
      nearer = omega (arith, w.less, w.latter_less);
      around = into_left a c.requires.below w _ (two_turned a.stands c.at.result c.at.ensures c.flips-flips.ensures c.flipped-turned.ensures w) c.if-left-number.false;
    }
