use Rattle.std.proofs.Common.{ap, ◌∙◌, arith}
use Rattle.grammar.specs.Reading.{absent}
use Rattle.names.specs.Lists.{names_of}
use Rattle.names.proofs.Namings.{many, count_is, not_fresh, grown, whole}
use Rattle.names.proofs.names.Names.new.Goals as goal

pub returns-then-names-gt-MOST_NAMES : goal.returns-then-names-gt-MOST_NAMES
returns-then-names-gt-MOST_NAMES c = many _ c.if-names-gt-MOST_NAMES.true

pub push-requires : goal.push-requires
push-requires c =
    record {
      room = omega (arith, count_is c.args.names.now c.loop-i.list c.loop-i.i c.loop-i.invariant (omega arith));
      lacks = ap (absent (names_of c.loop-i.list)) c.in-Some.ensures.1 ∙ c.in-Some.ensures.0;
    }

pub returns-in_default : goal.returns-in_default
returns-in_default c = not_fresh c.args.names.now c.loop-i.list _ c.loop-i.invariant c.if-names-gt-MOST_NAMES.false c.loop-i-test.true _ c.in_default.ensures

pub loop-i-preserved : goal.loop-i-preserved
loop-i-preserved c =
    grown c.args.names.now c.loop-i.list _ c.loop-i.invariant c.loop-i-test.true _ c.push.new.self c.in-Some.name c.in-Some.ensures.1 c.push.ensures

pub returns : goal.returns
returns c = whole c.args.names.now c.loop-i.list _ c.loop-i.invariant c.loop-i-test.false
