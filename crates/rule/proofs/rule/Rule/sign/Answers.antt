use Rattle.std.proofs.Common.{arith, ap, ◌∙◌, Some, None}
use Rattle.std.proofs.lemmas.Bool.{cond_below}
use Rattle.grammar.specs.Signs as signs
use Rattle.rule.specs.Rules.{form_in}
use Rattle.rule.proofs.Toward.{around_whole, around_done}
use Rattle.rule.proofs.rule.Rule.sign.Goals as goal

pub loop-at-init : goal.loop-at-init
loop-at-init c = around_whole _ c.args.number c.len-at.ensures (omega (arith, c.len.ensures, c.len-at.ensures))

pub returns : goal.returns
returns c =
    ap Some (around_done c.loop-at.invariant c.loop-at-test.false)
    ∙ cond_below _ _ (Some (signs.sign (form_in c.args.self.now) c.args.number)) None (omega (arith, c.len.ensures))
