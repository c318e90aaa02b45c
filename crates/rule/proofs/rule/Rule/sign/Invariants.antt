use Rattle.rule.specs.Rules.{form_in}
use Rattle.rule.specs.Signing.{signing}
use Rattle.rule.specs.Walks.{Around}
use Rattle.rule.proofs.rule.Rule.sign.Given as goal

abbrev pub invariant-loop-at : goal.invariant-loop-at
invariant-loop-at l = Around (form_in l.self) l.number l.at (signing l.sign)

abbrev pub decreases-loop-at : goal.decreases-loop-at
decreases-loop-at l = l.at
