use Rattle.rule.proofs.Backs.{Back}
use Rattle.rule.proofs.rule.Rule.first.Given as goal

abbrev pub invariant-loop-owed : goal.invariant-loop-owed
invariant-loop-owed l = Back l.self l.root l.at l.owed

abbrev pub decreases-loop-owed : goal.decreases-loop-owed
decreases-loop-owed l = l.at
