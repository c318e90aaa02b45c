use Rattle.rule.proofs.rule.Rule.+print.Given as goal

abbrev pub decreases-print : goal.decreases-print
decreases-print l = l.root
