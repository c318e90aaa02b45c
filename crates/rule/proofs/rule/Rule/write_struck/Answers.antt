use Rattle.rule.specs.Rules.{marked}
use Rattle.rule.proofs.Printings.{struck_again}
use Rattle.rule.proofs.rule.Rule.write_struck.Goals as goal

pub returns-then-out-len-clause-again : goal.returns-then-out-len-clause-again
returns-then-out-len-clause-again c = struck_again c.args.self.now (marked c.args.marks.now)

pub returns-clause-again : goal.returns-clause-again
returns-clause-again c = struck_again c.args.self.now (marked c.args.marks.now)
