use Rattle.std.proofs.Common.{sym, ◌∙◌}
use Rattle.rule.proofs.Rules.{rule_size}
use Rattle.rule.proofs.rule.Rule.len.Goals as goal

pub returns : goal.returns
returns c = c.len.ensures.value ∙ sym (rule_size c.args.self.now)
