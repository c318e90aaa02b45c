use Rattle.std.proofs.Common.{rules, ap, ◌∙◌}
use Rattle.std.specs.Option.{option_map}
use Rattle.reading.specs.Holding.{parting}
use Rattle.rule.specs.Rules.{form_in, part_at}
use Rattle.rule.proofs.Rules.{told_part}
use Rattle.rule.proofs.rule.Rule.part.Goals as goal

pub returns : goal.returns
returns c =
    let h = c.get.ensures.lookup in
    ap (option_map parting) c.copied.ensures
    ∙ told_part c.args.self.now _ c.as_slice.ensures _ c.get.result h.0 h.1
    ∙ ap (part_at (form_in c.args.self.now)) (search rules)
