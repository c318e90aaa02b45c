use Rattle.std.proofs.Common.{[], ◌∷◌, ap, ◌∙◌}
use Rattle.std.proofs.lemmas.Slice.Eq.{strip_suffix_is}
use Rattle.rulecheck.proofs.Ended.{stripped}
use Rattle.rulecheck.proofs.answer.text_in.Goals as goal
use Rattle.std.proofs.lemmas.Bool.Decides.{Decides-eqb}

pub returns : goal.returns
returns c =
    let line-end = strip_suffix_is Decides-eqb c.args.input.now (10 ∷ []) c.strip_suffix.result c.strip_suffix.ensures.cases in
    ap (λ r. r.now) c.unwrap_or.ensures ∙ stripped c.args.input c.strip_suffix.result line-end
