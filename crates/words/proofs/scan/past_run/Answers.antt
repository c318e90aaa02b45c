use Rattle.std.proofs.Common.{ℕ, ◌+◌, ◌-◌, List, length, take, drop, ap, ◌∙◌}
use Rattle.grammar.specs.Scanning.{run}
use Rattle.words.proofs.Looks.{run_length}
use Rattle.words.proofs.Spaces.{cut}
use Rattle.words.proofs.scan.past_run.Goals as goal

pub returns-clause-whole : goal.returns-clause-whole
returns-clause-whole c =
    let text = c.args.text.now in
    let at = c.args.place in
    ap (λ (n : ℕ). at + n) (c.run_len.ensures ∙ run_length (take (length text - at) (drop at text)) ∙ ap (λ (bs : List ℕ). length (run bs)) (cut text at))
