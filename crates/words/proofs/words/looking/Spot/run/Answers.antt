use Rattle.std.proofs.Common.{ℕ, ◌+◌, List, length, drop, sym, refl, ap, ◌∙◌, arith}
use Rattle.grammar.specs.Scanning.{run}
use Rattle.grammar.specs.Words.{spelled}
use Rattle.grammar.specs.Scanning.Front.{word}
use Rattle.grammar.proofs.Streams.{overlong, run_part, run_word, run_long}
use Rattle.words.proofs.Looks.{begins, run-extent}
use Rattle.words.proofs.words.looking.Spot.run.Goals as goal

pub returns-then-after-self-gt-LONGEST_WORD : goal.returns-then-after-self-gt-LONGEST_WORD
returns-then-after-self-gt-LONGEST_WORD c =
    overlong _ _ _ refl (omega arith) (run_long _ _ c.past_run-after.result c.requires c.past_run-after.ensures.whole (omega arith))

pub returns : goal.returns
returns c =
    let text : List ℕ = c.args.self.now.text.now in
    let at : ℕ = c.args.self.now.at in
    let after : ℕ = c.past_run-after.result in
    let whole = c.past_run-after.ensures.whole in
    begins text at after (length (run (drop (at + 1) text))) _ (omega arith) (omega (arith, c.past_run-after.ensures.within))
    (run_word text at after c.requires whole (omega arith) ∙ ap (word (length (run (drop (at + 1) text)))) (ap spelled (sym (run_part text at after (omega arith) whole)) ∙ sym c.spelling-word.ensures))
    (run-extent text at after _ (omega arith) (omega (arith, c.past_run-after.ensures.within)) c.spelling-word.ensures)
