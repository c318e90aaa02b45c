use Rattle.std.proofs.Common.{ℕ, ◌≡◌, ◌+◌, ◌<◌, ◌≢◌, List, length, get_or, refl, arith, rules}
use Rattle.grammar.proofs.Streams.{unseen, arrow_front, dash_front}
use Rattle.words.proofs.Looks.{begins}
use Rattle.words.proofs.words.looking.Spot.arrow.Goals as goal

pub returns-then-ne : goal.returns-then-ne
returns-then-ne c =
    let text : List ℕ = c.args.self.now.text.now in
    let at : ℕ = c.args.self.now.at in
    let no_head : at + 1 < length text → get_or text (at + 1) 0 ≢ 62 = search rules in
    unseen _ _ _ refl (omega arith) (dash_front _ _ c.requires no_head)

pub returns : goal.returns
returns c =
    let text : List ℕ = c.args.self.now.text.now in
    let at : ℕ = c.args.self.now.at in
    let there : at + 1 < length text = search rules in
    let head : get_or text (at + 1) 0 ≡ 62 = search rules in
    begins _ _ _ 1 _ (omega arith) (omega arith) (arrow_front _ _ c.requires there head) refl
