-- The words of a text from a place on, one step at a time.
use Rattle.std.proofs.Common.{◌≡◌, ℕ, zero, suc, ◌+◌, ◌-◌, ◌<◌, ◌≤◌, true, false, cond, eqb, ◌≢◌, List, [], ◌∷◌, length, get_or, take, drop, sym, refl, ap, ◌∙◌, subst, add-zero, add-one, arith, length-drop, drop-cons, drop-drop, ne_eqb, le-leb}
use native.Mathlib.Decide.{dec_lt}
use borrow.Author.Tests.{lt-leb}
use Rattle.std.proofs.lemmas.Bool.Decides.{nat_tests}
use Rattle.grammar.proofs.Chains.{here, past}
use lib.Seq.{drop-length}
use Rattle.std.proofs.lemmas.List.{drop_all}
use Rattle.grammar.specs.Words.{Word, spelled, letter, inner}
use Rattle.grammar.specs.Scanning.{Front, front, from, onward, words, run, running, arrowed}
use Rattle.grammar.specs.Words.Word.{arrow}
use Rattle.grammar.specs.Scanning.Front.{space, word, none, long}
use Rattle.grammar.specs.Words.Slip.{no_word, too_long}
use Rattle.grammar.specs.Words.Stream.{end, slip, next}

-- what a word takes is passed over
pub skip_words : (bs : List ℕ) (k p : ℕ) → k ≤ length bs → words p k bs ≡ words (p + k) 0 (drop k bs)
unfolding words
skip_words bs zero p h = ap (λ q. words q 0 bs) (sym (add-zero p))
skip_words [] (suc k) p h = absurd (omega arith)
skip_words (b ∷ bs) (suc k) p h = skip_words bs k (suc p) (omega arith) ∙ ap (λ q. words q 0 (drop k bs)) (omega arith)

pub skip_from : (text : List ℕ) (p k : ℕ) → suc p + k ≤ length text → words (suc p) k (drop (suc p) text) ≡ from text (suc p + k)
unfolding from
skip_from text p k h =
    skip_words (drop (suc p) text) k (suc p) (simp length-drop (omega arith))
    ∙ ap (words (suc p + k) 0) (drop-drop k (suc p) text)

-- the first byte decides
pub from_step : (text : List ℕ) (p : ℕ) (f : Front) → p < length text → front (get_or text p 0) (drop (suc p) text) ≡ f → from text p ≡ onward p f (λ k. words (suc p) k (drop (suc p) text))
unfolding from words
from_step text p f h e =
    ap (words p 0) (drop-cons text p 0 h) ∙ ap (λ x. onward p x (λ k. words (suc p) k (drop (suc p) text))) e

pub space_step : (text : List ℕ) (p : ℕ) → p < length text → get_or text p 0 ≡ 32 → from text p ≡ from text (p + 1)
unfolding front from
space_step text p h e =
    from_step text p space h (ap (λ b. front b (drop (suc p) text)) e)
    ∙ ap (from text) (sym (add-one p))

-- a word of one byte and k more
pub word_step : (text : List ℕ) (p k : ℕ) (w : Word) → p + 1 + k ≤ length text → front (get_or text p 0) (drop (suc p) text) ≡ word k w → from text p ≡ next p w (from text (p + 1 + k))
word_step text p k w h e =
    from_step text p (word k w) (omega arith) e
    ∙ ap (next p w) (skip_from text p k (omega arith) ∙ ap (from text) (omega arith))

pub end_step : (text : List ℕ) (p : ℕ) → p ≡ length text → from text p ≡ end (length text)
unfolding from words
end_step text p e = ap (from text) e ∙ ap (words (length text) 0) (drop-length text)

-- one byte more of a run
pub run_more : (text : List ℕ) (p : ℕ) → p < length text → inner (get_or text p 0) ≡ true → length (run (drop p text)) ≡ length (run (drop (p + 1) text)) + 1
run_more text p h e =
    ap (λ l. length (run l)) (drop-cons text p 0 h)
    ∙ ap (λ b. length (cond b (get_or text p 0 ∷ run (drop (suc p) text)) [])) e
    ∙ ap (λ q. suc (length (run (drop q text)))) (sym (add-one p))
    ∙ sym (add-one (length (run (drop (p + 1) text))))

pub run_stops : (text : List ℕ) (p : ℕ) → p < length text → inner (get_or text p 0) ≡ false → length (run (drop p text)) ≡ 0
run_stops text p h e =
    ap (λ l. length (run l)) (drop-cons text p 0 h) ∙ ap (λ b. length (cond b (get_or text p 0 ∷ run (drop (suc p) text)) [])) e

pub run_ends : (text : List ℕ) (p : ℕ) → length text ≤ p → length (run (drop p text)) ≡ 0
run_ends text p h = ap (λ l. length (run l)) (drop_all p text h)

-- a run is the front of the bytes that is as long
pub run_front : (bs : List ℕ) → take (length (run bs)) bs ≡ run bs
run_front [] = refl
run_front (b ∷ bs) =
    elim (inner b) as (λ t. take (length (cond t (b ∷ run bs) [])) (b ∷ bs) ≡ cond t (b ∷ run bs) []) [ true ↦ ap (λ l. b ∷ l) (run_front bs) | false ↦ refl ]

no_space : (b : ℕ) → letter b ≡ true → eqb b 32 ≡ false
no_space b h = grind (arith, nat_tests)

pub letter_front : (b : ℕ) (bs : List ℕ) → letter b ≡ true → front b bs ≡ running b (run bs)
unfolding front
letter_front b bs h = sym (past _ _ (sym (no_space b h)) (here _ _ (sym h)))

-- a word at `at`, after spaces from p on
pub seen : (text : List ℕ) (p at after k : ℕ) (w : Word) → from text p ≡ from text at → p ≤ at → after ≡ at + 1 + k → after ≤ length text → front (get_or text at 0) (drop (suc at) text) ≡ word k w → (from text p ≡ next at w (from text after)) × (p < after) × (after ≤ length text)
seen text p at after k w s le e n f =
    (s ∙ word_step text at k w (omega arith) f ∙ ap (λ x. next at w (from text x)) (sym e), omega arith, n)

pub unseen : (text : List ℕ) (p at : ℕ) → from text p ≡ from text at → at < length text → front (get_or text at 0) (drop (suc at) text) ≡ none → from text p ≡ slip no_word at
unseen text p at s n f = s ∙ from_step text at none n f

pub overlong : (text : List ℕ) (p at : ℕ) → from text p ≡ from text at → at < length text → front (get_or text at 0) (drop (suc at) text) ≡ long → from text p ≡ slip too_long at
overlong text p at s n f = s ∙ from_step text at long n f

-- `-` and what follows it
pub arrow_front : (text : List ℕ) (at : ℕ) → get_or text at 0 ≡ 45 → at + 1 < length text → get_or text (at + 1) 0 ≡ 62 → front (get_or text at 0) (drop (suc at) text) ≡ word 1 arrow
unfolding front
arrow_front text at e n f =
    ap (λ b. front b (drop (suc at) text)) e
    ∙ ap arrowed (drop-cons text (suc at) 0 (omega arith) ∙ ap (λ x. x ∷ drop (suc (suc at)) text) (ap (λ i. get_or text i 0) (sym (add-one at)) ∙ f))

pub dash_front : (text : List ℕ) (at : ℕ) → get_or text at 0 ≡ 45 → (at + 1 < length text → get_or text (at + 1) 0 ≢ 62) → front (get_or text at 0) (drop (suc at) text) ≡ none
unfolding front
dash_front text at e n = ap (λ b. front b (drop (suc at) text)) e ∙ by (dec_lt (suc at) (length text))
  where
    by : Dec (suc at < length text) → arrowed (drop (suc at) text) ≡ none
    by (yes h) =
        ap arrowed (drop-cons text (suc at) 0 h)
        ∙ ap (λ t. cond t (word 1 arrow) none) (ne_eqb (get_or text (suc at) 0) 62 (subst (λ i. get_or text i 0 ≢ 62) (add-one at) (n (omega arith))))
    by (no h) = ap arrowed (drop_all (suc at) text (omega arith))

-- the stretch of a run with its first letter
pub run_part : (text : List ℕ) (at stop : ℕ) → at < length text → stop ≡ at + 1 + length (run (drop (at + 1) text)) → take (stop - at) (drop at text) ≡ get_or text at 0 ∷ run (drop (suc at) text)
run_part text at stop n e =
    let size : stop - at ≡ suc (length (run (drop (at + 1) text))) = omega arith in
    ap (λ k. take k (drop at text)) size
    ∙ ap (take (suc (length (run (drop (at + 1) text))))) (drop-cons text at 0 n)
    ∙ ap (λ l. get_or text at 0 ∷ l) (ap (λ i. take (length (run (drop i text))) (drop (suc at) text)) (add-one at) ∙ run_front (drop (suc at) text))

-- a run of at most 16 bytes, and a longer one
pub run_word : (text : List ℕ) (at stop : ℕ) → letter (get_or text at 0) ≡ true → stop ≡ at + 1 + length (run (drop (at + 1) text)) → stop ≤ at + 16 → front (get_or text at 0) (drop (suc at) text) ≡ word (length (run (drop (at + 1) text))) (spelled (get_or text at 0 ∷ run (drop (suc at) text)))
run_word text at stop l e n =
    letter_front _ _ l
    ∙ ap (λ t. cond t (word (length (run (drop (suc at) text))) (spelled (get_or text at 0 ∷ run (drop (suc at) text)))) long)
    (le-leb _ 15 (subst (λ i. length (run (drop i text)) ≤ 15) (add-one at) (omega arith)))
    ∙ ap (λ i. word (length (run (drop i text))) (spelled (get_or text at 0 ∷ run (drop (suc at) text)))) (sym (add-one at))

pub run_long : (text : List ℕ) (at stop : ℕ) → letter (get_or text at 0) ≡ true → stop ≡ at + 1 + length (run (drop (at + 1) text)) → at + 16 < stop → front (get_or text at 0) (drop (suc at) text) ≡ long
run_long text at stop l e n =
    letter_front _ _ l
    ∙ ap (λ t. cond t (word (length (run (drop (suc at) text))) (spelled (get_or text at 0 ∷ run (drop (suc at) text)))) long)
    (lt-leb _ 15 (subst (λ i. 15 < length (run (drop i text))) (add-one at) (omega arith)))
