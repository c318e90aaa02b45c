-- An input with a byte 10 at its end, and one without.
use Rattle.std.proofs.Common.{◌≡◌, ℕ, eqb, List, [], ◌∷◌, ◌++◌, Some, None, Option, unwrap_or, sym, refl, ap, ◌∙◌, Bor, MatchOption}
use Rattle.std.proofs.lemmas.Bool.{cond-false, ne_eqb}
use Rattle.rulecheck.specs.Answer.{text_in}

ended : (xs : List ℕ) → text_in (xs ++ 10 ∷ []) ≡ xs
ended [] = refl
ended (x ∷ []) = refl
ended (x ∷ y ∷ xs) = ap (λ (ys : List ℕ). x ∷ ys) (ended (y ∷ xs))

open_ended : (xs : List ℕ) → ((front : List ℕ) → xs ≡ front ++ 10 ∷ [] → ⊥) → text_in xs ≡ xs
open_ended [] no_end = refl
open_ended (x ∷ []) no_end = cond-false (eqb x 10) [] (x ∷ []) (ne_eqb x 10 (λ e. no_end [] (ap (λ (b : ℕ). b ∷ []) e)))
open_ended (x ∷ y ∷ xs) no_end =
    ap (λ (ys : List ℕ). x ∷ ys) (open_ended (y ∷ xs) (λ front e. no_end (x ∷ front) (ap (λ (ys : List ℕ). x ∷ ys) e)))

-- the text before a byte 10 at the end, or the whole input
pub stripped : (input : Bor (List ℕ)) (o : Option (Bor (List ℕ))) → MatchOption o ((front : List ℕ) → input.now ≡ front ++ 10 ∷ [] → ⊥) (λ text. input.now ≡ text.now ++ 10 ∷ []) → (unwrap_or o input).now ≡ text_in input.now
stripped input None h = sym (open_ended input.now h)
stripped input (Some text) h = sym (ap text_in h ∙ ended text.now)
