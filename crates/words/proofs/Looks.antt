-- What a byte begins, runs, and how many bytes a word takes.
use Rattle.std.proofs.Common.{◌≡◌, ℕ, suc, ◌+◌, ◌-◌, ◌<◌, ◌≤◌, Bool, true, false, cond, eqb, ◌≢◌, List, [], ◌∷◌, length, get_or, take, drop, codes, sym, refl, ap, ◌∙◌, arith, length-drop, length-take-le, ne_eqb}
use Rattle.std.proofs.lemmas.Bool.{and_parts}
use Rattle.words.specs.Wording.{extent}
use borrow.Author.Tests.{clash}
use Rattle.grammar.specs.Scanning.{Front, front, from, signed}
use Rattle.grammar.specs.Scanning.Front.{word}
use Rattle.grammar.specs.Words.Stream.{next}
use Rattle.grammar.proofs.Streams.{seen}
use Rattle.grammar.specs.Words.{Word, letter, inner, same, spelled}
use Rattle.grammar.specs.Scanning.{run}
use Rattle.std.specs.List.{take_while}
use Rattle.std.proofs.lemmas.List.Sums.{take_while-cons}
use Rattle.grammar.proofs.Chains.{past}

signed_alone : (b : ℕ) (bs : List ℕ) → b ≢ 45 → signed b bs ≡ signed b []
signed_alone b bs h = let e = ne_eqb b 45 h in simp e

pub sign_front : (b : ℕ) (bs : List ℕ) (f : Front) → b ≢ 32 → letter b ≡ false → b ≢ 45 → f ≡ signed b [] → front b bs ≡ f
unfolding front
sign_front b bs f s l d e = sym (past _ _ (sym (ne_eqb b 32 s)) (past _ _ (sym l) (e ∙ sym (signed_alone b bs d))))

same_length : (a b : List ℕ) → same a b ≡ true → length a ≡ length b
same_length [] [] e = refl
same_length [] (y ∷ ys) e = absurd (clash e)
same_length (x ∷ xs) [] e = absurd (clash e)
same_length (x ∷ xs) (y ∷ ys) e = ap suc (same_length xs ys (and_parts (eqb x y) (same xs ys) e).1)

pub other_length : (a b : List ℕ) → length a ≢ length b → same a b ≡ false
other_length a b h = by (same a b) refl
  where
    by : (t : Bool) → same a b ≡ t → same a b ≡ false
    by true e = absurd (h (same_length a b e))
    by false e = e

-- a run is the front of the bytes that are inner
pub run_length : (bs : List ℕ) → length (take_while inner bs) ≡ length (run bs)
run_length [] = refl
run_length (b ∷ bs) = let e = run_length bs in simp take_while-cons (elim (inner b) as (λ t. length (cond t (b ∷ take_while inner bs) []) ≡ length (cond t (b ∷ run bs) [])) [ true ↦ ap suc e | false ↦ refl ])

-- one link of the chain of reserved words
link : (b : Bool) (n r : List ℕ) (w rest : Word) → same n r ≡ b → extent w ≡ length r → extent rest ≡ length n → extent (cond b w rest) ≡ length n
link true n r w rest e f g = f ∙ sym (same_length n r e)
link false n r w rest e f g = g

pub extent-spelled : (n : List ℕ) → extent (spelled n) ≡ length n
unfolding spelled
extent-spelled n =
    link _ n (codes "A") _ _ refl refl
    (link _ n (codes "E") _ _ refl refl
    (link _ n (codes "U") _ _ refl refl
    (link _ n (codes "AX") _ _ refl refl
    (link _ n (codes "EX") _ _ refl refl
    (link _ n (codes "AF") _ _ refl refl
    (link _ n (codes "EF") _ _ refl refl
    (link _ n (codes "AG") _ _ refl refl
    (link _ n (codes "EG") _ _ refl refl
    (link _ n (codes "true") _ _ refl refl
    (link _ n (codes "false") _ _ refl refl refl))))))))))

-- a run of so many bytes from a place on takes these
pub run-extent : (text : List ℕ) (at stop : ℕ) (w : Word) → at < stop → stop ≤ length text → w ≡ spelled (take (stop - at) (drop at text)) → stop ≡ at + extent w
run-extent text at stop w h n e =
    let long : length (take (stop - at) (drop at text)) ≡ stop - at = length-take-le (stop - at) (drop at text) (simp length-drop (omega arith)) in
    let is : extent w ≡ length (take (stop - at) (drop at text)) = ap extent e ∙ extent-spelled (take (stop - at) (drop at text)) in
    omega arith

-- a word that begins at a byte and takes k bytes more
pub begins : (text : List ℕ) (at after k : ℕ) (w : Word) → after ≡ at + 1 + k → after ≤ length text → front (get_or text at 0) (drop (suc at) text) ≡ word k w → after ≡ at + extent w → (from text at ≡ next at w (from text after)) × (at < after) × (after ≤ length text) × (after ≡ at + extent w)
begins text at after k w a l f e = let t = seen text at at after k w refl (omega arith) a l f in (t.0, t.1, t.2, e)
