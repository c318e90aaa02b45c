-- A name list entry by entry: a name looked for in it, and a list that is right or wrong by its last entry.
use Rattle.std.proofs.Common.{◌≡◌, ℕ, suc, ◌+◌, ◌<◌, ◌≤◌, Bool, true, false, cond, ◌&&◌, leb, List, [], ◌∷◌, ◌++◌, length, get_or, take, drop, sym, refl, ap, ◌∙◌, subst, add-one, arith, drop-cons, leb-false, leb-true}
use Rattle.std.proofs.lemmas.List.{drop_all, get_or_push, get_or-take, length_push, length-take-le, take_at, take-take}
use Rattle.grammar.specs.Forms.{Form}
use Rattle.grammar.specs.Forms.Form.{yes_form, no_form, leaf, one, two}
use Rattle.grammar.specs.Words.{same}
use Rattle.grammar.specs.Answering.{meant}
use Rattle.grammar.specs.Reading.{naming, absent, fine, wrong_in}
use Rattle.grammar.specs.Reading.Verdict.{right, wrong}
use Rattle.grammar.proofs.Listings.{hunt_right, hunt_wrong, wrong_short}
use Rattle.grammar.proofs.Rights.{hunt_all, right_fine}

-- one name passed over, and one found
module _ (names : List (List ℕ)) (i : ℕ) (n : List ℕ) where
  at_place : i < length names → meant i (drop i names) n ≡ cond (same (get_or names i []) n) (leaf i) (meant (i + 1) (drop (i + 1) names) n)
  at_place h =
      ap (λ l. meant i l n) (drop-cons names i [] h)
      ∙ ap (λ j. cond (same (get_or names i []) n) (leaf i) (meant j (drop j names) n)) (sym (add-one i))

  pub meant_past : i < length names → same (get_or names i []) n ≡ false → meant i (drop i names) n ≡ meant (i + 1) (drop (i + 1) names) n
  meant_past h e = at_place h ∙ ap (λ b. cond b (leaf i) (meant (i + 1) (drop (i + 1) names) n)) e

  pub meant_here : i < length names → same (get_or names i []) n ≡ true → meant i (drop i names) n ≡ leaf i
  meant_here h e = at_place h ∙ ap (λ b. cond b (leaf i) (meant (i + 1) (drop (i + 1) names) n)) e

  pub meant_end : length names ≤ i → meant i (drop i names) n ≡ no_form
  meant_end h = ap (λ l. meant i l n) (drop_all i names h)

abbrev Leafless : Form ℕ → Type 0
Leafless yes_form = Unit {0}
Leafless no_form = Unit {0}
Leafless (leaf i) = ⊥
Leafless (one k f) = Unit {0}
Leafless (two k f g) = Unit {0}

-- whether a name stands for a label is whether the list has it
pub leaf_absent : (names : List (List ℕ)) (i j : ℕ) (n : List ℕ) → meant i names n ≡ leaf j → absent names n ≡ false
leaf_absent [] i j n e = absurd (subst Leafless e tt)
leaf_absent (m ∷ ms) i j n e = go (same m n) e (leaf_absent ms (suc i) j n)
  where
    go : (b : Bool) → cond b (leaf i) (meant (suc i) ms n) ≡ leaf j → (meant (suc i) ms n ≡ leaf j → absent ms n ≡ false) → cond b false (absent ms n) ≡ false
    go true x ih = refl
    go false x ih = ih x

pub no_absent : (names : List (List ℕ)) (i : ℕ) (n : List ℕ) → meant i names n ≡ no_form → absent names n ≡ true
no_absent [] i n e = refl
no_absent (m ∷ ms) i n e = go (same m n) e (no_absent ms (suc i) n)
  where
    go : (b : Bool) → cond b (leaf i) (meant (suc i) ms n) ≡ no_form → (meant (suc i) ms n ≡ no_form → absent ms n ≡ true) → cond b false (absent ms n) ≡ true
    go true x ih = absurd (subst Leafless (sym x) tt)
    go false x ih = ih x

module _ (names : List (List ℕ)) (r : wrong_in names ≡ right) where
  pub right_few : length names ≤ 32
  right_few = (right_fine names r).few

  pub right_each : (j : ℕ) → j < length names → fine names j ≡ true
  right_each j h = hunt_all (length names) 0 (fine names) (sym (wrong_short names right_few) ∙ r) j (omega arith) (omega arith)

-- an entry among the first ones
fine-take : (names : List (List ℕ)) (i j : ℕ) → j < i → fine (take i names) j ≡ fine names j
fine-take names i j h =
    let at = get_or-take i names j [] h in
    let front = take-take j i names (omega arith) in
    λ t. naming (at t) && absent (front t) (at t)

-- the first entries are right, and the next is not fine
pub wrong_next : (names : List (List ℕ)) (i : ℕ) → length names ≤ 32 → i < length names → wrong_in (take i names) ≡ right → fine names i ≡ false → wrong_in names ≡ wrong i
wrong_next names i n h r w =
    let l = length-take-le i names (omega arith) in
    wrong_short names n
    ∙ hunt_wrong (length names) 0 (fine names) i (record {
      from = omega arith;
      below = omega arith;
      before = λ j a b. sym (fine-take names i j b) ∙ right_each (take i names) r j (omega arith);
      there = w;
    })

-- a right list and one name more that it lacks
pub right_push : (names : List (List ℕ)) (n : List ℕ) → length names < 32 → wrong_in names ≡ right → naming n ≡ true → absent names n ≡ true → wrong_in (names ++ n ∷ []) ≡ right
right_push names n h r name new =
    let l = length_push names n in
    wrong_short (names ++ n ∷ []) (omega arith)
    ∙ hunt_right (length (names ++ n ∷ [])) 0 (fine (names ++ n ∷ [])) (λ j a b. go j (omega arith) (leb (suc j) (length names)) refl)
  where
    front : take (length names) (names ++ n ∷ []) ≡ names
    front = take_at names (n ∷ []) (length names) refl

    last : get_or (names ++ n ∷ []) (length names) [] ≡ n
    last = get_or_push names n [] (length names) refl

    at_last : fine (names ++ n ∷ []) (length names) ≡ true
    at_last = (λ t. naming (last t) && absent (front t) (last t)) ∙ ap (λ b. b && absent names n) name ∙ new

    go : (j : ℕ) → j < length names + 1 → (t : Bool) → leb (suc j) (length names) ≡ t → fine (names ++ n ∷ []) j ≡ true
    go j k true e =
        let low = leb-true _ _ e in
        sym (fine-take (names ++ n ∷ []) (length names) j low) ∙ ap (λ l. fine l j) front ∙ right_each names r j low
    go j k false e = let high = leb-false _ _ e in ap (fine (names ++ n ∷ [])) (omega arith) ∙ at_last
