-- A list in which the test finds no wrong entry is a name list.
use Rattle.std.proofs.Common.{◌≡◌, ℕ, zero, suc, ◌+◌, ◌<◌, ◌≤◌, Bool, true, false, cond, leb, List, length, refl, subst, ⊎_elim, arith, leb-true}
use Rattle.std.proofs.lemmas.Bool.{cases_lt, and_parts}
use Rattle.grammar.specs.Names.{Names}
use Rattle.grammar.specs.Reading.{fine, Verdict, hunt, wrong_in}
use Rattle.grammar.specs.Reading.Verdict.{right, wrong}
use Rattle.grammar.proofs.Listings.{naming_name, absent_each}

-- a test that went right did not fail, and what comes after it went right too
went : (b : Bool) (v : Verdict) (i : ℕ) → cond b v (wrong i) ≡ right → (b ≡ true) × (v ≡ right)
went true v i e = (refl, e)
went false v i e = let z : ◌≡◌ {A = ℕ} 0 1 = cc in absurd (omega arith)

-- a hunt that finds nothing
pub hunt_all : (k i : ℕ) (f : ℕ → Bool) → hunt k i f ≡ right → (j : ℕ) → i ≤ j → j < i + k → f j ≡ true
hunt_all zero i f e j a b = absurd (omega arith)
hunt_all (suc k) i f e j a b =
    let w = went (f i) (hunt k (suc i) f) i e in
    ⊎_elim (λ h. hunt_all k (suc i) f w.1 j (omega arith) (omega arith))
    (λ h. let same : i ≡ j = omega arith in subst (λ x. f x ≡ true) same w.0)
    (cases_lt i j)

pub right_fine : (names : List (List ℕ)) → wrong_in names ≡ right → Names names
unfolding wrong_in
right_fine names e =
    let w = went (leb (length names) 32) (hunt (length names) 0 (fine names)) 32 e in
    let each : (i : ℕ) → i < length names → fine names i ≡ true = λ i h. hunt_all (length names) 0 (fine names) w.1 i (omega arith) (omega arith) in
    record {
      few = leb-true _ _ w.0;
      each = λ i h. naming_name _ (and_parts _ _ (each i h)).0;
      apart = λ i j h k. absent_each names j _ (and_parts _ _ (each j k)).1 (omega arith) i h;
    }
