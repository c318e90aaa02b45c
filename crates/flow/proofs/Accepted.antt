-- What each check of a filling, once passed, says of the tables.
use Rattle.std.proofs.Common.{◌≡◌, ℕ, zero, suc, ◌+◌, ◌-◌, ◌<◌, ◌≤◌, Bool, true, false, leb, List, length, get_or, Option, None, Some, Ok, Err, OnOk, refl, sym, subst, le_trans, le_refl, arith}
use Rattle.std.proofs.lemmas.Bool.{and_parts, not-false, leb-true, leb-false, eqb-false}
use Rattle.flow.specs.declared.faults.FillFault.{FillFault}
use Rattle.flow.specs.declared.faults.FillFault.TheVariants.{NoMove, Target}
use Rattle.flow.specs.Lowest.{lowest, Lowest, lowest_is}
use Rattle.flow.specs.Tables.{Tables, Stepped, Moving, Aimed}
use Rattle.flow.specs.Filling.{Answer, nowhere, bad_step, still, moving, astray, aimed}

-- where the search for the lowest finds none, every number fails the test
none_passes : (f : ℕ → Bool) (n : ℕ) → None ≡ lowest f n → (i : ℕ) → i < n → f i ≡ false
none_passes f n e = subst (Lowest f n) (sym e) (lowest_is f n)

-- an acceptance by such a search has found none
found_none : (fault : ℕ → FillFault) (o : Option ℕ) → Ok tt ≡ nowhere fault o → None ≡ o
found_none fault None e = refl
found_none fault (Some p) e = cc

-- bounds that do not fall up to n end at their highest
rising : (xs : List ℕ) (n : ℕ) → ((s : ℕ) → s < n → get_or xs s 0 ≤ get_or xs (s + 1) 0) → (k i : ℕ) → i + k ≡ n → get_or xs i 0 ≤ get_or xs n 0
rising xs n up zero i e = let z : i ≡ n = omega arith in subst (λ (m : ℕ). get_or xs i 0 ≤ get_or xs m 0) z (le_refl (get_or xs i 0))
rising xs n up (suc k) i e = le_trans (up i (omega arith)) (rising xs n up k (i + 1) (omega arith))

module _ (t : Tables) where
  pub stepped_if_none : None ≡ lowest (bad_step t) (length t.labels) → get_or t.bounds (length t.labels) 0 ≡ length t.moves → Stepped t
  stepped_if_none none end s h =
      let n = length t.labels in
      let bs = t.bounds in
      let step : (i : ℕ) → i < n → (leb (get_or bs i 0) (get_or bs (i + 1) 0) ≡ true) × (leb (get_or bs (i + 1) 0) (get_or bs i 0 + 64) ≡ true) =
      λ i l. and_parts _ _ (not-false _ (none_passes (bad_step t) n none i l)) in
      let up : (i : ℕ) → i < n → get_or bs i 0 ≤ get_or bs (i + 1) 0 = λ i l. leb-true _ _ (step i l).0 in
      (up s h, leb-true _ _ (step s h).1, omega (arith, rising bs n up (n - (s + 1)) (s + 1) (omega arith)))

  pub moving_if_ok : (r : Answer) → r ≡ moving t → OnOk r (Moving t)
  moving_if_ok (Ok u) e =
      λ s h.
      eqb-false (get_or t.bounds s 0) (get_or t.bounds (s + 1) 0) (none_passes (still t) (length t.labels) (found_none NoMove _ e) s h)
  moving_if_ok (Err x) e = tt

  pub aimed_if_ok : (r : Answer) → r ≡ aimed t → OnOk r (Aimed t)
  aimed_if_ok (Ok u) e =
      λ i h.
      leb-false (length t.labels) (get_or t.moves i 0) (none_passes (astray t) (length t.moves) (found_none Target _ e) i h)
  aimed_if_ok (Err x) e = tt
