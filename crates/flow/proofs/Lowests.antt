-- What a search that goes up from 0 has found is the lowest number that passes.
use Rattle.std.proofs.Common.{◌≡◌, ℕ, ◌<◌, Bool, true, false, Option, None, Some, refl, ap, ⊎_elim, MatchBool, MatchOption, is_some, arith}
use Rattle.std.proofs.lemmas.Bool.{both_ways, cases_lt}
use Rattle.flow.specs.Lowest.{lowest, Lowest, lowest_is}

-- no two answers differ
one_lowest : (f : ℕ → Bool) (n : ℕ) (o q : Option ℕ) → Lowest f n o → Lowest f n q → o ≡ q
one_lowest f n None None a b = refl
one_lowest f n None (Some j) a b = absurd (both_ways (f j) (a j b.0) b.1)
one_lowest f n (Some i) None a b = absurd (both_ways (f i) (b i a.0) a.1)
one_lowest f n (Some i) (Some j) a b =
    ⊎_elim
    (λ h. absurd (both_ways (f i) (b.2 i h) a.1))
    (λ h. ⊎_elim (λ k. absurd (both_ways (f j) (a.2 j k) b.1)) (λ k. let e : i ≡ j = omega arith in ap Some e) (cases_lt j i))
    (cases_lt i j)

-- a search's clause, by its two cases
pub lowest_found : (f : ℕ → Bool) (n : ℕ) (o : Option ℕ) → MatchOption o ((i : ℕ) → i < n → f i ≡ false) (λ i. (i < n) × (f i ≡ true) × ((j : ℕ) → j < i → f j ≡ false)) → o ≡ lowest f n
lowest_found f n None m = one_lowest f n None (lowest f n) m (lowest_is f n)
lowest_found f n (Some i) m = one_lowest f n (Some i) (lowest f n) m (lowest_is f n)

-- whether some number passes, by its two cases
pub some_lowest : (f : ℕ → Bool) (n : ℕ) (b : Bool) → MatchBool b ((i : ℕ) × (i < n) × (f i ≡ true)) ((i : ℕ) → i < n → f i ≡ false) → b ≡ is_some (lowest f n)
some_lowest f n true m = some (lowest f n) (lowest_is f n)
  where
    some : (o : Option ℕ) → Lowest f n o → true ≡ is_some o
    some None l = absurd (both_ways (f m.0) (l m.0 m.1) m.2)
    some (Some i) l = refl
some_lowest f n false m = none (lowest f n) (lowest_is f n)
  where
    none : (o : Option ℕ) → Lowest f n o → false ≡ is_some o
    none None l = refl
    none (Some i) l = absurd (both_ways (f i) (m i l.0) l.1)
