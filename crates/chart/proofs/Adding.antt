-- Chains over the numbers below n, as sums.
use Rattle.std.proofs.Common.{◌≡◌, ℕ, zero, suc, ◌+◌, ◌*◌, ◌≤◌, Bool, true, false, cond, List, ◌∷◌, length, filter, sum_by, refl, ap, ◌∙◌, arith}
use Rattle.std.specs.List.{range_with_len}
use Rattle.std.proofs.lemmas.List.Sums.{sum_by-cons}
use Rattle.chart.specs.Counts.{sum_from}

pub sum_range : (f : ℕ → ℕ) (i k : ℕ) → sum_by f (range_with_len i k) ≡ sum_from f i k
sum_range f i zero = refl
sum_range f i (suc k) = sum_by-cons f i (range_with_len (i + 1) k) ∙ ap (λ (n : ℕ). f i + n) (sum_range f (i + 1) k)

-- a sum of numbers that are at most m each
pub sum_most : (f : ℕ → ℕ) (m : ℕ) → ((s : ℕ) → f s ≤ m) → (i k : ℕ) → sum_from f i k ≤ m * k
sum_most f m h i zero = omega arith
sum_most f m h i (suc k) = let e : m * suc k ≡ m + m * k = omega arith in omega (arith, h i, sum_most f m h (i + 1) k)

-- how many of them pass a test
one_more : (xs : List ℕ) (i n : ℕ) (b : Bool) → length xs ≡ n → length (cond b (i ∷ xs) xs) ≡ cond b 1 0 + n
one_more xs i n true e = omega arith
one_more xs i n false e = omega arith

pub count_range : (p : ℕ → Bool) (i k : ℕ) → length (filter p (range_with_len i k)) ≡ sum_from (λ s. cond (p s) 1 0) i k
count_range p i zero = refl
count_range p i (suc k) = one_more (filter p (range_with_len (i + 1) k)) i _ (p i) (count_range p (i + 1) k)
