-- The lowest number that passes a test.
use Rattle.std.specs.Prelude.{◌≡◌, ℕ, zero, suc, ◌+◌, ◌<◌, Bool, true, false, cond, Some, None, Option, refl}
use Rattle.std.proofs.Common.{ap, ◌∙◌, ⊎_elim, arith}
use Rattle.std.proofs.lemmas.Bool.{cases_eq}

-- the lowest of the k numbers from i on that passes, or none
abbrev pub lowest_from : (ℕ → Bool) → ℕ → ℕ → Option ℕ
lowest_from f i zero = None
lowest_from f i (suc k) = cond (f i) (Some i) (lowest_from f (i + 1) k)

-- the lowest number below n that passes, or none
abbrev pub lowest : (ℕ → Bool) → ℕ → Option ℕ
lowest f n = lowest_from f 0 n

-- none: every number below n fails; i: it passes, it is below n, and every number below it fails
abbrev pub Lowest : (ℕ → Bool) → ℕ → Option ℕ → Type 0
Lowest f n None = (i : ℕ) → i < n → f i ≡ false
Lowest f n (Some i) = (i < n) × (f i ≡ true) × ((j : ℕ) → j < i → f j ≡ false)

abbrev Below : (ℕ → Bool) → ℕ → Type 0
Below f i = (j : ℕ) → j < i → f j ≡ false

below_more : (f : ℕ → Bool) (i : ℕ) → Below f i → f i ≡ false → Below f (i + 1)
below_more f i below e j h = ⊎_elim (λ q. ap f q ∙ e) (λ q. below j (omega arith)) (cases_eq j i)

-- the case at i, with what the numbers after it give
here_is : (f : ℕ → Bool) (n i : ℕ) (later : Option ℕ) (b : Bool) → i < n → f i ≡ b → Below f i → (f i ≡ false → Lowest f n later) → Lowest f n (cond b (Some i) later)
here_is f n i later true h e below more = (h, e, below)
here_is f n i later false h e below more = more e

from_is : (f : ℕ → Bool) (n i k : ℕ) → i + k ≡ n → Below f i → Lowest f n (lowest_from f i k)
from_is f n i zero e below = λ j h. below j (omega arith)
from_is f n i (suc k) e below =
    here_is f n i (lowest_from f (i + 1) k) (f i) (omega arith) refl below (λ q. from_is f n (i + 1) k (omega arith) (below_more f i below q))

-- the definition finds what the words say
pub lowest_is : (f : ℕ → Bool) (n : ℕ) → Lowest f n (lowest f n)
lowest_is f n = from_is f n 0 n (omega arith) (λ j h. absurd (omega arith))
