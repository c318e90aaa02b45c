-- A chain of tests, as a chain of `cond`.
use Rattle.std.proofs.Common.{◌≡◌, Bool, true, false, cond, ap, ◌∙◌}

-- this test passed
pub here : {A : Type 0} {b : Bool} (x y : A) → true ≡ b → x ≡ cond b x y
here x y e = ap (λ t. cond t x y) e

-- this test failed, and the rest of the chain gives z
pub past : {A : Type 0} {b : Bool} {z : A} (x y : A) → false ≡ b → z ≡ y → z ≡ cond b x y
past x y e h = h ∙ ap (λ t. cond t x y) e
