-- The items of a list in fixed memory, and what adding items to one does.
use Rattle.std.specs.Prelude.{◌≡◌, ℕ, ◌+◌, ◌<◌, List, ◌++◌, length, take, Ok, Err, Result}
use Rattle.fixed_vec.specs.declared.FixedVec.{FixedVec}
use Rattle.fixed_vec.specs.declared.Full.{Full}

-- those in its first places, as many as are in use
abbrev pub items : {T : Type 0} {N : ℕ} → FixedVec T N → List T
items v = take v.len v.places

-- items were added at the end, or there are too few free places and the list is as it was
abbrev pub Extended : {T : Type 0} {N : ℕ} → FixedVec T N → FixedVec T N → List T → Result (Unit {0}) Full → Type 0
Extended old new more (Ok _) = items new ≡ items old ++ more
Extended {N = N} old new more (Err _) = (new ≡ old) × (N < length (items old) + length more)
