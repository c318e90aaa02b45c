-- What a flow means, and the limits that every flow keeps.
use Rattle.std.specs.Prelude.{◌≡◌, ℕ, ◌<◌, ◌≤◌, Bool, true, false, List, [], ◌∷◌, length, slice_index}

-- a set of states: the numbers at which it is `true`
abbrev pub Set : Type 0
Set = ℕ → Bool

-- a flow (a Kripke structure): how many states it has, numbered from 0, the list of next states of each state,
-- the starts, and for each label the states that carry it
pub record Meaning : Type 0 where
  pub count : ℕ
  pub nexts : ℕ → List ℕ
  pub start : Set
  pub label : ℕ → Set

-- 1 to 1,024 states; each has 1 to 64 next states, which are states; a start, and starts are states;
-- labels 0 to 31, at states only
pub record Limits (m : Meaning) : Type 0 where
  pub some_state : 1 ≤ m.count
  pub few_states : m.count ≤ 1024
  pub some_next : (s : ℕ) → s < m.count → 1 ≤ length (m.nexts s)
  pub few_nexts : (s : ℕ) → length (m.nexts s) ≤ 64
  pub next_below : (s k : ℕ) → k < length (m.nexts s) → slice_index (m.nexts s) k < m.count
  pub none_beyond : (s : ℕ) → m.count ≤ s → m.nexts s ≡ []
  pub start_below : (s : ℕ) → m.start s ≡ true → s < m.count
  pub some_start : (s : ℕ) × (m.start s ≡ true)
  pub label_below : (l s : ℕ) → m.label l s ≡ true → (l < 32) × (s < m.count)

-- one state, which is a start and its own next state, without labels
pub record Alone (m : Meaning) : Type 0 where
  pub one : m.count ≡ 1
  pub itself : m.nexts 0 ≡ 0 ∷ []
  pub begins : m.start 0 ≡ true
  pub bare : (l : ℕ) → m.label l 0 ≡ false
