-- Names, and the name list of a rule.
use Rattle.std.specs.Prelude.{◌≡◌, ℕ, ◌<◌, ◌≤◌, Bool, true, false, ◌&&◌, List, [], ◌∷◌, length, slice_index_or}
use Rattle.grammar.specs.Forms.{Form}
use Rattle.grammar.specs.Forms.Form.{yes_form, no_form, leaf, one, two}
use Rattle.grammar.specs.Words.{letter, inner, same, spelled}
use Rattle.grammar.specs.Words.Word.{name}

-- letters, digits and underscores alone
abbrev pub all_inner : List ℕ → Bool
all_inner [] = true
all_inner (b ∷ bs) = inner b && all_inner bs

-- a run that begins with a letter, of at most 16 bytes, and not reserved
abbrev pub Name : List ℕ → Type 0
Name [] = ⊥
Name (b ∷ r) = (letter b ≡ true) × (all_inner r ≡ true) × (length r ≤ 15) × (spelled (b ∷ r) ≡ name (b ∷ r))

-- a name list: at most 32 names, none repeated
pub record Names (names : List (List ℕ)) : Type 0 where
  pub few : length names ≤ 32
  pub each : (i : ℕ) → i < length names → Name (slice_index_or names i [])
  pub apart : (i j : ℕ) → i < j → j < length names → same (slice_index_or names i []) (slice_index_or names j []) ≡ false

-- each label of the form has its entry
abbrev pub Known : List (List ℕ) → Form ℕ → Type 0
Known names yes_form = Unit {0}
Known names no_form = Unit {0}
Known names (leaf i) = i < length names
Known names (one k f) = Known names f
Known names (two k f g) = Known names f × Known names g
