-- The names that a name list holds, and a name found in it.
use Rattle.std.specs.Prelude.{◌≡◌, ℕ, Bool, true, false, List, map, Some, None, Option}
use Rattle.std.specs.Borrow.{Bor}
use Rattle.fixed_vec.specs.FixedVec.{items}
use Rattle.grammar.specs.Forms.{Form}
use Rattle.grammar.specs.Forms.Form.{no_form, leaf}
use Rattle.grammar.specs.Reading.{Verdict, naming}
use Rattle.grammar.specs.Reading.Verdict.{right, wrong}
use Rattle.names.specs.declared.name.Name.{Name}

-- the names of a list of stretches
abbrev pub spellings : List (Bor (List ℕ)) → List (List ℕ)
spellings ns = map (λ n. n.now) ns

-- the bytes of a name
abbrev pub bytes_of : Name → List ℕ
bytes_of n = items n.bytes

-- the names of a list of entries
abbrev pub names_in : List Name → List (List ℕ)
names_in entries = map bytes_of entries

abbrev pub is_right : Verdict → Bool
is_right right = true
is_right (wrong p) = false

-- what a name stands for, by where it was found: its label, or `false`
abbrev pub found : Option ℕ → Form ℕ
found (Some i) = leaf i
found None = no_form

-- a name is made of these bytes exactly where they are one
abbrev pub Named : List ℕ → Option Name → Type 0
Named bytes (Some n) = (naming bytes ≡ true) × (bytes_of n ≡ bytes)
Named bytes None = naming bytes ≡ false
