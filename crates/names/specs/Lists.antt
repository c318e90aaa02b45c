-- What a name list holds and answers.
use Rattle.std.specs.Prelude.{◌≡◌, ℕ, ◌<◌, ◌≤◌, true, false, ◌&&◌, List, [], length, Some, None, Ok, Err, Option, Result, slice_index_or}
use Rattle.std.specs.Borrow.{Bor}
use Rattle.fixed_vec.specs.FixedVec.{items}
use Rattle.grammar.specs.Reading.{absent, naming, wrong_in}
use Rattle.grammar.specs.Reading.Verdict.{right, wrong}
use Rattle.names.specs.Naming.{bytes_of, names_in}
use Rattle.names.specs.declared.name.Name.{Name}
use Rattle.names.specs.declared.names.Names.{Names}
use Rattle.names.specs.declared.faults.NamesFault.{NamesFault}
use Rattle.names.specs.declared.faults.NamesFault.TheVariants.{Many, Entry}

-- the names of a list, entry by entry
abbrev pub names_of : Names → List (List ℕ)
names_of l = names_in (items l.entries)

-- the place of a fault of a name list: its entry, or 32 where there are more
abbrev pub entry_of : NamesFault → ℕ
entry_of Many = 32
entry_of (Entry i) = i

-- the list holds these names where they are a name list; else the fault is at the first entry that is none
abbrev pub Listed : List (List ℕ) → Result Names NamesFault → Type 0
Listed names (Ok l) = (wrong_in names ≡ right) × (names_of l ≡ names)
Listed names (Err e) = wrong_in names ≡ wrong (entry_of e)

-- the entry of a label, or none past the last
abbrev pub Got : List (List ℕ) → ℕ → Option (Bor (List ℕ)) → Type 0
Got names i (Some n) = (i < length names) × (n.now ≡ slice_index_or names i [])
Got names i None = length names ≤ i

-- a name is made of these bytes exactly where they are one that the list lacks
abbrev pub Fresh : List (List ℕ) → List ℕ → Option Name → Type 0
Fresh names bytes (Some n) = (absent names bytes ≡ true) × (bytes_of n ≡ bytes)
Fresh names bytes None = (naming bytes && absent names bytes) ≡ false
