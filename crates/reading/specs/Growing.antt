-- The parts that were added while a text is read.
use Rattle.std.specs.Prelude.{◌≡◌, ℕ, min, List, [], ◌∷◌, ◌++◌, length, take}
use Rattle.grammar.specs.Forms as form
use Rattle.grammar.specs.Grammar.{Tree}
use Rattle.grammar.specs.Answering.{resolve}
use Rattle.reading.specs.Holding.{parts_in}
use Rattle.reading.specs.declared.parts.Parts.{Parts}

-- these parts are held, the first 64 of them
pub record Holds (s : Parts) (xs : List (form.Part ℕ)) : Type 0 where
  pub counted : s.count ≡ min (length xs) 65
  pub kept : parts_in s.kept ≡ take 64 xs

-- the parts of a tree, by the name list
abbrev pub parts_of : List (List ℕ) → Tree → List (form.Part ℕ)
parts_of names f = form.parts (resolve names f)

-- a part was added
abbrev pub Added : Parts → Parts → form.Part ℕ → Type 0
Added a b p = (xs : List (form.Part ℕ)) → Holds a xs → Holds b (xs ++ p ∷ [])

-- the parts of a tree were added
abbrev pub Grown : List (List ℕ) → Parts → Parts → Tree → Type 0
Grown names a b f = (xs : List (form.Part ℕ)) → Holds a xs → Holds b (xs ++ parts_of names f)
