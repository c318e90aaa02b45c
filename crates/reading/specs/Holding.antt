-- The parts that the code holds, as the parts of a form.
use Rattle.std.specs.Prelude.{ℕ, List, map, Some, None, Option}
use Rattle.grammar.specs.Forms as form
use Rattle.words.specs.Kinds.{part_of}
use Rattle.fixed_vec.specs.FixedVec.{items}
use Rattle.fixed_vec.specs.declared.FixedVec.{FixedVec}
use Rattle.reading.specs.declared.part.Part.{Part}

abbrev pub parting : Part → form.Part ℕ
parting p = part_of p.kind p.label

-- the parts in their order
abbrev pub parts_in : FixedVec Part 64 → List (form.Part ℕ)
parts_in v = map parting (items v)

-- the number of a label; none for other parts
abbrev pub label_of : form.Part ℕ → Option ℕ
label_of form.always = None
label_of form.never = None
label_of (form.known i) = Some i
label_of (form.on_one o) = None
label_of (form.on_two o) = None
