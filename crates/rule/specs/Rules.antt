-- What a rule means: its form and its names; and what its calls answer of a part by number.
use Rattle.std.specs.Prelude.{ℕ, Bool, cond, not, List, ◌++◌, length, drop, Some, None, Option, ◌==◌, nat_lt, slice_index, slice_index_or}
use Rattle.grammar.specs.Forms as form
use Rattle.grammar.specs.Shape.{form_of}
use Rattle.grammar.specs.Striking.{struck}
use Rattle.grammar.specs.Writing.{written}
use Rattle.grammar.specs.Signs as signs
use Rattle.grammar.specs.Numbering as numbers
use Rattle.reading.specs.Holding.{parts_in}
use Rattle.names.specs.Lists.{names_of}
use Rattle.rule.specs.declared.rule.Rule.{Rule}

-- the tree of a rule
abbrev pub form_in : Rule → form.Form ℕ
form_in r = form_of (parts_in r.parts)

-- the names of a rule
abbrev pub names_in : Rule → List (List ℕ)
names_in r = names_of r.names

-- what is said of part i, where the form has one
abbrev pub of_part : {B : Type 0} → form.Form ℕ → ℕ → B → Option B
of_part f i b = cond (nat_lt i (form.size f)) (Some b) None

-- the part with that number, its operands, and its sign
abbrev pub part_at : form.Form ℕ → ℕ → Option (form.Part ℕ)
part_at f i = of_part f i (slice_index_or (form.parts f) i form.always)

abbrev pub operands_at : form.Form ℕ → ℕ → Option numbers.Operands
operands_at f i = of_part f i (numbers.operands_in f i)

abbrev pub sign_at : form.Form ℕ → ℕ → Option signs.Sign
sign_at f i = of_part f i (signs.sign f i)

-- the parts that a row of marks strikes: those whose byte is not 0; a part past the row is not struck
abbrev pub marked : List ℕ → ℕ → Bool
marked ms i = not (slice_index ms i == 0)

-- the rule with the marked parts struck
abbrev pub struck_in : List ℕ → Rule → form.Form ℕ
struck_in ms r = struck (marked ms) (form_in r)

-- the text of a rule, and of a rule with the marked parts struck
abbrev pub text_of : Rule → List ℕ
text_of r = written (names_in r) (form_in r)

abbrev pub struck_text : List ℕ → Rule → List ℕ
struck_text ms r = written (names_in r) (struck_in ms r)

-- the buffer begins with the bytes and is as it was past them, or it is too short, as it was, and the length is 0
abbrev pub too_short : List ℕ → List ℕ → Bool
too_short bytes out = nat_lt (length out) (length bytes)

abbrev pub length_in : List ℕ → List ℕ → ℕ
length_in bytes out = cond (too_short bytes out) 0 (length bytes)

abbrev pub put_into : List ℕ → List ℕ → List ℕ
put_into bytes out = cond (too_short bytes out) out (bytes ++ drop (length bytes) out)
