-- How a rule is written.
use Rattle.std.specs.Prelude.{ℕ, List, [], ◌++◌, codes, slice_index_or}
use Rattle.grammar.specs.Forms.{Form, Unary, Binary}
use Rattle.grammar.specs.Forms.Form.{yes_form, no_form, leaf, one, two}
use Rattle.grammar.specs.Forms.Unary.{neg, ex, ax, ef, af, eg, ag}
use Rattle.grammar.specs.Forms.Path.{every, some}
use Rattle.grammar.specs.Forms.Binary.{both, either, implies, until}

-- `!`, or a two-letter word and a space
abbrev pub mark : Unary → List ℕ
mark neg = codes "!"
mark ex = codes "EX "
mark ax = codes "AX "
mark ef = codes "EF "
mark af = codes "AF "
mark eg = codes "EG "
mark ag = codes "AG "

-- what stands before, between and after two operands: `(X & Y)`, `(X | Y)`, `(X -> Y)`, `A[X U Y]`, `E[X U Y]`
abbrev pub opening : Binary → List ℕ
opening both = codes "("
opening either = codes "("
opening implies = codes "("
opening (until every) = codes "A["
opening (until some) = codes "E["

abbrev pub middle : Binary → List ℕ
middle both = codes " & "
middle either = codes " | "
middle implies = codes " -> "
middle (until q) = codes " U "

abbrev pub closing : Binary → List ℕ
closing both = codes ")"
closing either = codes ")"
closing implies = codes ")"
closing (until q) = codes "]"

abbrev pub written : List (List ℕ) → Form ℕ → List ℕ
written names yes_form = codes "true"
written names no_form = codes "false"
written names (leaf i) = slice_index_or names i []
written names (one k f) = mark k ++ written names f
written names (two k f g) = opening k ++ (written names f ++ (middle k ++ (written names g ++ closing k)))
