-- What each kind of part is: its part of a form, and the columns of the table of kinds.
use Rattle.std.specs.Prelude.{ℕ, Bool, true, false, List, [], codes}
use Rattle.grammar.specs.Forms.{Part, arity}
use Rattle.grammar.specs.Forms.Part.{always, never, known, on_one, on_two}
use Rattle.grammar.specs.Forms.Unary.{neg, ex, ax, ef, af, eg, ag}
use Rattle.grammar.specs.Forms.Binary.{both, either, implies, until}
use Rattle.grammar.specs.Forms.Path.{every, some}
use Rattle.grammar.specs.Writing.{mark, opening, middle, closing}
use Rattle.words.specs.declared.kinds.Kind.{Kind}
use Rattle.words.specs.declared.kinds.Kind.TheVariants.{True, False, Label, Not, And, Or, Implies, Ex, Ax, Ef, Af, Eg, Ag, Eu, Au}
use Rattle.words.specs.declared.kinds.Binding.{Binding}
use Rattle.words.specs.declared.kinds.Binding.TheVariants as binds

-- the part of that kind; the number is read of a label alone
abbrev pub part_of : Kind → ℕ → Part ℕ
part_of True l = always
part_of False l = never
part_of Label l = known l
part_of Not l = on_one neg
part_of And l = on_two both
part_of Or l = on_two either
part_of Implies l = on_two implies
part_of Ex l = on_one ex
part_of Ax l = on_one ax
part_of Ef l = on_one ef
part_of Af l = on_one af
part_of Eg l = on_one eg
part_of Ag l = on_one ag
part_of Eu l = on_two (until some)
part_of Au l = on_two (until every)

abbrev pub arity_of : Kind → ℕ
arity_of k = arity (part_of k 0)

-- the kinds whose first operand has the other sign
abbrev pub flips_of : Kind → Bool
flips_of True = false
flips_of False = false
flips_of Label = false
flips_of Not = true
flips_of And = false
flips_of Or = false
flips_of Implies = true
flips_of Ex = false
flips_of Ax = false
flips_of Ef = false
flips_of Af = false
flips_of Eg = false
flips_of Ag = false
flips_of Eu = false
flips_of Au = false

abbrev pub binding_of : Kind → Binding
binding_of True = binds.Atom
binding_of False = binds.Atom
binding_of Label = binds.Atom
binding_of Not = binds.Unary
binding_of And = binds.And
binding_of Or = binds.Or
binding_of Implies = binds.Implies
binding_of Ex = binds.Unary
binding_of Ax = binds.Unary
binding_of Ef = binds.Unary
binding_of Af = binds.Unary
binding_of Eg = binds.Unary
binding_of Ag = binds.Unary
binding_of Eu = binds.Atom
binding_of Au = binds.Atom

-- what is written before the operands of a part, or for a constant
abbrev pub before : Part ℕ → List ℕ
before always = codes "true"
before never = codes "false"
before (known l) = []
before (on_one o) = mark o
before (on_two o) = opening o

abbrev pub between : Part ℕ → List ℕ
between always = []
between never = []
between (known l) = []
between (on_one o) = []
between (on_two o) = middle o

abbrev pub after : Part ℕ → List ℕ
after always = []
after never = []
after (known l) = []
after (on_one o) = []
after (on_two o) = closing o

abbrev pub before_of : Kind → List ℕ
before_of k = before (part_of k 0)

abbrev pub between_of : Kind → List ℕ
between_of k = between (part_of k 0)

abbrev pub after_of : Kind → List ℕ
after_of k = after (part_of k 0)
