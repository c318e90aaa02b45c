-- What the table says of a kind, as what its part is.
use Rattle.std.proofs.Common.{◌≡◌, ℕ, ◌≤◌, cond, refl, ap, ◌∙◌, arith}
use Rattle.grammar.specs.Forms.{Part, arity}
use Rattle.grammar.specs.Forms.Part.{always, never, known, on_one, on_two}
use Rattle.grammar.specs.Signs.{Sign, flip, under, left}
use Rattle.words.specs.Kinds.{part_of, arity_of, flips_of}
use Rattle.words.specs.declared.kinds.Kind.{Kind}
use Rattle.words.specs.declared.kinds.Kind.TheVariants.{True, False, Label, Not, And, Or, Implies, Ex, Ax, Ef, Af, Eg, Ag, Eu, Au}

-- a part without its label
abbrev pub unlabelled : Part ℕ → Part ℕ
unlabelled always = always
unlabelled never = never
unlabelled (known l) = known 0
unlabelled (on_one o) = on_one o
unlabelled (on_two o) = on_two o

pub kind_unlabelled : (k : Kind) (l : ℕ) → part_of k 0 ≡ unlabelled (part_of k l)
kind_unlabelled True l = refl
kind_unlabelled False l = refl
kind_unlabelled Label l = refl
kind_unlabelled Not l = refl
kind_unlabelled And l = refl
kind_unlabelled Or l = refl
kind_unlabelled Implies l = refl
kind_unlabelled Ex l = refl
kind_unlabelled Ax l = refl
kind_unlabelled Ef l = refl
kind_unlabelled Af l = refl
kind_unlabelled Eg l = refl
kind_unlabelled Ag l = refl
kind_unlabelled Eu l = refl
kind_unlabelled Au l = refl

-- the number of operands is that of the kind, whatever the label
arity-unlabelled : (x : Part ℕ) → arity (unlabelled x) ≡ arity x
arity-unlabelled always = refl
arity-unlabelled never = refl
arity-unlabelled (known l) = refl
arity-unlabelled (on_one o) = refl
arity-unlabelled (on_two o) = refl

pub kind_arity : (k : Kind) (l : ℕ) → arity_of k ≡ arity (part_of k l)
kind_arity k l = ap arity (kind_unlabelled k l) ∙ arity-unlabelled (part_of k l)

-- the sign of the first operand of a part whose sign is p
abbrev pub first_sign : Part ℕ → Sign → Sign
first_sign always p = p
first_sign never p = p
first_sign (known l) p = p
first_sign (on_one o) p = under o p
first_sign (on_two o) p = left o p

-- the table's column of sign changes is the sign of the first operand
pub kind_turns : (k : Kind) (l : ℕ) (p : Sign) → cond (flips_of k) (flip p) p ≡ first_sign (part_of k l) p
kind_turns True l p = refl
kind_turns False l p = refl
kind_turns Label l p = refl
kind_turns Not l p = refl
kind_turns And l p = refl
kind_turns Or l p = refl
kind_turns Implies l p = refl
kind_turns Ex l p = refl
kind_turns Ax l p = refl
kind_turns Ef l p = refl
kind_turns Af l p = refl
kind_turns Eg l p = refl
kind_turns Ag l p = refl
kind_turns Eu l p = refl
kind_turns Au l p = refl

-- no kind has more than two operands
pub kind_few : (k : Kind) → arity_of k ≤ 2
kind_few True = omega arith
kind_few False = omega arith
kind_few Label = omega arith
kind_few Not = omega arith
kind_few And = omega arith
kind_few Or = omega arith
kind_few Implies = omega arith
kind_few Ex = omega arith
kind_few Ax = omega arith
kind_few Ef = omega arith
kind_few Af = omega arith
kind_few Eg = omega arith
kind_few Ag = omega arith
kind_few Eu = omega arith
kind_few Au = omega arith
