-- The trees that texts of the grammar stand for, and the parts of a rule.
use Rattle.std.specs.Prelude.{ℕ, ◌+◌, List, [], ◌∷◌, ◌++◌}

-- the kinds with one operand: `!` and the six two-letter words
pub data Unary : Type 0 where
  neg : Unary
  ex : Unary
  ax : Unary
  ef : Unary
  af : Unary
  eg : Unary
  ag : Unary

-- the path letter before `[`
pub data Path : Type 0 where
  every : Path
  some : Path

-- the kinds with two operands: `&`, `|`, `->`, `A[ U ]` and `E[ U ]`
pub data Binary : Type 0 where
  both : Binary
  either : Binary
  implies : Binary
  until : Path → Binary

-- a tree over what stands at its leaves besides the constants: spelled names in a text, label numbers in a rule
pub data Form (A : Type 0) : Type 0 where
  yes_form : Form A
  no_form : Form A
  leaf : A → Form A
  one : Unary → Form A → Form A
  two : Binary → Form A → Form A → Form A

-- how many parts
abbrev pub size : {A : Type 0} → Form A → ℕ
size yes_form = 1
size no_form = 1
size (leaf a) = 1
size (one k f) = size f + 1
size (two k f g) = size f + size g + 1

-- one part as it stands in the list of parts
pub data Part (A : Type 0) : Type 0 where
  always : Part A
  never : Part A
  known : A → Part A
  on_one : Unary → Part A
  on_two : Binary → Part A

-- the parts in order: operands before their operator, all of the left before all of the right
abbrev pub parts : {A : Type 0} → Form A → List (Part A)
parts yes_form = always ∷ []
parts no_form = never ∷ []
parts (leaf a) = known a ∷ []
parts (one k f) = parts f ++ on_one k ∷ []
parts (two k f g) = parts f ++ parts g ++ on_two k ∷ []

-- how many operands a part has
abbrev pub arity : {A : Type 0} → Part A → ℕ
arity always = 0
arity never = 0
arity (known a) = 0
arity (on_one o) = 1
arity (on_two o) = 2

-- the part at the root of a form
abbrev pub root : {A : Type 0} → Form A → Part A
root yes_form = always
root no_form = never
root (leaf a) = known a
root (one o f) = on_one o
root (two o f g) = on_two o
