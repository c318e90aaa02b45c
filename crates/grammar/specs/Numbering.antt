-- The numbers of a rule's parts: which parts are the operands of each, and where each stands.
use Rattle.std.specs.Prelude.{◌≡◌, ℕ, ◌+◌, ◌-◌, ◌⊎◌, List, [], ◌∷◌, ◌++◌, slice_index_or}
use Rattle.grammar.specs.Forms.{Form, Unary, Binary, size}
use Rattle.grammar.specs.Forms.Form.{yes_form, no_form, leaf, one, two}
use Rattle.grammar.specs.Signs.{Sign, under, left, right}
use Rattle.grammar.specs.Signs.Sign.{plus}

-- the operands of a part, by their numbers
pub data Operands : Type 0 where
  no_operand : Operands
  operand : ℕ → Operands
  operands : ℕ → ℕ → Operands

-- the operands of all parts in their order, where the first part is number k
abbrev pub all_operands : {A : Type 0} → ℕ → Form A → List Operands
all_operands k yes_form = no_operand ∷ []
all_operands k no_form = no_operand ∷ []
all_operands k (leaf a) = no_operand ∷ []
all_operands k (one o f) = all_operands k f ++ operand (k + size f - 1) ∷ []
all_operands k (two o f g) = all_operands k f ++ all_operands (k + size f) g ++ operands (k + size f - 1) (k + size f + size g - 1) ∷ []

-- the operands of part i of a rule
abbrev pub operands_in : {A : Type 0} → Form A → ℕ → Operands
operands_in f i = slice_index_or (all_operands 0 f) i no_operand

-- the operands of the part at the root of a form whose first part is number k
abbrev pub root_operands : {A : Type 0} → ℕ → Form A → Operands
root_operands k yes_form = no_operand
root_operands k no_form = no_operand
root_operands k (leaf a) = no_operand
root_operands k (one o f) = operand (k + size f - 1)
root_operands k (two o f g) = operands (k + size f - 1) (k + size f + size g - 1)

-- part i is one of these operands
abbrev pub Among : ℕ → Operands → Type 0
Among i no_operand = ⊥
Among i (operand j) = i ≡ j
Among i (operands j l) = (i ≡ j) ⊎ (i ≡ l)

-- a part as a form of its own inside the whole, with the number of its first part and with its sign
pub data Inside {A : Type 0} (f : Form A) : ℕ → Sign → Form A → Type 0 where
  whole : Inside f 0 plus f
  in_one : {k : ℕ} {p : Sign} {o : Unary} {g : Form A} → Inside f k p (one o g) → Inside f k (under o p) g
  in_left : {k : ℕ} {p : Sign} {o : Binary} {g h : Form A} → Inside f k p (two o g h) → Inside f k (left o p) g
  in_right : {k : ℕ} {p : Sign} {o : Binary} {g h : Form A} → Inside f k p (two o g h) → Inside f (k + size g) (right o p) h
