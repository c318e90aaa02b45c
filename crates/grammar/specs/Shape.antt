-- The tree that a list of parts stands for.
use Rattle.std.specs.Prelude.{ℕ, Bool, true, false, ◌&&◌, List, [], ◌∷◌, Some, None, Option, nat_lt}
use Rattle.grammar.specs.Forms.{Form, Part}
use Rattle.grammar.specs.Forms.Form.{yes_form, no_form, leaf, one, two}
use Rattle.grammar.specs.Forms.Part.{always, never, known, on_one, on_two}

-- the forms that stand open after one more part, the latest first; none where an operand is wanting
abbrev pub added : {A : Type 0} → Part A → List (Form A) → Option (List (Form A))
added always fs = Some (yes_form ∷ fs)
added never fs = Some (no_form ∷ fs)
added (known a) fs = Some (leaf a ∷ fs)
added (on_one o) [] = None
added (on_one o) (f ∷ fs) = Some (one o f ∷ fs)
added (on_two o) [] = None
added (on_two o) (g ∷ []) = None
added (on_two o) (g ∷ f ∷ fs) = Some (two o f g ∷ fs)

abbrev pub after : {A B : Type 0} → Option A → (A → Option B) → Option B
after None k = None
after (Some x) k = k x

-- the forms that stand open after these parts
abbrev pub opened : {A : Type 0} → List (Part A) → List (Form A) → Option (List (Form A))
opened [] fs = Some fs
opened (p ∷ ps) fs = after (added p fs) (opened ps)

abbrev pub sole : {A : Type 0} → List (Form A) → Option (Form A)
sole [] = None
sole (f ∷ []) = Some f
sole (f ∷ g ∷ fs) = None

-- the tree whose parts these are; none where they are not those of one tree
abbrev pub tree_of : {A : Type 0} → List (Part A) → Option (Form A)
tree_of ps = after (opened ps []) sole

abbrev pub is_some : {A : Type 0} → Option A → Bool
is_some None = false
is_some (Some x) = true

abbrev pub is_tree : {A : Type 0} → List (Part A) → Bool
is_tree ps = is_some (tree_of ps)

abbrev pub tree_else : {A : Type 0} → Option (Form A) → Form A
tree_else None = yes_form
tree_else (Some f) = f

-- the tree of parts that stand for one
abbrev pub form_of : {A : Type 0} → List (Part A) → Form A
form_of ps = tree_else (tree_of ps)

-- a label below n, or no label
abbrev pub has_label_below : ℕ → Part ℕ → Bool
has_label_below n always = true
has_label_below n never = true
has_label_below n (known i) = nat_lt i n
has_label_below n (on_one o) = true
has_label_below n (on_two o) = true

-- whether every label in these parts has its entry in a list of n names
abbrev pub labelled : ℕ → List (Part ℕ) → Bool
labelled n [] = true
labelled n (p ∷ ps) = has_label_below n p && labelled n ps
