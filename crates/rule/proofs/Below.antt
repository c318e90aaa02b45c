-- The operands of a part by the number that it has of them.
use Rattle.std.proofs.Common.{◌≡◌, ℕ, ◌+◌, ◌-◌, ◌<◌, ◌≤◌, get_or, refl, sym, ap, ◌∙◌, arith}
use Rattle.grammar.specs.Forms.{Form, Unary, Binary, parts, size, arity, root}
use Rattle.grammar.specs.Forms.Form.{yes_form, no_form, leaf, one, two}
use Rattle.grammar.specs.Forms.Part.{always}
use Rattle.grammar.specs.Signs.{Sign}
use Rattle.grammar.specs.Numbering.{operands_in, root_operands}
use Rattle.grammar.specs.Numbering.Operands.{no_operand, operand, operands}
use Rattle.grammar.proofs.Trees.{size_some}
use Rattle.grammar.proofs.Places.{inside_operands_at}
use Rattle.words.specs.Kinds.{arity_of}
use Rattle.reading.specs.Holding.{parting}
use Rattle.reading.specs.declared.part.Part.{Part}
use Rattle.rule.specs.Walks.{Stands}
use Rattle.rule.proofs.Standings.{One, Two, is_root, below_one, below_left, below_right}
use Rattle.rule.proofs.Turns.{kind_arity}

-- m is the number of the first part inside the part i
abbrev pub First : Form ℕ → ℕ → ℕ → Type 0
First f i m = (p : Sign) (s : Stands f i p) → m ≡ s.first

arity_size : (g : Form ℕ) → arity (root g) < size g
arity_size yes_form = omega arith
arity_size no_form = omega arith
arity_size (leaf a) = omega arith
arity_size (one o g) = omega (arith, size_some g)
arity_size (two o g h) = omega (arith, size_some g, size_some h)

leaf_form : (k : ℕ) (g : Form ℕ) → arity (root g) ≡ 0 → (size g ≡ 1) × (no_operand ≡ root_operands k g)
leaf_form k yes_form a = (refl, refl)
leaf_form k no_form a = (refl, refl)
leaf_form k (leaf n) a = (refl, refl)
leaf_form k (one o g) a = absurd (omega arith)
leaf_form k (two o g h) a = absurd (omega arith)

one_form : (g : Form ℕ) → arity (root g) ≡ 1 → (o : Unary) × (x : Form ℕ) × (g ≡ one o x)
one_form yes_form a = absurd (omega arith)
one_form no_form a = absurd (omega arith)
one_form (leaf n) a = absurd (omega arith)
one_form (one o g) a = (o, g, refl)
one_form (two o g h) a = absurd (omega arith)

two_form : (g : Form ℕ) → 1 < arity (root g) → (o : Binary) × (x : Form ℕ) × (y : Form ℕ) × (g ≡ two o x y)
two_form yes_form a = absurd (omega arith)
two_form no_form a = absurd (omega arith)
two_form (leaf n) a = absurd (omega arith)
two_form (one o g) a = absurd (omega arith)
two_form (two o g h) a = (o, g, h, refl)

module _ {f : Form ℕ} {i : ℕ} {p : Sign} (s : Stands f i p) (x : Part) (here : get_or (parts f) i always ≡ parting x) {n : ℕ} (q : n ≡ arity_of x.kind) where
  many : arity (root s.form) ≡ n
  many = ap arity (sym (is_root s x here)) ∙ sym (q ∙ kind_arity x.kind x.label)

  by_root : root_operands s.first s.form ≡ operands_in f i
  by_root = sym (inside_operands_at s.inside i s.ends)

  -- the parts of its operands stand before it
  pub many_before : n ≤ i
  many_before = omega (arith, many, arity_size s.form, s.ends)

  pub leaf_first : n ≡ 0 → i ≡ s.first
  leaf_first z = omega (arith, (leaf_form s.first s.form (many ∙ z)).0, s.ends)

  pub leaf_operands : n ≡ 0 → no_operand ≡ operands_in f i
  leaf_operands z = (leaf_form s.first s.form (many ∙ z)).1 ∙ by_root

  pub one_at : n ≡ 1 → One s (i - 1)
  one_at z =
      let g = one_form s.form (many ∙ z) in
      let ends : s.first + (size g.1 + 1) ≡ i + 1 = ap (λ g. s.first + size g) (sym g.2) ∙ s.ends in
      let some = size_some g.1 in
      record { operator = g.0; only = g.1; is = g.2; ends = omega arith; less = omega arith }

  pub one_operand : n ≡ 1 → operand (i - 1) ≡ operands_in f i
  one_operand z =
      let w = one_at z in
      ap operand (omega (arith, w.ends)) ∙ ap (root_operands s.first) (sym w.is) ∙ by_root

  module _ (z : 1 < n) {m : ℕ} (t : First f (i - 1) m) where
    split : (o : Binary) × (x : Form ℕ) × (y : Form ℕ) × (s.form ≡ two o x y)
    split = two_form s.form (omega (arith, many))

    split_ends : s.first + (size split.1 + size split.2 + 1) ≡ i + 1
    split_ends = ap (λ g. s.first + size g) (sym split.3) ∙ s.ends

    -- whose left operand ends at j
    two_to : (j : ℕ) → s.first + size split.1 ≡ j + 1 → Two s j (i - 1)
    two_to j e = record {
      operator = split.0;
      former = split.1;
      latter = split.2;
      is = split.3;
      ends = e;
      latter_ends = omega (arith, split_ends, size_some split.1);
      less = omega (arith, split_ends, size_some split.2);
      latter_less = omega (arith, split_ends, size_some split.1);
    }

    meets : m ≡ s.first + size split.1
    unfolding split two_to
    meets = t p (below_right s (two_to (s.first + size split.1 - 1) (omega (arith, size_some split.1))))

    pub left_some : 0 < m
    left_some = omega (arith, meets, size_some split.1)

    pub two_at : Two s (m - 1) (i - 1)
    two_at = two_to (m - 1) (omega (arith, meets, left_some))

    pub two_operands : operands (m - 1) (i - 1) ≡ operands_in f i
    two_operands =
        let w = two_at in
        let left_is : m - 1 ≡ s.first + size w.former - 1 = omega (arith, w.ends) in
        let right_is : i - 1 ≡ s.first + size w.former + size w.latter - 1 = omega (arith, w.latter_ends) in
        (λ j. operands (left_is j) (right_is j)) ∙ ap (root_operands s.first) (sym w.is) ∙ by_root

    pub two_first : {k : ℕ} → First f (m - 1) k → k ≡ s.first
    two_first h = h _ (below_left s two_at _ refl)

  pub one_first : n ≡ 1 → {k : ℕ} → First f (i - 1) k → k ≡ s.first
  one_first z h = h _ (below_one s (one_at z) _ refl)
