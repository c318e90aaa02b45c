-- A part that stands in a form, and its operands there.
use Rattle.std.proofs.Common.{◌≡◌, ℕ, ◌+◌, ◌-◌, ◌<◌, Bool, cond, get_or, refl, sym, ap, ◌∙◌, subst, arith}
use Rattle.grammar.specs.Forms.{Form, Unary, Binary, parts, size, arity, root}
use Rattle.grammar.specs.Forms.Form.{yes_form, no_form, leaf, one, two}
use Rattle.grammar.specs.Forms.Part.{always}
use Rattle.grammar.specs.Signs.{Sign, flip, under, left}
use Rattle.grammar.specs.Signs.Sign.{plus}
use Rattle.grammar.specs.Numbering as numbers
use Rattle.grammar.specs.Numbering.{Inside, operands_in, root_operands}
use Rattle.grammar.specs.Numbering.Operands.{no_operand, operand, operands}
use Rattle.grammar.specs.Numbering.Inside.{whole, in_one, in_left, in_right}
use Rattle.grammar.proofs.Trees.{size_some}
use Rattle.grammar.proofs.Places.{each_at, inside_fits, inside_root, inside_operands_at}
use Rattle.words.specs.Kinds.{flips_of}
use Rattle.reading.specs.Holding.{parting}
use Rattle.reading.specs.declared.part.Part.{Part}
use Rattle.rule.specs.Walks.{Stands}
use Rattle.rule.proofs.Turns.{first_sign, kind_turns}

-- each part of a form stands in it, and a part that stands in it is one of its parts
pub each_stands : (f : Form ℕ) (i : ℕ) → i < size f → (p : Sign) × Stands f i p
each_stands f i h =
    let a = each_at f i h in
    (a.sign_of, record { first = a.first; form = a.form; inside = a.inside; ends = a.ends })

-- the last part is the whole
abbrev pub whole_stands : (f : Form ℕ) {n : ℕ} → n ≡ size f → Stands f (n - 1) plus
whole_stands f e = record { first = 0; form = f; inside = whole; ends = omega (arith, size_some f) }

pub stands_within : {f : Form ℕ} {i : ℕ} {p : Sign} → Stands f i p → i < size f
stands_within s = omega (arith, inside_fits s.inside, s.ends)

-- the operand of a part with one, and its operator
pub record One {f : Form ℕ} {i : ℕ} {p : Sign} (s : Stands f i p) (m : ℕ) : Type 0 where
  pub operator : Unary
  pub only : Form ℕ
  pub is : s.form ≡ one operator only
  pub ends : s.first + size only ≡ m + 1
  pub less : m < i

-- the operands of a part with two
pub record Two {f : Form ℕ} {i : ℕ} {p : Sign} (s : Stands f i p) (m n : ℕ) : Type 0 where
  pub operator : Binary
  pub former : Form ℕ
  pub latter : Form ℕ
  pub is : s.form ≡ two operator former latter
  pub ends : s.first + size former ≡ m + 1
  pub latter_ends : s.first + size former + size latter ≡ n + 1
  pub less : m < n
  pub latter_less : n < i

leaf_root : (k : ℕ) (g : Form ℕ) → no_operand ≡ root_operands k g → arity (root g) ≡ 0
leaf_root k yes_form h = omega arith
leaf_root k no_form h = omega arith
leaf_root k (leaf a) h = omega arith
leaf_root k (one o g) h = cc
leaf_root k (two o g x) h = cc

one_root : (k m : ℕ) (g : Form ℕ) → operand m ≡ root_operands k g → (o : Unary) × (x : Form ℕ) × (g ≡ one o x) × (k + size x ≡ m + 1)
one_root k m yes_form h = cc
one_root k m no_form h = cc
one_root k m (leaf a) h = cc
one_root k m (one o g) h = let e : m ≡ k + size g - 1 = cc in (o, g, refl, omega (arith, size_some g))
one_root k m (two o g x) h = cc

two_root : (k m n : ℕ) (g : Form ℕ) → operands m n ≡ root_operands k g → (o : Binary) × (x : Form ℕ) × (y : Form ℕ) × (g ≡ two o x y) × (k + size x ≡ m + 1) × (k + size x + size y ≡ n + 1)
two_root k m n yes_form h = cc
two_root k m n no_form h = cc
two_root k m n (leaf a) h = cc
two_root k m n (one o g) h = cc
two_root k m n (two o g x) h =
    let e : m ≡ k + size g - 1 = cc in
    let d : n ≡ k + size g + size x - 1 = cc in
    (o, g, x, refl, omega (arith, size_some g), omega (arith, size_some x))

module _ {f : Form ℕ} {i : ℕ} {p : Sign} (s : Stands f i p) where
  rooted_at : {x : numbers.Operands} → x ≡ operands_in f i → x ≡ root_operands s.first s.form
  rooted_at h = h ∙ inside_operands_at s.inside i s.ends

  pub leaf_view : no_operand ≡ operands_in f i → arity (root s.form) ≡ 0
  leaf_view h = leaf_root s.first s.form (rooted_at h)

  pub one_view : {m : ℕ} → operand m ≡ operands_in f i → One s m
  one_view {m} h =
      let x = one_root s.first m s.form (rooted_at h) in
      record { operator = x.0; only = x.1; is = x.2; ends = x.3; less = omega (arith, ap size x.2, x.3, s.ends) }

  pub two_view : {m n : ℕ} → operands m n ≡ operands_in f i → Two s m n
  two_view {m} {n} h =
      let x = two_root s.first m n s.form (rooted_at h) in
      record {
        operator = x.0;
        former = x.1;
        latter = x.2;
        is = x.3;
        ends = x.4;
        latter_ends = x.5;
        less = omega (arith, x.4, x.5, size_some x.2);
        latter_less = omega (arith, ap size x.3, x.5, s.ends);
      }

  -- the operands stand in the form too
  abbrev pub below_one : {m : ℕ} (w : One s m) (q : Sign) → q ≡ under w.operator p → Stands f m q
  below_one w q e = record {
    first = s.first;
    form = w.only;
    inside = subst (λ y. Inside f s.first y w.only) (sym e) (in_one (subst (Inside f s.first p) w.is s.inside));
    ends = w.ends;
  }

  module _ {m n : ℕ} (w : Two s m n) where
    abbrev pub below_left : (q : Sign) → q ≡ left w.operator p → Stands f m q
    below_left q e = record {
      first = s.first;
      form = w.former;
      inside = subst (λ y. Inside f s.first y w.former) (sym e) (in_left (subst (Inside f s.first p) w.is s.inside));
      ends = w.ends;
    }

    abbrev pub below_right : Stands f n p
    below_right = record {
      first = s.first + size w.former;
      form = w.latter;
      inside = in_right (subst (Inside f s.first p) w.is s.inside);
      ends = w.latter_ends;
    }

  -- the sign of the first operand, by the table's row of the part
  module _ (x : Part) (here : get_or (parts f) i always ≡ parting x) where
    pub is_root : parting x ≡ root s.form
    is_root = sym here ∙ inside_root s.inside i s.ends always

    module _ {b : Bool} (flips : b ≡ flips_of x.kind) {q : Sign} (turned : q ≡ cond b (flip p) p) where
      first_turned : q ≡ first_sign (root s.form) p
      first_turned =
          turned ∙ ap (λ y. cond y (flip p) p) flips ∙ kind_turns x.kind x.label p
          ∙ ap (λ y. first_sign y p) is_root

      pub one_turned : {m : ℕ} (w : One s m) → q ≡ under w.operator p
      one_turned w = first_turned ∙ ap (λ g. first_sign (root g) p) w.is

      pub two_turned : {m n : ℕ} (w : Two s m n) → q ≡ left w.operator p
      two_turned w = first_turned ∙ ap (λ g. first_sign (root g) p) w.is
