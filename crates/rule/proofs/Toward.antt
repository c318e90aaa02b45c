-- The steps of a walk from the root of a rule toward a part, with the sign of where it stands.
use Rattle.std.proofs.Common.{◌≡◌, ℕ, ◌+◌, ◌-◌, ◌<◌, ◌≤◌, ap, sym, ◌∙◌, arith}
use Rattle.grammar.specs.Forms.{Form, size, arity, root}
use Rattle.grammar.specs.Forms.Form.{yes_form, no_form, leaf, one, two}
use Rattle.grammar.specs.Signs.{Sign, under, left, sign}
use Rattle.grammar.specs.Signs.Sign.{plus}
use Rattle.grammar.specs.Numbering.{operands_in}
use Rattle.grammar.specs.Numbering.Operands.{no_operand}
use Rattle.grammar.proofs.Places.{inside_sign}
use Rattle.rule.specs.Walks.{Around}
use Rattle.rule.proofs.Standings.{One, Two, whole_stands, leaf_view, below_one, below_left, below_right}

-- the walk begins at the last part, stays among the parts, and ends at the part it goes to
pub around_whole : (f : Form ℕ) (number : ℕ) {n : ℕ} (e : n ≡ size f) → number < n → Around f number (n - 1) plus
around_whole f number e h = record { stands = whole_stands f e; low = omega arith; high = omega arith }

leaf_alone : (k number at : ℕ) (g : Form ℕ) → k + size g ≡ at + 1 → k ≤ number → number < at → arity (root g) ≡ 0 → ⊥
leaf_alone k number at yes_form e l b h = omega arith
leaf_alone k number at no_form e l b h = omega arith
leaf_alone k number at (leaf a) e l b h = omega arith
leaf_alone k number at (one o g) e l b h = omega arith
leaf_alone k number at (two o g x) e l b h = omega arith

module _ {f : Form ℕ} {number at : ℕ} {p : Sign} (a : Around f number at p) where
  pub around_done : at ≡ number → p ≡ sign f number
  around_done e = sym (inside_sign a.stands.inside at a.stands.ends) ∙ ap (sign f) e

  -- on the way there the part has operands, and the walk goes into one of them
  module _ (b : number < at) where
    pub not_leaf : no_operand ≡ operands_in f at → ⊥
    not_leaf h = leaf_alone a.stands.first number at a.stands.form a.stands.ends a.low b (leaf_view a.stands h)

    pub into_one : {m : ℕ} (w : One a.stands m) (q : Sign) → q ≡ under w.operator p → Around f number m q
    into_one w q e = record { stands = below_one a.stands w q e; low = a.low; high = omega (arith, ap size w.is, w.ends, a.stands.ends) }

    module _ {m n : ℕ} (w : Two a.stands m n) where
      pub into_left : (q : Sign) → q ≡ left w.operator p → number ≤ m → Around f number m q
      into_left q e h = record { stands = below_left a.stands w q e; low = a.low; high = h }

      pub into_right : m < number → Around f number n p
      into_right h = record { stands = below_right a.stands w; low = omega (arith, w.ends); high = omega (arith, ap size w.is, w.latter_ends, a.stands.ends) }
