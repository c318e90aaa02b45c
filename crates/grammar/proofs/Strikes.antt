-- A rule with parts struck: it has no more parts and no other names, and written and read again it is that rule.
use Rattle.std.proofs.Common.{◌≡◌, ℕ, ◌+◌, ◌≤◌, Bool, true, false, cond, List, length, ap, ◌∙◌, arith}
use Rattle.grammar.specs.Forms.{Form, size}
use Rattle.grammar.specs.Forms.Form.{yes_form, no_form, leaf, one, two}
use Rattle.grammar.specs.Signs.{Sign, under, left, right}
use Rattle.grammar.specs.Signs.Sign.{plus, minus}
use Rattle.grammar.specs.Striking.{settled, struck_from, struck}
use Rattle.grammar.specs.Reading.{read_of}
use Rattle.grammar.specs.Reading.{first_list}
use Rattle.grammar.specs.Names.{Names, Known}
use Rattle.grammar.specs.Writing.{written}
use Rattle.grammar.specs.Laws.{StruckReadsBack}
use Rattle.grammar.proofs.Listings.{right_names}
use Rattle.grammar.proofs.Roundtrip.{short, reads_back}

-- what holds of the constant and of the form holds of the one that the mark picks
picked : (P : Form ℕ → Type 0) (b : Bool) (p : Sign) (f : Form ℕ) → P no_form → P yes_form → P f → P (cond b (settled p) f)
picked P true plus f n y h = n
picked P true minus f n y h = y
picked P false p f n y h = h

pub size-struck : (marks : ℕ → Bool) (k : ℕ) (p : Sign) (f : Form ℕ) → size (struck_from marks k p f) ≤ size f
size-struck marks k p yes_form = picked (λ x. size x ≤ 1) (marks k) p yes_form (omega arith) (omega arith) (omega arith)
size-struck marks k p no_form = picked (λ x. size x ≤ 1) (marks k) p no_form (omega arith) (omega arith) (omega arith)
size-struck marks k p (leaf i) = picked (λ x. size x ≤ 1) (marks k) p (leaf i) (omega arith) (omega arith) (omega arith)
size-struck marks k p (one o f) =
    picked (λ x. size x ≤ size f + 1) (marks (k + size f)) p (one o (struck_from marks k (under o p) f)) (omega arith) (omega arith)
    (omega (arith, size-struck marks k (under o p) f))
size-struck marks k p (two o f g) =
    picked (λ x. size x ≤ size f + size g + 1) (marks (k + (size f + size g))) p
    (two o (struck_from marks k (left o p) f) (struck_from marks (k + size f) (right o p) g)) (omega arith) (omega arith)
    (omega (arith, size-struck marks k (left o p) f, size-struck marks (k + size f) (right o p) g))

pub known_struck : (names : List (List ℕ)) (marks : ℕ → Bool) (k : ℕ) (p : Sign) (f : Form ℕ) → Known names f → Known names (struck_from marks k p f)
known_struck names marks k p yes_form h = picked (Known names) (marks k) p yes_form tt tt tt
known_struck names marks k p no_form h = picked (Known names) (marks k) p no_form tt tt tt
known_struck names marks k p (leaf i) h = picked (Known names) (marks k) p (leaf i) tt tt h
known_struck names marks k p (one o f) h =
    picked (Known names) (marks (k + size f)) p (one o (struck_from marks k (under o p) f)) tt tt (known_struck names marks k (under o p) f h)
known_struck names marks k p (two o f g) h =
    picked (Known names) (marks (k + (size f + size g))) p
    (two o (struck_from marks k (left o p) f) (struck_from marks (k + size f) (right o p) g)) tt tt
    (known_struck names marks k (left o p) f h.0, known_struck names marks (k + size f) (right o p) g h.1)

pub struck_none : (marks : ℕ → Bool) → ((i : ℕ) → marks i ≡ false) → (k : ℕ) (p : Sign) (f : Form ℕ) → struck_from marks k p f ≡ f
struck_none marks h k p yes_form = ap (λ b. cond b (settled p) yes_form) (h k)
struck_none marks h k p no_form = ap (λ b. cond b (settled p) no_form) (h k)
struck_none marks h k p (leaf i) = ap (λ b. cond b (settled p) (leaf i)) (h k)
struck_none marks h k p (one o f) =
    ap (λ b. cond b (settled p) (one o (struck_from marks k (under o p) f))) (h (k + size f)) ∙ ap (one o) (struck_none marks h k (under o p) f)
struck_none marks h k p (two o f g) =
    ap (λ b. cond b (settled p) (two o (struck_from marks k (left o p) f) (struck_from marks (k + size f) (right o p) g))) (h (k + (size f + size g)))
    ∙ (λ i. two o (struck_none marks h k (left o p) f i) (struck_none marks h (k + size f) (right o p) g i))

pub short_struck : (names : List (List ℕ)) → Names names → (marks : ℕ → Bool) (k : ℕ) (p : Sign) (f : Form ℕ) → Known names f → size f ≤ 64 → length (written names (struck_from marks k p f)) ≤ 709
short_struck names v marks k p f h n =
    omega (arith, short names v (struck_from marks k p f) (known_struck names marks k p f h), size-struck marks k p f)

pub struck_back : StruckReadsBack
struck_back names f marks v h n = (
  short_struck names v marks 0 plus f h n,
  ap (λ x. first_list x (read_of names (written names (struck marks f)))) (right_names names v)
      ∙ reads_back names (struck marks f) v (known_struck names marks 0 plus f h) (omega (arith, size-struck marks 0 plus f)),
)
