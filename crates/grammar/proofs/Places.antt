-- Each part of a rule stands in its place: its form, its sign and its operands are there.
use Rattle.std.proofs.Common.{◌≡◌, ℕ, ◌+◌, ◌-◌, ◌<◌, ◌≤◌, List, [], ◌∷◌, ◌++◌, length, get_or, refl, ap, ◌∙◌, subst, ⊎_elim, arith, length-append}
use Rattle.std.proofs.lemmas.Bool.{cases_lt}
use Rattle.grammar.specs.Forms.{Form, Part, parts, size, root}
use Rattle.grammar.specs.Forms.Form.{yes_form, no_form, leaf, one, two}
use Rattle.grammar.specs.Forms.Part.{always, on_one, on_two}
use Rattle.grammar.specs.Signs.{Sign, under, left, right, signs, sign}
use Rattle.grammar.specs.Signs.Sign.{plus}
use Rattle.grammar.specs.Numbering.{Operands, all_operands, operands_in, root_operands, Inside}
use Rattle.grammar.specs.Numbering.Operands.{no_operand, operand, operands}
use Rattle.grammar.specs.Numbering.Inside.{whole, in_one, in_left, in_right}
use Rattle.grammar.specs.Laws.{Places}
use Rattle.grammar.proofs.Segments.{Segment, segment_whole, segment_front, segment_back, segment_last, segment_fits}
use Rattle.grammar.proofs.Trees.{length-parts}

pub length_signs : (p : Sign) (f : Form ℕ) → length (signs p f) ≡ size f
length_signs p yes_form = refl
length_signs p no_form = refl
length_signs p (leaf i) = refl
length_signs p (one o f) = simp length-append (omega (arith, length_signs (under o p) f))
length_signs p (two o f g) = simp length-append (omega (arith, length_signs (left o p) f, length_signs (right o p) g))

pub length_operands : (k : ℕ) (f : Form ℕ) → length (all_operands k f) ≡ size f
length_operands k yes_form = refl
length_operands k no_form = refl
length_operands k (leaf i) = refl
length_operands k (one o f) = simp length-append (omega (arith, length_operands k f))
length_operands k (two o f g) = simp length-append (omega (arith, length_operands k f, length_operands (k + size f) g))

-- the stretches of a form that stands inside another
second : {X : Type 0} {xs : List X} {k : ℕ} (n : ℕ) (ys zs us : List X) → length ys ≡ n → Segment xs k (ys ++ zs ++ us) → Segment xs (k + n) zs
second {xs = xs} {k = k} n ys zs us e s = subst (λ m. Segment xs (k + m) zs) e (segment_back ys zs (segment_front (ys ++ zs) us s))

pub inside_parts : {f g : Form ℕ} {k : ℕ} {p : Sign} → Inside f k p g → Segment (parts f) k (parts g)
inside_parts whole = segment_whole
inside_parts (in_one {o = o} {g = g} d) = segment_front (parts g) (on_one o ∷ []) (inside_parts d)
inside_parts (in_left {o = o} {g = g} {h = h} d) =
    segment_front (parts g) (parts h) (segment_front (parts g ++ parts h) (on_two o ∷ []) (inside_parts d))
inside_parts (in_right {o = o} {g = g} {h = h} d) =
    second (size g) (parts g) (parts h) (on_two o ∷ []) (length-parts g) (inside_parts d)

pub inside_signs : {f g : Form ℕ} {k : ℕ} {p : Sign} → Inside f k p g → Segment (signs plus f) k (signs p g)
inside_signs whole = segment_whole
inside_signs (in_one {p = p} {o = o} {g = g} d) = segment_front (signs (under o p) g) (p ∷ []) (inside_signs d)
inside_signs (in_left {p = p} {o = o} {g = g} {h = h} d) =
    segment_front (signs (left o p) g) (signs (right o p) h) (segment_front (signs (left o p) g ++ signs (right o p) h) (p ∷ []) (inside_signs d))
inside_signs (in_right {p = p} {o = o} {g = g} {h = h} d) =
    second (size g) (signs (left o p) g) (signs (right o p) h) (p ∷ []) (length_signs (left o p) g) (inside_signs d)

pub inside_operands : {f g : Form ℕ} {k : ℕ} {p : Sign} → Inside f k p g → Segment (all_operands 0 f) k (all_operands k g)
inside_operands whole = segment_whole
inside_operands (in_one {k = k} {o = o} {g = g} d) =
    segment_front (all_operands k g) (operand (k + size g - 1) ∷ []) (inside_operands d)
inside_operands (in_left {k = k} {o = o} {g = g} {h = h} d) =
    segment_front (all_operands k g) (all_operands (k + size g) h)
    (segment_front (all_operands k g ++ all_operands (k + size g) h) (operands (k + size g - 1) (k + size g + size h - 1) ∷ []) (inside_operands d))
inside_operands (in_right {k = k} {o = o} {g = g} {h = h} d) =
    second (size g) (all_operands k g) (all_operands (k + size g) h) (operands (k + size g - 1) (k + size g + size h - 1) ∷ []) (length_operands k g) (inside_operands d)

pub inside_fits : {f g : Form ℕ} {k : ℕ} {p : Sign} → Inside f k p g → k + size g ≤ size f
inside_fits {f} {g} d = omega (arith, length-parts f, length-parts g, segment_fits (inside_parts d))

-- what stands at the end of a stretch
end_at : {X : Type 0} {xs zs : List X} {k : ℕ} (ys : List X) (y : X) → Segment xs k zs → zs ≡ ys ++ y ∷ [] → (i n : ℕ) → length zs ≡ n → k + n ≡ i + 1 → (d : X) → get_or xs i d ≡ y
end_at {xs = xs} {zs = zs} {k = k} ys y s e i n l h d =
    let at : i ≡ k + length ys = omega (arith, simp length-append at (ap length e)) in
    ap (λ j. get_or xs j d) at ∙ segment_last ys y (subst (Segment xs k) e s) d

parts_last : (g : Form ℕ) → (l : List (Part ℕ)) × (parts g ≡ l ++ root g ∷ [])
parts_last yes_form = ([], refl)
parts_last no_form = ([], refl)
parts_last (leaf i) = ([], refl)
parts_last (one o g) = (parts g, refl)
parts_last (two o g h) = (parts g ++ parts h, refl)

signs_last : (p : Sign) (g : Form ℕ) → (l : List Sign) × (signs p g ≡ l ++ p ∷ [])
signs_last p yes_form = ([], refl)
signs_last p no_form = ([], refl)
signs_last p (leaf i) = ([], refl)
signs_last p (one o g) = (signs (under o p) g, refl)
signs_last p (two o g h) = (signs (left o p) g ++ signs (right o p) h, refl)

operands_last : (k : ℕ) (g : Form ℕ) → (l : List Operands) × (all_operands k g ≡ l ++ root_operands k g ∷ [])
operands_last k yes_form = ([], refl)
operands_last k no_form = ([], refl)
operands_last k (leaf i) = ([], refl)
operands_last k (one o g) = (all_operands k g, refl)
operands_last k (two o g h) = (all_operands k g ++ all_operands (k + size g) h, refl)

module _ {f g : Form ℕ} {k : ℕ} {p : Sign} (d : Inside f k p g) (i : ℕ) (e : k + size g ≡ i + 1) where
  pub inside_root : (x : Part ℕ) → get_or (parts f) i x ≡ root g
  inside_root = end_at (parts_last g).0 (root g) (inside_parts d) (parts_last g).1 i (size g) (length-parts g) e

  pub inside_sign : sign f i ≡ p
  inside_sign = end_at (signs_last p g).0 p (inside_signs d) (signs_last p g).1 i (size g) (length_signs p g) e plus

  operand_at : (l : List Operands) (y : Operands) → all_operands k g ≡ l ++ y ∷ [] → (x : Operands) → get_or (all_operands 0 f) i x ≡ y
  operand_at l y h = end_at l y (inside_operands d) h i (size g) (length_operands k g) e

  pub inside_operands_at : operands_in f i ≡ root_operands k g
  inside_operands_at = operand_at (operands_last k g).0 (root_operands k g) (operands_last k g).1 no_operand

-- the form whose root is part i
pub record At (f : Form ℕ) (i : ℕ) : Type 0 where
  pub first : ℕ
  pub sign_of : Sign
  pub form : Form ℕ
  pub inside : Inside f first sign_of form
  pub ends : first + size form ≡ i + 1

find : {f : Form ℕ} (g : Form ℕ) (k : ℕ) (p : Sign) (i : ℕ) → Inside f k p g → k ≤ i → i < k + size g → At f i
find yes_form k p i d a b = record { first = k; sign_of = p; form = yes_form; inside = d; ends = omega arith }
find no_form k p i d a b = record { first = k; sign_of = p; form = no_form; inside = d; ends = omega arith }
find (leaf n) k p i d a b = record { first = k; sign_of = p; form = leaf n; inside = d; ends = omega arith }
find (one o g) k p i d a b =
    ⊎_elim (λ l. find g k (under o p) i (in_one d) a l)
    (λ l. record { first = k; sign_of = p; form = one o g; inside = d; ends = omega arith })
    (cases_lt i (k + size g))
find (two o g h) k p i d a b =
    ⊎_elim (λ l. find g k (left o p) i (in_left d) a l)
    (λ l. ⊎_elim (λ m. find h (k + size g) (right o p) i (in_right d) l m)
    (λ m. record { first = k; sign_of = p; form = two o g h; inside = d; ends = omega arith })
    (cases_lt i (k + size g + size h)))
    (cases_lt i (k + size g))

pub each_at : (f : Form ℕ) (i : ℕ) → i < size f → At f i
each_at f i h = find f 0 plus i whole (omega arith) (omega arith)

pub places : Places
places f i h =
    let a = each_at f i h in
    let d = a.inside in
    let e = a.ends in
    (a.first, a.sign_of, a.form, d, e, inside_root d i e always, inside_operands_at d i e, inside_sign d i e)
