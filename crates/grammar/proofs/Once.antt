-- Every part of a rule but the last is an operand of exactly one part, a later one, and the last of none.
use Rattle.std.proofs.Common.{◌≡◌, ℕ, zero, suc, ◌+◌, ◌-◌, ◌<◌, ◌≤◌, ◌⊎◌, List, [], ◌∷◌, ◌++◌, length, get_or, sym, refl, ◌∙◌, subst, inl, inr, ⊎_elim, arith, length-append}
use lib.ListN.{get_or-append}
use Rattle.std.proofs.lemmas.List.{get_or-append_right, get_or_push}
use Rattle.std.proofs.lemmas.Bool.{cases_lt}
use Rattle.grammar.specs.Forms.{Form, Unary, Binary, size}
use Rattle.grammar.specs.Forms.Form.{yes_form, no_form, leaf, one, two}
use Rattle.grammar.specs.Numbering.{Operands, all_operands, operands_in, Among}
use Rattle.grammar.specs.Numbering.Operands.{no_operand, operand, operands}
use Rattle.grammar.specs.Laws.{OperandOnce}
use Rattle.grammar.proofs.Trees.{size_some}
use Rattle.grammar.proofs.Places.{length_operands}

-- part i is an operand of part l, in a form whose first part is number k
data Operand (i l : ℕ) : ℕ → Form ℕ → Type 0 where
  of_one : {k : ℕ} {o : Unary} {f : Form ℕ} → l ≡ k + size f → i ≡ k + size f - 1 → Operand i l k (one o f)
  of_two : {k : ℕ} {o : Binary} {f g : Form ℕ} → l ≡ k + size f + size g → (i ≡ k + size f - 1) ⊎ (i ≡ k + size f + size g - 1) → Operand i l k (two o f g)
  in_one : {k : ℕ} {o : Unary} {f : Form ℕ} → Operand i l k f → Operand i l k (one o f)
  in_left : {k : ℕ} {o : Binary} {f g : Form ℕ} → Operand i l k f → Operand i l k (two o f g)
  in_right : {k : ℕ} {o : Binary} {f g : Form ℕ} → Operand i l (k + size f) g → Operand i l k (two o f g)

record Between (i l k n : ℕ) : Type 0 where
  low : k ≤ i
  later : i < l
  high : l < k + n

-- an operand comes before its operator, and both are parts of the form
between : {i l k : ℕ} {f : Form ℕ} → Operand i l k f → Between i l k (size f)
between (of_one {f = f} a b) = let s = size_some f in record { low = omega arith; later = omega arith; high = omega arith }
between (of_two {f = f} a b) =
    let s = size_some f in
    ⊎_elim (λ e. record { low = omega arith; later = omega arith; high = omega arith })
    (λ e. record { low = omega arith; later = omega arith; high = omega arith })
    b
between (in_one d) = let b = between d in record { low = b.low; later = b.later; high = omega (arith, b.high) }
between (in_left d) = let b = between d in record { low = b.low; later = b.later; high = omega (arith, b.high) }
between (in_right d) = let b = between d in record { low = omega (arith, b.low); later = b.later; high = omega (arith, b.high) }

-- each part but the last has an operator
operator : (k : ℕ) (f : Form ℕ) (i : ℕ) → k ≤ i → i + 1 < k + size f → (l : ℕ) × Operand i l k f
operator k yes_form i a b = absurd (omega arith)
operator k no_form i a b = absurd (omega arith)
operator k (leaf n) i a b = absurd (omega arith)
operator k (one o f) i a b =
    ⊎_elim (λ h. let r = operator k f i a h in (r.0, in_one r.1))
    (λ h. (k + size f, of_one refl (omega arith)))
    (cases_lt (i + 1) (k + size f))
operator k (two o f g) i a b =
    ⊎_elim (λ h. let r = operator k f i a h in (r.0, in_left r.1))
    (λ h. ⊎_elim (λ m. (k + size f + size g, of_two refl (inl (omega arith))))
    (λ m. ⊎_elim (λ n. let r = operator (k + size f) g i m n in (r.0, in_right r.1))
    (λ n. (k + size f + size g, of_two refl (inr (omega arith))))
    (cases_lt (i + 1) (k + size f + size g)))
    (cases_lt i (k + size f)))
    (cases_lt (i + 1) (k + size f))

-- the root of an operand is no operand of a part inside it or beside it
not_within : {i l k n : ℕ} → Between i l k n → i ≡ k + n - 1 → ⊥
not_within b e = omega (arith, b.later, b.high)

not_left : {i l k m : ℕ} (n : ℕ) → Between i l k m → (i ≡ k + m - 1) ⊎ (i ≡ k + m + n - 1) → ⊥
not_left n b h = ⊎_elim (λ e. omega (arith, b.later, b.high)) (λ e. omega (arith, b.later, b.high)) h

not_right : {i l n : ℕ} (k m : ℕ) → 0 < m → Between i l (k + m) n → (i ≡ k + m - 1) ⊎ (i ≡ k + m + n - 1) → ⊥
not_right k m s b h = ⊎_elim (λ e. omega (arith, b.low)) (λ e. omega (arith, b.later, b.high)) h

not_both : {i l m k n o : ℕ} → Between i l k n → Between i m (k + n) o → ⊥
not_both b c = omega (arith, b.later, b.high, c.low)

-- and no other one
same_operator : {i l m k : ℕ} {f : Form ℕ} → Operand i l k f → Operand i m k f → l ≡ m
same_operator (of_one a b) (of_one c d) = a ∙ sym c
same_operator (of_one a b) (in_one d) = absurd (not_within (between d) b)
same_operator (in_one d) (of_one a b) = absurd (not_within (between d) b)
same_operator (in_one d) (in_one e) = same_operator d e
same_operator (of_two a b) (of_two c d) = a ∙ sym c
same_operator (of_two {g = g} a b) (in_left d) = absurd (not_left (size g) (between d) b)
same_operator (of_two {k = k} {f = f} a b) (in_right d) = absurd (not_right k (size f) (size_some f) (between d) b)
same_operator (in_left {g = g} d) (of_two a b) = absurd (not_left (size g) (between d) b)
same_operator (in_left d) (in_left e) = same_operator d e
same_operator (in_left d) (in_right e) = absurd (not_both (between d) (between e))
same_operator (in_right {k = k} {f = f} d) (of_two a b) = absurd (not_right k (size f) (size_some f) (between d) b)
same_operator (in_right d) (in_left e) = absurd (not_both (between e) (between d))
same_operator (in_right d) (in_right e) = same_operator d e

long_two : (k : ℕ) (f g : Form ℕ) → length (all_operands k f ++ all_operands (k + size f) g) ≡ size f + size g
long_two k f g = simp length-append (omega (arith, length_operands k f, length_operands (k + size f) g))

-- an operand of part m of two lists in a row, or of a list of one
module _ (i : ℕ) where
  abbrev Has : List Operands → ℕ → Type 0
  Has xs m = Among i (get_or xs m no_operand)

  has_split : (xs ys : List Operands) (n m : ℕ) → length xs ≡ n → Has (xs ++ ys) m → ((m < n) × Has xs m) ⊎ ((n ≤ m) × Has ys (m - n))
  has_split xs ys n m e h =
      ⊎_elim (λ a. inl (a, subst (Among i) (get_or-append xs ys no_operand m (omega arith)) h))
      (λ a. inr (a, subst (Among i) (get_or-append_right xs ys n m no_operand e a) h))
      (cases_lt m n)

  has_lone : (r : Operands) (m : ℕ) → Has (r ∷ []) m → (m ≡ 0) × Among i r
  has_lone r zero h = (refl, h)
  has_lone r (suc m) h = absurd h

  -- from the list to the operand of a part
  listed : (k : ℕ) (f : Form ℕ) (m : ℕ) → Has (all_operands k f) m → Operand i (k + m) k f
  listed k yes_form m h = absurd (has_lone no_operand m h).1
  listed k no_form m h = absurd (has_lone no_operand m h).1
  listed k (leaf n) m h = absurd (has_lone no_operand m h).1
  listed k (one o f) m h =
      let root = operand (k + size f - 1) in
      ⊎_elim (λ a. in_one (listed k f m a.1))
      (λ a. let r = has_lone root (m - size f) a.1 in of_one (omega (arith, a.0, r.0)) r.1)
      (has_split (all_operands k f) (root ∷ []) (size f) m (length_operands k f) h)
  listed k (two o f g) m h =
      let left = all_operands k f in
      let right = all_operands (k + size f) g in
      let root = operands (k + size f - 1) (k + size f + size g - 1) in
      ⊎_elim (λ a. ⊎_elim (λ b. in_left (listed k f m b.1))
      (λ b. let at : k + size f + (m - size f) ≡ k + m = omega (arith, b.0) in in_right (subst (λ l. Operand i l (k + size f) g) at (listed (k + size f) g (m - size f) b.1)))
      (has_split left right (size f) m (length_operands k f) a.1))
      (λ a. let r = has_lone root (m - (size f + size g)) a.1 in of_two (omega (arith, a.0, r.0)) r.1)
      (has_split (left ++ right) (root ∷ []) (size f + size g) m (long_two k f g) h)

  -- and back
  has_left : (xs ys : List Operands) (n m : ℕ) → length xs ≡ n → m < n → Has xs m → Has (xs ++ ys) m
  has_left xs ys n m e a h = subst (Among i) (sym (get_or-append xs ys no_operand m (omega arith))) h

  has_right : (xs ys : List Operands) (n m : ℕ) → length xs ≡ n → n ≤ m → Has ys (m - n) → Has (xs ++ ys) m
  has_right xs ys n m e a h = subst (Among i) (sym (get_or-append_right xs ys n m no_operand e a)) h

  found : {l k : ℕ} {f : Form ℕ} → Operand i l k f → (m : ℕ) → l ≡ k + m → Has (all_operands k f) m
  found (of_one {k = k} {f = f} a b) m e =
      subst (Among i) (sym (get_or_push (all_operands k f) (operand (k + size f - 1)) no_operand m (omega (arith, length_operands k f)))) b
  found (of_two {k = k} {f = f} {g = g} a b) m e =
      subst (Among i) (sym (get_or_push (all_operands k f ++ all_operands (k + size f) g) (operands (k + size f - 1) (k + size f + size g - 1)) no_operand m (omega (arith, long_two k f g)))) b
  found (in_one {k = k} {f = f} d) m e =
      let b = between d in
      has_left (all_operands k f) _ (size f) m (length_operands k f) (omega (arith, b.high)) (found d m e)
  found (in_left {k = k} {f = f} {g = g} d) m e =
      let b = between d in
      has_left (all_operands k f ++ all_operands (k + size f) g) _ (size f + size g) m (long_two k f g) (omega (arith, b.high))
      (has_left (all_operands k f) (all_operands (k + size f) g) (size f) m (length_operands k f) (omega (arith, b.high)) (found d m e))
  found (in_right {k = k} {f = f} {g = g} d) m e =
      let b = between d in
      has_left (all_operands k f ++ all_operands (k + size f) g) _ (size f + size g) m (long_two k f g) (omega (arith, b.high))
      (has_right (all_operands k f) (all_operands (k + size f) g) (size f) m (length_operands k f) (omega (arith, b.low, b.later)) (found d (m - size f) (omega (arith, b.low, b.later))))

once_one : (f : Form ℕ) (i : ℕ) → i + 1 < size f → (j : ℕ) × (i < j) × (j < size f) × Among i (operands_in f j) × ((l : ℕ) → Among i (operands_in f l) → l ≡ j)
once_one f i h =
    let r = operator 0 f i (omega arith) (omega arith) in
    let b = between r.1 in
    (r.0, b.later, omega (arith, b.high), found i r.1 r.0 (omega arith), λ l a. let e = same_operator (listed i 0 f l a) r.1 in omega arith)

once_none : (f : Form ℕ) (i : ℕ) → i + 1 ≡ size f → (l : ℕ) → Among i (operands_in f l) → ⊥
once_none f i h l a = let b = between (listed i 0 f l a) in omega (arith, b.later, b.high)

pub once : OperandOnce
once f i = (once_one f i, once_none f i)
