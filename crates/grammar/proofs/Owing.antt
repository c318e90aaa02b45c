-- Walking back over the parts of one form, from its root to its first part.
use Rattle.std.proofs.Common.{◌≡◌, ℕ, ◌+◌, ◌-◌, ◌<◌, ◌≤◌, List, [], ◌∷◌, ◌++◌, length, get_or, take, sym, refl, ap, ◌∙◌, append_assoc, append-nil, arith, length-append}
use Rattle.std.proofs.lemmas.List.{take_more, same_from_push, length-take-le, nil_from_length}
use Rattle.grammar.specs.Forms.{Form, Part, parts, size, arity, root}
use Rattle.grammar.specs.Forms.Form.{yes_form, no_form, leaf, one, two}
use Rattle.grammar.specs.Signs.{Sign}
use Rattle.grammar.specs.Numbering.{Inside}
use Rattle.grammar.proofs.Trees.{length-parts, laid}
use Rattle.grammar.proofs.Segments.{segment_take, segment_fits}
use Rattle.grammar.proofs.Places.{inside_parts}

-- the parts below `at` and from k on are those of so many forms, the last of them first
pub record Owing (ps : List (Part ℕ)) (k at owed : ℕ) : Type 0 where
  pub forms : List (Form ℕ)
  pub many : length forms ≡ owed
  pub stands : take at ps ≡ take k ps ++ laid forms
  pub inside : at ≤ length ps
  pub low : k ≤ length ps

pub owing_start : {f g : Form ℕ} {k : ℕ} {p : Sign} → Inside f k p g → (n : ℕ) → k + size g ≡ n → Owing (parts f) k n 1
owing_start {f} {g} {k} d n e =
    let s = inside_parts d in
    let fits = segment_fits s in
    let l = length-parts g in
    record {
      forms = g ∷ [];
      many = refl;
      stands = ap (λ m. take m (parts f)) (omega arith) ∙ segment_take s;
      inside = omega arith;
      low = omega arith;
    }

-- the operands of a form, the last first
abbrev under_root : Form ℕ → List (Form ℕ)
under_root yes_form = []
under_root no_form = []
under_root (leaf i) = []
under_root (one o f) = f ∷ []
under_root (two o f g) = g ∷ f ∷ []

laid_root : (f : Form ℕ) (fs : List (Form ℕ)) → laid (f ∷ fs) ≡ laid (under_root f ++ fs) ++ root f ∷ []
laid_root yes_form fs = refl
laid_root no_form fs = refl
laid_root (leaf i) fs = refl
laid_root (one o f) fs = simp append_assoc
laid_root (two o f g) fs = simp append_assoc

length-root : (f : Form ℕ) (fs : List (Form ℕ)) → length (under_root f ++ fs) ≡ length fs + arity (root f)
length-root yes_form fs = omega arith
length-root no_form fs = omega arith
length-root (leaf i) fs = omega arith
length-root (one o f) fs = omega arith
length-root (two o f g) fs = omega arith

module _ (ps : List (Part ℕ)) (k at owed : ℕ) (d : Part ℕ) (inside : at ≤ length ps) (low : k ≤ length ps) where
  step : (fs : List (Form ℕ)) → length fs ≡ owed → take at ps ≡ take k ps ++ laid fs → 0 < owed → (0 < at) × Owing ps k (at - 1) (owed - 1 + arity (get_or ps (at - 1) d))
  step [] m e h = absurd (omega arith)
  step (f ∷ fs) m e h =
      let front : List (Part ℕ) = take k ps ++ laid (under_root f ++ fs) in
      let push : take at ps ≡ front ++ root f ∷ [] = e ∙ ap (λ l. take k ps ++ l) (laid_root f fs) ∙ sym (append_assoc (take k ps) (laid (under_root f ++ fs)) (root f ∷ [])) in
      let some : 0 < at = omega (arith, length-take-le at ps inside, ap length push ∙ length-append front (root f ∷ [])) in
      let back : at - 1 + 1 ≡ at = omega arith in
      let both = same_from_push (take (at - 1) ps) front (get_or ps (at - 1) d) (root f) (sym (take_more ps (at - 1) d (omega arith)) ∙ ap (λ n. take n ps) back ∙ push) in (
        some,
        record {
          forms = under_root f ++ fs;
          many = length-root f fs ∙ omega (arith, ap arity both.1);
          stands = both.0;
          inside = omega arith;
          low = low;
        },
      )

pub owing_more : {ps : List (Part ℕ)} {k at owed : ℕ} → Owing ps k at owed → 0 < owed → (d : Part ℕ) → (0 < at) × Owing ps k (at - 1) (owed - 1 + arity (get_or ps (at - 1) d))
owing_more {ps} {k} {at} {owed} w h d = step ps k at owed d w.inside w.low w.forms w.many w.stands h

pub owing_done : {ps : List (Part ℕ)} {k at : ℕ} → Owing ps k at 0 → at ≡ k
owing_done {ps} {k} {at} w =
    let all : take at ps ≡ take k ps = w.stands ∙ ap (λ l. take k ps ++ laid l) (nil_from_length w.forms w.many) ∙ append-nil (take k ps) in
    omega (arith, length-take-le at ps w.inside, length-take-le k ps w.low, ap length all)
