-- The parts of a form give back that form, and a list of parts that gives a form is its list.
use Rattle.std.proofs.Common.{◌≡◌, ℕ, ◌<◌, true, false, ◌&&◌, List, [], ◌∷◌, ◌++◌, length, Some, None, Option, sym, refl, ap, ◌∙◌, subst, append_assoc, append-nil, arith, length-append}
use Rattle.std.proofs.lemmas.Bool.{false≢true, and_parts, and_from, ltb-true, lt-ltb}
use Rattle.grammar.specs.Forms.{Form, Part, parts, size}
use Rattle.grammar.specs.Forms.Form.{yes_form, no_form, leaf, one, two}
use Rattle.grammar.specs.Forms.Part.{always, never, known, on_one, on_two}
use Rattle.grammar.specs.Shape.{added, after, opened, sole, tree_of, is_some, is_tree, tree_else, form_of, has_label_below, labelled}
use Rattle.grammar.specs.Names.{Known}

-- a part for each node
pub length-parts : (f : Form ℕ) → length (parts f) ≡ size f
length-parts yes_form = refl
length-parts no_form = refl
length-parts (leaf i) = refl
length-parts (one o f) = simp length-append (omega (arith, length-parts f))
length-parts (two o f g) = simp length-append (omega (arith, length-parts f, length-parts g))

pub size_some : (f : Form ℕ) → 0 < size f
size_some yes_form = omega arith
size_some no_form = omega arith
size_some (leaf i) = omega arith
size_some (one o f) = omega arith
size_some (two o f g) = omega arith

-- after the parts of a form, that form stands open
pub opened-parts : (f : Form ℕ) (ps : List (Part ℕ)) (fs : List (Form ℕ)) → opened (parts f ++ ps) fs ≡ opened ps (f ∷ fs)
opened-parts yes_form ps fs = refl
opened-parts no_form ps fs = refl
opened-parts (leaf i) ps fs = refl
opened-parts (one o f) ps fs =
    ap (λ l. opened l fs) (append_assoc (parts f) (on_one o ∷ []) ps) ∙ opened-parts f (on_one o ∷ ps) fs
opened-parts (two o f g) ps fs =
    let regroup : parts f ++ parts g ++ on_two o ∷ [] ++ ps ≡ parts f ++ (parts g ++ on_two o ∷ ps) = simp append_assoc in
    ap (λ l. opened l fs) regroup
    ∙ opened-parts f (parts g ++ on_two o ∷ ps) fs
    ∙ opened-parts g (on_two o ∷ ps) (f ∷ fs)

pub tree_parts : (f : Form ℕ) → tree_of (parts f) ≡ Some f
tree_parts f =
    ap (λ l. after (opened l []) sole) (sym (append-nil (parts f))) ∙ ap (λ x. after x sole) (opened-parts f [] [])

-- the parts of the open forms, oldest first
abbrev pub laid : List (Form ℕ) → List (Part ℕ)
laid [] = []
laid (f ∷ fs) = laid fs ++ parts f

abbrev Lays : List (Part ℕ) → Option (List (Form ℕ)) → Type 0
Lays ps None = Unit {0}
Lays ps (Some fs) = ps ≡ laid fs

added_lays : (p : Part ℕ) (fs : List (Form ℕ)) → Lays (laid fs ++ p ∷ []) (added p fs)
added_lays always fs = refl
added_lays never fs = refl
added_lays (known i) fs = refl
added_lays (on_one o) [] = tt
added_lays (on_one o) (f ∷ fs) = simp append_assoc
added_lays (on_two o) [] = tt
added_lays (on_two o) (g ∷ []) = tt
added_lays (on_two o) (g ∷ f ∷ fs) = simp append_assoc

lays_more : (p : Part ℕ) (qs ps : List (Part ℕ)) (o : Option (List (Form ℕ))) → Lays (qs ++ p ∷ []) o → ((fs : List (Form ℕ)) → Lays (laid fs ++ ps) (opened ps fs)) → Lays (qs ++ p ∷ ps) (after o (opened ps))
lays_more p qs ps None e k = tt
lays_more p qs ps (Some fs) e k = subst (λ l. Lays l (opened ps fs)) (ap (λ l. l ++ ps) (sym e) ∙ append_assoc qs (p ∷ []) ps) (k fs)

opened_lays : (ps : List (Part ℕ)) (fs : List (Form ℕ)) → Lays (laid fs ++ ps) (opened ps fs)
opened_lays [] fs = append-nil (laid fs)
opened_lays (p ∷ ps) fs = lays_more p (laid fs) ps (added p fs) (added_lays p fs) (opened_lays ps)

-- the parts are those of the form, if there is one
abbrev Of : List (Part ℕ) → Option (Form ℕ) → Type 0
Of ps None = Unit {0}
Of ps (Some f) = ps ≡ parts f

sole_of : (ps : List (Part ℕ)) (fs : List (Form ℕ)) → ps ≡ laid fs → Of ps (sole fs)
sole_of ps [] e = tt
sole_of ps (f ∷ []) e = e
sole_of ps (f ∷ g ∷ fs) e = tt

open_of : (ps : List (Part ℕ)) (o : Option (List (Form ℕ))) → Lays ps o → Of ps (after o sole)
open_of ps None e = tt
open_of ps (Some fs) e = sole_of ps fs e

tree_of_lem : (ps : List (Part ℕ)) → Of ps (tree_of ps)
tree_of_lem ps = open_of ps (opened ps []) (opened_lays ps [])

pub tree_is : (ps : List (Part ℕ)) (f : Form ℕ) → tree_of ps ≡ Some f → ps ≡ parts f
tree_is ps f e = subst (Of ps) e (tree_of_lem ps)

else_parts : (ps : List (Part ℕ)) (o : Option (Form ℕ)) → Of ps o → is_some o ≡ true → parts (tree_else o) ≡ ps
else_parts ps None e h = absurd (false≢true h)
else_parts ps (Some f) e h = sym e

pub form_parts : (ps : List (Part ℕ)) → is_tree ps ≡ true → parts (form_of ps) ≡ ps
form_parts ps h = else_parts ps (tree_of ps) (tree_of_lem ps) h

pub parts_form : (f : Form ℕ) → form_of (parts f) ≡ f
parts_form f = ap tree_else (tree_parts f)

pub parts_tree : (f : Form ℕ) → is_tree (parts f) ≡ true
parts_tree f = ap is_some (tree_parts f)

-- labels below the number of names
labelled-append : (n : ℕ) (ps qs : List (Part ℕ)) → labelled n (ps ++ qs) ≡ (labelled n ps && labelled n qs)
labelled-append n [] qs = refl
labelled-append n (p ∷ ps) qs =
    elim (has_label_below n p) as (λ b. (b && labelled n (ps ++ qs)) ≡ ((b && labelled n ps) && labelled n qs)) [ true ↦ labelled-append n ps qs | false ↦ refl ]

pub labelled_known : (names : List (List ℕ)) (f : Form ℕ) → labelled (length names) (parts f) ≡ true → Known names f
labelled_known names yes_form e = tt
labelled_known names no_form e = tt
labelled_known names (leaf i) e = ltb-true i (length names) (and_parts _ _ e).0
labelled_known names (one o f) e =
    labelled_known names f (and_parts _ _ (sym (labelled-append (length names) (parts f) (on_one o ∷ [])) ∙ e)).0
labelled_known names (two o f g) e =
    let n = length names in
    let h = (and_parts _ _ (sym (labelled-append n (parts f ++ parts g) (on_two o ∷ [])) ∙ e)).0 in
    let k = and_parts _ _ (sym (labelled-append n (parts f) (parts g)) ∙ h) in
    (labelled_known names f k.0, labelled_known names g k.1)

pub known_labelled : (names : List (List ℕ)) (f : Form ℕ) → Known names f → labelled (length names) (parts f) ≡ true
known_labelled names yes_form h = refl
known_labelled names no_form h = refl
known_labelled names (leaf i) h = and_from _ true (lt-ltb i (length names) h) refl
known_labelled names (one o f) h =
    labelled-append (length names) (parts f) (on_one o ∷ []) ∙ and_from _ true (known_labelled names f h) refl
known_labelled names (two o f g) h =
    let n = length names in
    labelled-append n (parts f ++ parts g) (on_two o ∷ [])
    ∙ and_from _ true (labelled-append n (parts f) (parts g) ∙ and_from _ _ (known_labelled names f h.0) (known_labelled names g h.1)) refl
