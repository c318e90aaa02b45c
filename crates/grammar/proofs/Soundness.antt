-- What the reader accepts is a text of the grammar.
use Rattle.std.proofs.Common.{◌≡◌, List, [], ◌∷◌, ◌++◌, sym, refl, ap, ◌∙◌, subst, append_assoc, append-nil}
use Rattle.grammar.specs.Forms.Form.{yes_form, no_form, leaf, one, two}
use Rattle.grammar.specs.Forms.Binary.{implies, until}
use Rattle.grammar.specs.Words.{Word}
use Rattle.grammar.specs.Words.Word.{open_word, close, square, unsquare, amp, bar, arrow, before, path, u_word, true_word, false_word, name}
use Rattle.grammar.specs.Grammar.{Tree, Is}
use Rattle.grammar.specs.Grammar.Level.{rule, or, and, unary}
use Rattle.grammar.specs.Grammar.Is.{rule_or, rule_arrow, or_and, or_bar, and_unary, and_amp, unary_before, unary_atom, atom_true, atom_false, atom_name, atom_round, atom_until}
use Rattle.grammar.specs.Machine.{Awaits, Stack, State, Ending, give, or_tree, or_rest, ends, closes, untils, unsquares, has, step, steps, final, start}
use Rattle.grammar.specs.Machine.Awaits.{a_rule, a_and, a_unary}
use Rattle.grammar.specs.Machine.Stack.{bottom, in_round, in_left, in_right, after_arrow, plain_or, after_bar, plain_and, after_amp, after_before}
use Rattle.grammar.specs.Machine.State.{need, need_square, have, dead}
use Rattle.grammar.specs.Machine.Ending.{whole, early}

abbrev Early : Ending → Type 0
Early (whole f) = ⊥
Early early = Unit {0}

pub early_whole : {f : Tree} → early ≡ whole f → ⊥
early_whole e = subst Early e tt

-- the words us stand for what is open in the stack
abbrev pub Spelt : {a : Awaits} → Stack a → List Word → Type 0
Spelt bottom us = us ≡ []
Spelt (in_round s) us = (vs : List Word) × Spelt s vs × (us ≡ vs ++ open_word ∷ [])
Spelt (in_left q s) us = (vs : List Word) × Spelt s vs × (us ≡ vs ++ path q ∷ square ∷ [])
Spelt (in_right q f s) us = (vs : List Word) × (xs : List Word) × Spelt s vs × Is rule xs f × (us ≡ vs ++ (path q ∷ square ∷ (xs ++ u_word ∷ [])))
Spelt (after_arrow f s) us = (vs : List Word) × (xs : List Word) × Spelt s vs × Is or xs f × (us ≡ vs ++ (xs ++ arrow ∷ []))
Spelt (plain_or s) us = Spelt s us
Spelt (after_bar f s) us = (vs : List Word) × (xs : List Word) × Spelt s vs × Is or xs f × (us ≡ vs ++ (xs ++ bar ∷ []))
Spelt (plain_and s) us = Spelt s us
Spelt (after_amp f s) us = (vs : List Word) × (xs : List Word) × Spelt s vs × Is and xs f × (us ≡ vs ++ (xs ++ amp ∷ []))
Spelt (after_before k s) us = (vs : List Word) × Spelt s vs × (us ≡ vs ++ before k ∷ [])

abbrev pub Meant : State → List Word → Type 0
Meant (need s) us = Spelt s us
Meant (need_square q s) us = (vs : List Word) × Spelt s vs × (us ≡ vs ++ path q ∷ [])
Meant (have f s) us = (vs : List Word) × (xs : List Word) × Spelt s vs × Is and xs f × (us ≡ vs ++ xs)
Meant dead us = Unit {0}

give-meant : (f : Tree) (s : Stack a_unary) (vs xs : List Word) → Spelt s vs → Is unary xs f → Meant (give f s) (vs ++ xs)
give-meant f (plain_and s) vs xs h d = (vs, xs, h, and_unary d, refl)
give-meant f (after_amp g s) vs xs h d =
    (h.0, h.1 ++ amp ∷ xs, h.2, and_amp h.3 d, ap (λ l. l ++ xs) h.4 ∙ simp append_assoc)
give-meant f (after_before k s) vs xs h d =
    subst (Meant (give (one k f) s)) (sym (ap (λ l. l ++ xs) h.2 ∙ simp append_assoc))
    (give-meant (one k f) s h.0 (before k ∷ xs) h.1 (unary_before k d))

-- a whole `or`, with what is around it
abbrev WholeOr : Tree → Stack a_rule → List Word → Type 0
WholeOr f s us = (vs : List Word) × (xs : List Word) × Spelt s vs × Is or xs f × (us ≡ vs ++ xs)

or_meant : (f : Tree) (s : Stack a_and) (us : List Word) → Meant (have f s) us → WholeOr (or_tree f s) (or_rest s) us
or_meant f (plain_or s) us h = (h.0, h.1, h.2, or_and h.3, h.4)
or_meant f (after_bar g s) us h =
    let b = h.2 in
    (b.0, b.1 ++ bar ∷ h.1, b.2, or_bar b.3 h.3, h.4 ∙ ap (λ l. l ++ h.1) b.4 ∙ simp append_assoc)

closes-meant : (f : Tree) (s : Stack a_rule) (vs xs : List Word) → Spelt s vs → Is rule xs f → Meant (closes f s) (vs ++ (xs ++ close ∷ []))
closes-meant f bottom vs xs h d = tt
closes-meant f (in_round s) vs xs h d =
    subst (Meant (give f s)) (sym (ap (λ l. l ++ (xs ++ close ∷ [])) h.2 ∙ simp append_assoc))
    (give-meant f s h.0 (open_word ∷ (xs ++ close ∷ [])) h.1 (unary_atom (atom_round d)))
closes-meant f (in_left q s) vs xs h d = tt
closes-meant f (in_right q g s) vs xs h d = tt
closes-meant f (after_arrow g s) vs xs h d =
    subst (Meant (closes (two implies g f) s)) (sym (ap (λ l. l ++ (xs ++ close ∷ [])) h.4 ∙ simp append_assoc))
    (closes-meant (two implies g f) s h.0 (h.1 ++ arrow ∷ xs) h.2 (rule_arrow h.3 d))

untils-meant : (f : Tree) (s : Stack a_rule) (vs xs : List Word) → Spelt s vs → Is rule xs f → Meant (untils f s) (vs ++ (xs ++ u_word ∷ []))
untils-meant f bottom vs xs h d = tt
untils-meant f (in_round s) vs xs h d = tt
untils-meant f (in_left q s) vs xs h d =
    (h.0, xs, h.1, d, ap (λ l. l ++ (xs ++ u_word ∷ [])) h.2 ∙ simp append_assoc)
untils-meant f (in_right q g s) vs xs h d = tt
untils-meant f (after_arrow g s) vs xs h d =
    subst (Meant (untils (two implies g f) s)) (sym (ap (λ l. l ++ (xs ++ u_word ∷ [])) h.4 ∙ simp append_assoc))
    (untils-meant (two implies g f) s h.0 (h.1 ++ arrow ∷ xs) h.2 (rule_arrow h.3 d))

unsquares-meant : (f : Tree) (s : Stack a_rule) (vs xs : List Word) → Spelt s vs → Is rule xs f → Meant (unsquares f s) (vs ++ (xs ++ unsquare ∷ []))
unsquares-meant f bottom vs xs h d = tt
unsquares-meant f (in_round s) vs xs h d = tt
unsquares-meant f (in_left q s) vs xs h d = tt
unsquares-meant f (in_right q g s) vs xs h d =
    subst (Meant (give (two (until q) g f) s)) (sym (ap (λ l. l ++ (xs ++ unsquare ∷ [])) h.4 ∙ simp append_assoc))
    (give-meant (two (until q) g f) s h.0 (path q ∷ square ∷ (h.1 ++ u_word ∷ xs ++ unsquare ∷ [])) h.2 (unary_atom (atom_until q h.3 d)))
unsquares-meant f (after_arrow g s) vs xs h d =
    subst (Meant (unsquares (two implies g f) s)) (sym (ap (λ l. l ++ (xs ++ unsquare ∷ [])) h.4 ∙ simp append_assoc))
    (unsquares-meant (two implies g f) s h.0 (h.1 ++ arrow ∷ xs) h.2 (rule_arrow h.3 d))

ends_meant : (f : Tree) (s : Stack a_rule) (vs xs : List Word) (g : Tree) → Spelt s vs → Is rule xs f → ends f s ≡ whole g → Is rule (vs ++ xs) g
ends_meant f bottom vs xs g h d e =
    let same : f ≡ g = cc in
    subst (λ l. Is rule (l ++ xs) g) (sym h) (subst (Is rule xs) same d)
ends_meant f (in_round s) vs xs g h d e = absurd (early_whole e)
ends_meant f (in_left q s) vs xs g h d e = absurd (early_whole e)
ends_meant f (in_right q k s) vs xs g h d e = absurd (early_whole e)
ends_meant f (after_arrow k s) vs xs g h d e =
    subst (λ l. Is rule l g) (sym (ap (λ l. l ++ xs) h.4 ∙ simp append_assoc))
    (ends_meant (two implies k f) s h.0 (h.1 ++ arrow ∷ xs) g h.2 (rule_arrow h.3 d) e)

module _ (f : Tree) (s : Stack a_and) (us : List Word) (h : Meant (have f s) us) where
  abbrev all_or : WholeOr (or_tree f s) (or_rest s) us
  all_or = or_meant f s us h

  closed : Meant (has f s close) (us ++ close ∷ [])
  closed =
      subst (Meant (has f s close)) (sym (ap (λ l. l ++ close ∷ []) all_or.4 ∙ simp append_assoc))
      (closes-meant (or_tree f s) (or_rest s) all_or.0 all_or.1 all_or.2 (rule_or all_or.3))

  untiled : Meant (has f s u_word) (us ++ u_word ∷ [])
  untiled =
      subst (Meant (has f s u_word)) (sym (ap (λ l. l ++ u_word ∷ []) all_or.4 ∙ simp append_assoc))
      (untils-meant (or_tree f s) (or_rest s) all_or.0 all_or.1 all_or.2 (rule_or all_or.3))

  unsquared : Meant (has f s unsquare) (us ++ unsquare ∷ [])
  unsquared =
      subst (Meant (has f s unsquare)) (sym (ap (λ l. l ++ unsquare ∷ []) all_or.4 ∙ simp append_assoc))
      (unsquares-meant (or_tree f s) (or_rest s) all_or.0 all_or.1 all_or.2 (rule_or all_or.3))

  amped : Meant (has f s amp) (us ++ amp ∷ [])
  amped = (h.0, h.1, h.2, h.3, ap (λ l. l ++ amp ∷ []) h.4 ∙ simp append_assoc)

  barred : Meant (has f s bar) (us ++ bar ∷ [])
  barred = (all_or.0, all_or.1, all_or.2, all_or.3, ap (λ l. l ++ bar ∷ []) all_or.4 ∙ simp append_assoc)

  arrowed : Meant (has f s arrow) (us ++ arrow ∷ [])
  arrowed = (all_or.0, all_or.1, all_or.2, all_or.3, ap (λ l. l ++ arrow ∷ []) all_or.4 ∙ simp append_assoc)

  finished : (g : Tree) → final (have f s) ≡ whole g → Is rule us g
  finished g e =
      subst (λ l. Is rule l g) (sym all_or.4)
      (ends_meant (or_tree f s) (or_rest s) all_or.0 all_or.1 g all_or.2 (rule_or all_or.3) e)

step_meant : (st : State) (w : Word) (us : List Word) → Meant st us → Meant (step st w) (us ++ w ∷ [])
step_meant (need s) open_word us h = (us, h, refl)
step_meant (need s) close us h = tt
step_meant (need s) square us h = tt
step_meant (need s) unsquare us h = tt
step_meant (need s) amp us h = tt
step_meant (need s) bar us h = tt
step_meant (need s) arrow us h = tt
step_meant (need s) (before k) us h = (us, h, refl)
step_meant (need s) (path q) us h = (us, h, refl)
step_meant (need s) u_word us h = tt
step_meant (need s) true_word us h = give-meant yes_form s us (true_word ∷ []) h (unary_atom atom_true)
step_meant (need s) false_word us h = give-meant no_form s us (false_word ∷ []) h (unary_atom atom_false)
step_meant (need s) (name n) us h = give-meant (leaf n) s us (name n ∷ []) h (unary_atom (atom_name n))
step_meant (need_square q s) open_word us h = tt
step_meant (need_square q s) close us h = tt
step_meant (need_square q s) square us h = (h.0, h.1, ap (λ l. l ++ square ∷ []) h.2 ∙ simp append_assoc)
step_meant (need_square q s) unsquare us h = tt
step_meant (need_square q s) amp us h = tt
step_meant (need_square q s) bar us h = tt
step_meant (need_square q s) arrow us h = tt
step_meant (need_square q s) (before k) us h = tt
step_meant (need_square q s) (path r) us h = tt
step_meant (need_square q s) u_word us h = tt
step_meant (need_square q s) true_word us h = tt
step_meant (need_square q s) false_word us h = tt
step_meant (need_square q s) (name n) us h = tt
step_meant (have f s) open_word us h = tt
step_meant (have f s) close us h = closed f s us h
step_meant (have f s) square us h = tt
step_meant (have f s) unsquare us h = unsquared f s us h
step_meant (have f s) amp us h = amped f s us h
step_meant (have f s) bar us h = barred f s us h
step_meant (have f s) arrow us h = arrowed f s us h
step_meant (have f s) (before k) us h = tt
step_meant (have f s) (path q) us h = tt
step_meant (have f s) u_word us h = untiled f s us h
step_meant (have f s) true_word us h = tt
step_meant (have f s) false_word us h = tt
step_meant (have f s) (name n) us h = tt
step_meant dead w us h = tt

steps-meant : (ws : List Word) (st : State) (us : List Word) → Meant st us → Meant (steps st ws) (us ++ ws)
steps-meant [] st us h = subst (Meant st) (sym (append-nil us)) h
steps-meant (w ∷ ws) st us h =
    subst (Meant (steps (step st w) ws)) (simp append_assoc)
    (steps-meant ws (step st w) (us ++ w ∷ []) (step_meant st w us h))

final-meant : (st : State) (us : List Word) (g : Tree) → Meant st us → final st ≡ whole g → Is rule us g
final-meant (need s) us g h e = absurd (early_whole e)
final-meant (need_square q s) us g h e = absurd (early_whole e)
final-meant (have f s) us g h e = finished f s us h g e
final-meant dead us g h e = absurd (early_whole e)

pub sound : (ws : List Word) (f : Tree) → final (steps start ws) ≡ whole f → Is rule ws f
sound ws f e = final-meant (steps start ws) ws f (steps-meant ws start [] refl) e
