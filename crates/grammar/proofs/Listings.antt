-- The name list: the tests say what the relations say.
use Rattle.std.proofs.Common.{◌≡◌, ℕ, zero, suc, ◌+◌, ◌<◌, ◌≤◌, Bool, true, false, cond, ◌&&◌, T, leb, List, [], ◌∷◌, length, get_or, take, drop, sym, refl, ap, ◌∙◌, subst, arith, le-leb, leb-false, leb-true}
use borrow.Author.Tests.{lt-leb}
use Rattle.std.proofs.lemmas.Bool.{and_parts}
use Rattle.grammar.specs.Forms.Unary.{ex, ax, ef, af, eg, ag}
use Rattle.grammar.specs.Forms.Path.{every, some}
use Rattle.grammar.specs.Words.{Word, letter, inner, same, spelled}
use Rattle.grammar.specs.Scanning.{run, words_of}
use Rattle.grammar.specs.Words.Word.{before, path, u_word, true_word, false_word, name}
use Rattle.grammar.specs.Answering.{Answer, TextAnswer}
use Rattle.grammar.specs.Reading.{read_of}
use Rattle.grammar.specs.Names.{all_inner, Name, Names}
use Rattle.grammar.specs.Reading.{plain, naming, absent, fine, Verdict, hunt, wrong_in, first_list, answer_of}
use Rattle.grammar.specs.Answering.{Fine, Answering}
use Rattle.grammar.specs.Reading.Verdict.{right, wrong}
use Rattle.grammar.specs.Answering.Answering.{long_list, bad_entry, good_list}
use Rattle.grammar.proofs.Answering.{answers, only}
use Rattle.grammar.proofs.Cutting.{is_cut, only_cut}

apart : false ≡ true → ⊥
apart e = subst T (sym e) tt

and_both : (a b : Bool) → a ≡ true → b ≡ true → (a && b) ≡ true
and_both true b e f = f
and_both false b e f = e

-- a run that is no reserved word is spelled as a name
unreserved : (b : Bool) (x y z : Word) → plain x ≡ false → (plain y ≡ true → y ≡ z) → plain (cond b x y) ≡ true → cond b x y ≡ z
unreserved true x y z p h e = absurd (apart (sym p ∙ e))
unreserved false x y z p h e = h e

pub plain-spelled : (n : List ℕ) → plain (spelled n) ≡ true → spelled n ≡ name n
unfolding spelled
plain-spelled n =
    unreserved (same n (65 ∷ [])) (path every) _ (name n) refl
    (unreserved (same n (69 ∷ [])) (path some) _ (name n) refl
    (unreserved (same n (85 ∷ [])) u_word _ (name n) refl
    (unreserved (same n (65 ∷ 88 ∷ [])) (before ax) _ (name n) refl
    (unreserved (same n (69 ∷ 88 ∷ [])) (before ex) _ (name n) refl
    (unreserved (same n (65 ∷ 70 ∷ [])) (before af) _ (name n) refl
    (unreserved (same n (69 ∷ 70 ∷ [])) (before ef) _ (name n) refl
    (unreserved (same n (65 ∷ 71 ∷ [])) (before ag) _ (name n) refl
    (unreserved (same n (69 ∷ 71 ∷ [])) (before eg) _ (name n) refl
    (unreserved (same n (116 ∷ 114 ∷ 117 ∷ 101 ∷ [])) true_word _ (name n) refl
    (unreserved (same n (102 ∷ 97 ∷ 108 ∷ 115 ∷ 101 ∷ [])) false_word (name n) (name n) refl (λ e. refl)))))))))))

pub naming_name : (n : List ℕ) → naming n ≡ true → Name n
naming_name [] e = apart e
naming_name (b ∷ r) e =
    let a = and_parts (letter b) _ e in
    let c = and_parts (all_inner r) _ a.1 in
    let d = and_parts (leb (length r) 15) _ c.1 in
    (a.0, c.0, leb-true _ _ d.0, plain-spelled (b ∷ r) d.1)

pub name_naming : (n : List ℕ) → Name n → naming n ≡ true
name_naming [] h = absurd h
name_naming (b ∷ r) h = and_both _ _ h.0 (and_both _ _ h.1 (and_both _ _ (le-leb _ _ h.2) (ap plain h.3)))

cond_true : (b c : Bool) → cond b false c ≡ true → b ≡ false
cond_true true c e = sym e
cond_true false c e = refl

pub absent_each : (names : List (List ℕ)) (i : ℕ) (n : List ℕ) → absent (take i names) n ≡ true → i ≤ length names → (j : ℕ) → j < i → same (get_or names j []) n ≡ false
absent_each names zero n e h j k = absurd (omega arith)
absent_each [] (suc i) n e h j k = absurd (omega arith)
absent_each (m ∷ names) (suc i) n e h zero k = cond_true (same m n) _ e
absent_each (m ∷ names) (suc i) n e h (suc j) k =
    absent_each names i n (subst (λ b. cond b false (absent (take i names) n) ≡ true) (cond_true (same m n) _ e) e) (omega arith) j (omega arith)

pub each_absent : (names : List (List ℕ)) (i : ℕ) (n : List ℕ) → i ≤ length names → ((j : ℕ) → j < i → same (get_or names j []) n ≡ false) → absent (take i names) n ≡ true
each_absent names zero n h k = refl
each_absent [] (suc i) n h k = absurd (omega arith)
each_absent (m ∷ names) (suc i) n h k =
    ap (λ b. cond b false (absent (take i names) n)) (k 0 (omega arith))
    ∙ each_absent names i n (omega arith) (λ j x. k (suc j) (omega arith))

fine_Fine : (names : List (List ℕ)) (i : ℕ) → i ≤ length names → fine names i ≡ true → Fine names i
fine_Fine names i h e =
    let k = and_parts (naming (get_or names i [])) _ e in
    (naming_name _ k.0, absent_each names i _ k.1 h)

Fine-fine : (names : List (List ℕ)) (i : ℕ) → i ≤ length names → Fine names i → fine names i ≡ true
Fine-fine names i h k = and_both _ _ (name_naming _ k.0) (each_absent names i _ h k.1)

-- what a hunt shows
pub record Hunted (k i : ℕ) (f : ℕ → Bool) (p : ℕ) : Type 0 where
  pub from : i ≤ p
  pub below : p < i + k
  pub before : (j : ℕ) → i ≤ j → j < p → f j ≡ true
  pub there : f p ≡ false

abbrev Hunt : ℕ → ℕ → (ℕ → Bool) → Verdict → Type 0
Hunt k i f right = (j : ℕ) → i ≤ j → j < i + k → f j ≡ true
Hunt k i f (wrong p) = Hunted k i f p

-- a place is i or past it
order : {P : Type 0} (i j : ℕ) → i ≤ j → (i ≡ j → P) → (suc i ≤ j → P) → P
order {P} i j h y n = go (leb (suc i) j) refl
  where
    go : (t : Bool) → leb (suc i) j ≡ t → P
    go true e = n (leb-true _ _ e)
    go false e = y (omega (arith, leb-false _ _ e))

hunt_more : (k i : ℕ) (f : ℕ → Bool) (v : Verdict) → f i ≡ true → Hunt k (suc i) f v → Hunt (suc k) i f v
hunt_more k i f right e h = λ j a b. order i j a (λ x. subst (λ y. f y ≡ true) x e) (λ x. h j x (omega arith))
hunt_more k i f (wrong p) e h = record {
  from = omega (arith, h.from);
  below = omega (arith, h.below);
  before = λ j a b. order i j a (λ x. subst (λ y. f y ≡ true) x e) (λ x. h.before j x b);
  there = h.there;
}

hunted : (k i : ℕ) (f : ℕ → Bool) → Hunt k i f (hunt k i f)
hunted zero i f = λ j a b. absurd (omega arith)
hunted (suc k) i f = go (hunted k (suc i) f) (f i) refl
  where
    go : Hunt k (suc i) f (hunt k (suc i) f) → (t : Bool) → f i ≡ t → Hunt (suc k) i f (cond t (hunt k (suc i) f) (wrong i))
    go h true e = hunt_more k i f (hunt k (suc i) f) e h
    go h false e = record { from = omega arith; below = omega arith; before = λ j a b. absurd (omega arith); there = e }

module _ (names : List (List ℕ)) (text : List ℕ) where
  good : length names ≤ 32 → ((j : ℕ) → 0 ≤ j → j < 0 + length names → fine names j ≡ true) → Names names
  good n h = record {
    few = n;
    each = λ i k. (fine_Fine names i (omega arith) (h i (omega arith) (omega arith))).0;
    apart = λ i j a b. (fine_Fine names j (omega arith) (h j (omega arith) (omega arith))).1 i a;
  }

  by_hunt : (v : Verdict) → length names ≤ 32 → Hunt (length names) 0 (fine names) v → Answering names text (first_list v (read_of names text))
  by_hunt right n h = good_list (read_of names text) (words_of text) (good n h) (is_cut text 0) (answers names text)
  by_hunt (wrong p) n h =
      let inside = h.below in
      bad_entry p n (omega arith) (λ i k. fine_Fine names i (omega arith) (h.before i (omega arith) k))
      (λ k. apart (sym h.there ∙ Fine-fine names p (omega arith) k))

  by_limit : (t : Bool) → leb (length names) 32 ≡ t → Answering names text (first_list (cond t (hunt (length names) 0 (fine names)) (wrong 32)) (read_of names text))
  by_limit true e = by_hunt (hunt (length names) 0 (fine names)) (leb-true _ _ e) (hunted (length names) 0 (fine names))
  by_limit false e = long_list (leb-false _ _ e)

  pub answers_all : Answering names text (answer_of names text)
  unfolding wrong_in
  answers_all = by_limit (leb (length names) 32) refl

pub hunt_right : (k i : ℕ) (f : ℕ → Bool) → ((j : ℕ) → i ≤ j → j < i + k → f j ≡ true) → hunt k i f ≡ right
hunt_right zero i f h = refl
hunt_right (suc k) i f h =
    ap (λ b. cond b (hunt k (suc i) f) (wrong i)) (h i (omega arith) (omega arith))
    ∙ hunt_right k (suc i) f (λ j a b. h j (omega arith) (omega arith))

pub hunt_wrong : (k i : ℕ) (f : ℕ → Bool) (p : ℕ) → Hunted k i f p → hunt k i f ≡ wrong p
hunt_wrong zero i f p h = absurd (omega (arith, h.from, h.below))
hunt_wrong (suc k) i f p h =
    order i p h.from
    (λ e. ap (λ b. cond b (hunt k (suc i) f) (wrong i)) (ap f e ∙ h.there) ∙ ap wrong e)
    (λ e.
    ap (λ b. cond b (hunt k (suc i) f) (wrong i)) (h.before i (omega arith) e)
    ∙ hunt_wrong k (suc i) f p (record { from = e; below = omega (arith, h.below); before = λ j a b. h.before j (omega arith) b; there = h.there }))

not_true : (b : Bool) → (b ≡ true → ⊥) → b ≡ false
not_true true h = absurd (h refl)
not_true false h = refl

module _ (names : List (List ℕ)) where
  pub wrong_long : 32 < length names → wrong_in names ≡ wrong 32
  unfolding wrong_in
  wrong_long h = ap (λ b. cond b (hunt (length names) 0 (fine names)) (wrong 32)) (lt-leb _ 32 h)

  pub wrong_short : length names ≤ 32 → wrong_in names ≡ hunt (length names) 0 (fine names)
  unfolding wrong_in
  wrong_short h = ap (λ b. cond b (hunt (length names) 0 (fine names)) (wrong 32)) (le-leb _ 32 h)

  pub right_names : Names names → wrong_in names ≡ right
  right_names v =
      wrong_short v.few
      ∙ hunt_right (length names) 0 (fine names) (λ j a b. Fine-fine names j (omega arith) (v.each j (omega arith), λ i k. v.apart i j k (omega arith)))

  pub only_all : (text : List ℕ) {a : Answer} → Answering names text a → answer_of names text ≡ a
  only_all text (long_list h) = ap (λ v. first_list v (read_of names text)) (wrong_long h)
  only_all text (bad_entry p n h b w) =
      ap (λ v. first_list v (read_of names text))
      (wrong_short n
      ∙ hunt_wrong (length names) 0 (fine names) p (record {
        from = omega arith;
        below = omega arith;
        before = λ j x y. Fine-fine names j (omega arith) (b j y);
        there = not_true (fine names p) (λ e. w (fine_Fine names p (omega arith) e));
      }))
  only_all text (good_list a s v k r) = ap (λ x. first_list x (read_of names text)) (right_names v) ∙ only names text (subst (λ x. TextAnswer names text x a) (sym (only_cut k)) r)

-- tests of one entry
inner_all : (bs : List ℕ) → length bs ≤ length (run bs) → all_inner bs ≡ true
inner_all [] h = refl
inner_all (b ∷ bs) h = go (inner b) refl (λ k. inner_all bs k)
  where
    go : (t : Bool) → inner b ≡ t → (length bs ≤ length (run bs) → all_inner bs ≡ true) → all_inner (b ∷ bs) ≡ true
    go true e ih = and_both _ _ e (ih (omega (arith, subst (λ t. suc (length bs) ≤ length (cond t (b ∷ run bs) [])) e h)))
    go false e ih = absurd (omega (arith, subst (λ t. suc (length bs) ≤ length (cond t (b ∷ run bs) [])) e h))

inner_some : (bs : List ℕ) → length (run bs) < length bs → all_inner bs ≡ false
inner_some [] h = absurd (omega arith)
inner_some (b ∷ bs) h = go (inner b) refl (λ k. inner_some bs k)
  where
    go : (t : Bool) → inner b ≡ t → (length (run bs) < length bs → all_inner bs ≡ false) → all_inner (b ∷ bs) ≡ false
    go true e ih = ap (λ t. t && all_inner bs) e ∙ ih (omega (arith, subst (λ t. length (cond t (b ∷ run bs) []) < suc (length bs)) e h))
    go false e ih = ap (λ t. t && all_inner bs) e

pub and_no : (a b : Bool) → b ≡ false → (a && b) ≡ false
and_no true b e = e
and_no false b e = refl

pub short_run_name : (n : List ℕ) → 0 < length n → 1 + length (run (drop 1 n)) < length n → false ≡ naming n
short_run_name [] h k = absurd (omega arith)
short_run_name (b ∷ r) h k =
    sym (and_no (letter b) _ (ap (λ t. t && (leb (length r) 15 && plain (spelled (b ∷ r)))) (inner_some r (omega arith))))

pub is_a_name : (n : List ℕ) (x : List ℕ) → 0 < length n → length n ≤ 16 → true ≡ letter (get_or n 0 0) → length n ≤ 1 + length (run (drop 1 n)) → spelled n ≡ name x → true ≡ naming n
is_a_name [] x a b c d e = absurd (omega arith)
is_a_name (b ∷ r) x a n c d e =
    sym (and_both _ _ (sym c) (and_both _ _ (inner_all r (omega arith)) (and_both _ _ (le-leb _ 15 (omega arith)) (ap plain e))))
