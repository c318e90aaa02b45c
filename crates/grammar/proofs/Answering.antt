-- The answer of the definition is the one that the grammar gives, and the only one.
use Rattle.std.proofs.Common.{◌≡◌, ℕ, zero, suc, ◌+◌, ◌<◌, ◌≤◌, Bool, true, false, cond, leb, List, [], ◌∷◌, ◌++◌, length, sym, refl, ap, ◌∙◌, subst, add-zero, arith, le-leb, leb-false, leb-true}
use borrow.Author.Tests.{lt-leb}
use Rattle.grammar.specs.Forms.{size}
use Rattle.grammar.specs.Forms.Form.{yes_form, no_form, leaf, one, two}
use Rattle.grammar.specs.Words.{Word, Slip, Stream, same}
use Rattle.grammar.specs.Scanning.{Front, front, onward, words, words_of}
use Rattle.grammar.specs.Scanning.Front.{space, word, none, long}
use Rattle.grammar.specs.Words.Stream.{end, slip, next}
use Rattle.grammar.specs.Grammar.{Tree, Is}
use Rattle.grammar.specs.Grammar.Level.{rule}
use Rattle.grammar.specs.Machine.{State, Ending, step, steps, final, start, Alive}
use Rattle.grammar.specs.Machine.State.{need, need_square, have, dead}
use Rattle.grammar.specs.Machine.Ending.{whole, early}
use Rattle.grammar.specs.Answering.{listed, bare, Halt, halt, meant, resolve, Answer, AllWords, TextAnswer}
use Rattle.grammar.specs.Reading.{Outcome, ended, going, reads, judged, halted, read_of}
use Rattle.grammar.specs.Answering.Halt.{at_end, at_slip}
use Rattle.grammar.specs.Reading.Outcome.{tree, stuck, slipped}
use Rattle.grammar.specs.Answering.Answer.{the_rule, fault}
use Rattle.grammar.specs.Answering.TextAnswer.{over_long, no_words, stray, unfinished, too_many, accepted}
use Rattle.grammar.proofs.Soundness.{sound, early_whole}
use Rattle.grammar.proofs.Completeness.{complete_end}
use Rattle.grammar.proofs.Viability.{viable, alive, ended_alive, alive_before}

-- where the words stop without a fault, it is at the text's end
abbrev pub Ends : Halt → ℕ → Type 0
Ends (at_end q) n = q ≡ n
Ends (at_slip e p) n = Unit {0}

onward_ends : (p n : ℕ) (f : Front) (k : ℕ → Stream) → ((j : ℕ) → Ends (halt (k j)) n) → Ends (halt (onward p f k)) n
onward_ends p n space k h = h zero
onward_ends p n (word m w) k h = h m
onward_ends p n none k h = tt
onward_ends p n long k h = tt

pub words_end : (bs : List ℕ) (p skip : ℕ) → Ends (halt (words p skip bs)) (p + length bs)
unfolding words
words_end [] p skip = sym (add-zero p)
words_end (b ∷ bs) p zero =
    subst (Ends (halt (onward p (front b bs) (λ k. words (suc p) k bs)))) (omega arith)
    (onward_ends p (suc p + length bs) (front b bs) (λ k. words (suc p) k bs) (λ j. words_end bs (suc p) j))
words_end (b ∷ bs) p (suc skip) = subst (Ends (halt (words (suc p) skip bs))) (omega arith) (words_end bs (suc p) skip)

-- what a run of the reader over a stream shows
pub data Ran (st : State) (s : Stream) : Outcome → Type 0 where
  ran_tree : (f : Tree) (p : ℕ) → halt s ≡ at_end p → final (steps st (bare (listed s))) ≡ whole f → Ran st s (tree f)
  ran_early : (p : ℕ) → halt s ≡ at_end p → Alive (steps st (bare (listed s))) → final (steps st (bare (listed s))) ≡ early → Ran st s (stuck p)
  ran_off : (us vs : List (ℕ × Word)) (p : ℕ) (w : Word) → listed s ≡ us ++ (p, w) ∷ vs → Alive (steps st (bare us)) → (Alive (steps st (bare us ++ w ∷ [])) → ⊥) → Ran st s (stuck p)
  ran_slip : (e : Slip) (p : ℕ) → halt s ≡ at_slip e p → Ran st s (slipped e p)

-- a word in front of the stream
ran_more : (st t : State) (p : ℕ) (w : Word) (s : Stream) (o : Outcome) → step st w ≡ t → Ran t s o → Ran st (next p w s) o
ran_more st t p w s _ e (ran_tree f q h r) = ran_tree f q h (ap (λ x. final (steps x (bare (listed s)))) e ∙ r)
ran_more st t p w s _ e (ran_early q h a r) =
    ran_early q h (subst (λ x. Alive (steps x (bare (listed s)))) (sym e) a) (ap (λ x. final (steps x (bare (listed s)))) e ∙ r)
ran_more st t p w s _ e (ran_off us vs q v h a d) =
    ran_off ((p, w) ∷ us) vs q v (ap (λ l. (p, w) ∷ l) h)
    (subst (λ x. Alive (steps x (bare us))) (sym e) a)
    (λ b. d (subst (λ x. Alive (steps x (bare us ++ v ∷ []))) e b))
ran_more st t p w s _ e (ran_slip x q h) = ran_slip x q h

ran_end : (st : State) (p : ℕ) (x : Ending) → Alive st → final st ≡ x → Ran st (end p) (ended p x)
ran_end st p (whole f) a e = ran_tree f p refl e
ran_end st p early a e = ran_early p refl a e

ran_next : (st t : State) (p : ℕ) (w : Word) (s : Stream) → Alive st → step st w ≡ t → (Alive t → Ran t s (reads t s)) → Ran st (next p w s) (going t p (reads t s))
ran_next st (need k) p w s a e h = ran_more st (need k) p w s (reads (need k) s) e (h tt)
ran_next st (need_square q k) p w s a e h = ran_more st (need_square q k) p w s (reads (need_square q k) s) e (h tt)
ran_next st (have f k) p w s a e h = ran_more st (have f k) p w s (reads (have f k) s) e (h tt)
ran_next st dead p w s a e h = ran_off [] (listed s) p w refl a (λ b. subst Alive e b)

pub ran : (s : Stream) (st : State) → Alive st → Ran st s (reads st s)
ran (end p) st a = ran_end st p (final st) a refl
ran (slip e p) st a = ran_slip e p refl
ran (next p w s) st a = ran_next st (step st w) p w s a refl (λ b. ran s (step st w) b)

size-meant : (ms : List (List ℕ)) (i : ℕ) (n : List ℕ) → size (meant i ms n) ≡ 1
size-meant [] i n = refl
size-meant (m ∷ ms) i n =
    elim (same m n) as (λ b. size (cond b (leaf i) (meant (suc i) ms n)) ≡ 1) [ true ↦ refl | false ↦ size-meant ms (suc i) n ]

pub size-resolve : (names : List (List ℕ)) (f : Tree) → size (resolve names f) ≡ size f
size-resolve names yes_form = refl
size-resolve names no_form = refl
size-resolve names (leaf n) = size-meant names 0 n
size-resolve names (one k f) = ap (λ n. n + 1) (size-resolve names f)
size-resolve names (two k f g) = λ i. size-resolve names f i + size-resolve names g i + 1

-- the two ways to halt differ
abbrev AtEnd : Halt → Type 0
AtEnd (at_end p) = Unit {0}
AtEnd (at_slip e p) = ⊥

end_slip : {p q : ℕ} {e : Slip} → at_end p ≡ at_slip e q → ⊥
end_slip h = subst AtEnd h tt

module _ (names : List (List ℕ)) (text : List ℕ) where
  abbrev rest_of : Answer
  rest_of = judged names (length text) (reads start (words_of text))

  sized : (f : Tree) (b : Bool) → AllWords text (words_of text) → Is rule (bare (listed (words_of text))) f → leb (size (resolve names f)) 64 ≡ b → TextAnswer names text (words_of text) (cond b (the_rule (resolve names f)) (fault 6 (length text)))
  sized f true all d e = accepted f all d (subst (λ n. n ≤ 64) (size-resolve names f) (leb-true _ _ e))
  sized f false all d e = too_many f all d (subst (λ n. 64 < n) (size-resolve names f) (leb-false _ _ e))

  by_ran : AllWords text (words_of text) → (o : Outcome) → Ran start (words_of text) o → TextAnswer names text (words_of text) (judged names (length text) o)
  by_ran all _ (ran_tree f p h e) = sized f (leb (size (resolve names f)) 64) all (sound _ f e) refl
  by_ran all _ (ran_early p h a e) =
      let clean = all.clean in
      let same_end : p ≡ length text = cc in
      subst (λ n. TextAnswer names text (words_of text) (fault 5 n)) (sym same_end)
      (unfinished all (viable _ a) (λ f d. early_whole (sym e ∙ complete_end _ f d)))
  by_ran all _ (ran_off us vs p w h a d) = stray us vs p w all h (viable (bare us) a) (λ v. d (alive (bare us ++ w ∷ []) v))
  by_ran all _ (ran_slip e p h) = absurd (end_slip (sym all.clean ∙ h))

  by_halt : (h : Halt) → length text ≤ 1024 → halt (words_of text) ≡ h → TextAnswer names text (words_of text) (halted h rest_of)
  by_halt (at_end q) le e =
      let last : q ≡ 0 + length text = subst (λ h. Ends h (0 + length text)) e (words_end text 0 0) in
      by_ran (record { within = le; clean = e ∙ ap at_end (omega arith) }) (reads start (words_of text)) (ran (words_of text) start tt)
  by_halt (at_slip x p) le e = no_words x p le e

  by_limit : (b : Bool) → leb (length text) 1024 ≡ b → TextAnswer names text (words_of text) (cond b (halted (halt (words_of text)) rest_of) (fault 2 1024))
  by_limit true e = by_halt (halt (words_of text)) (leb-true _ _ e) refl
  by_limit false e = over_long (leb-false _ _ e)

  pub answers : TextAnswer names text (words_of text) (read_of names text)
  unfolding read_of
  answers = by_limit (leb (length text) 1024) refl

going_alive : (t : State) (p : ℕ) (o : Outcome) → Alive t → going t p o ≡ o
going_alive (need s) p o a = refl
going_alive (need_square q s) p o a = refl
going_alive (have f s) p o a = refl
going_alive dead p o a = absurd a

going_dead : (t : State) (p : ℕ) (o : Outcome) → (Alive t → ⊥) → going t p o ≡ stuck p
going_dead (need s) p o a = absurd (a tt)
going_dead (need_square q s) p o a = absurd (a tt)
going_dead (have f s) p o a = absurd (a tt)
going_dead dead p o a = refl

pub reads_whole : (s : Stream) (st : State) (p : ℕ) (f : Tree) → halt s ≡ at_end p → final (steps st (bare (listed s))) ≡ whole f → reads st s ≡ tree f
reads_whole (end q) st p f h e = ap (ended q) e
reads_whole (slip x q) st p f h e = absurd (end_slip (sym h))
reads_whole (next q w s) st p f h e =
    going_alive (step st w) q (reads (step st w) s) (ended_alive (step st w) (bare (listed s)) f e) ∙ reads_whole s (step st w) p f h e

pub reads_early : (s : Stream) (st : State) (p : ℕ) → halt s ≡ at_end p → Alive (steps st (bare (listed s))) → final (steps st (bare (listed s))) ≡ early → reads st s ≡ stuck p
reads_early (end q) st p h a e = ap (ended q) e ∙ cc
reads_early (slip x q) st p h a e = absurd (end_slip (sym h))
reads_early (next q w s) st p h a e =
    going_alive (step st w) q (reads (step st w) s) (alive_before (step st w) (bare (listed s)) a) ∙ reads_early s (step st w) p h a e

-- two lists that begin with pairs
heads : (x y : ℕ × Word) (xs ys : List (ℕ × Word)) → x ∷ xs ≡ y ∷ ys → x ≡ y
heads x y xs ys e = cc

tails : (x y : ℕ × Word) (xs ys : List (ℕ × Word)) → x ∷ xs ≡ y ∷ ys → xs ≡ ys
tails x y xs ys e = cc

abbrev Empty : List (ℕ × Word) → Type 0
Empty [] = Unit {0}
Empty (x ∷ xs) = ⊥

nil_split : (us : List (ℕ × Word)) (x : ℕ × Word) (vs : List (ℕ × Word)) → [] ≡ us ++ x ∷ vs → ⊥
nil_split [] x vs e = subst Empty e tt
nil_split (u ∷ us) x vs e = subst Empty e tt

pub reads_off : (us : List (ℕ × Word)) (s : Stream) (st : State) (vs : List (ℕ × Word)) (p : ℕ) (w : Word) → listed s ≡ us ++ (p, w) ∷ vs → Alive (steps st (bare us)) → (Alive (steps st (bare us ++ w ∷ [])) → ⊥) → reads st s ≡ stuck p
reads_off us (end q) st vs p w e a d = absurd (nil_split us (p, w) vs e)
reads_off us (slip x q) st vs p w e a d = absurd (nil_split us (p, w) vs e)
reads_off [] (next q v s) st vs p w e a d =
    let x : (q, v) ≡ (p, w) = heads (q, v) (p, w) (listed s) vs e in
    going_dead (step st v) q (reads (step st v) s) (λ b. d (subst (λ u. Alive (step st u)) (ap (λ y. y.1) x) b)) ∙ ap (λ y. stuck y.0) x
reads_off (u ∷ us) (next q v s) st vs p w e a d =
    let x : (q, v) ≡ u = heads (q, v) u (listed s) (us ++ (p, w) ∷ vs) e in
    let y : v ≡ u.1 = ap (λ z. z.1) x in
    let b : Alive (steps (step st v) (bare us)) = subst (λ z. Alive (steps (step st z) (bare us))) (sym y) a in
    going_alive (step st v) q (reads (step st v) s) (alive_before (step st v) (bare us) b)
    ∙ reads_off us s (step st v) vs p w (tails (q, v) u (listed s) (us ++ (p, w) ∷ vs) e) b
    (λ c. d (subst (λ z. Alive (steps (step st z) (bare us ++ w ∷ []))) y c))

module _ (names : List (List ℕ)) (text : List ℕ) where
  within_reads : length text ≤ 1024 → read_of names text ≡ halted (halt (words_of text)) (judged names (length text) (reads start (words_of text)))
  unfolding read_of
  within_reads h = ap (λ b. cond b (halted (halt (words_of text)) (judged names (length text) (reads start (words_of text)))) (fault 2 1024)) (le-leb (length text) 1024 h)

  pub clean_reads : AllWords text (words_of text) → read_of names text ≡ judged names (length text) (reads start (words_of text))
  clean_reads all = within_reads all.within ∙ ap (λ h. halted h (judged names (length text) (reads start (words_of text)))) all.clean

  over : 1024 < length text → read_of names text ≡ fault 2 1024
  unfolding read_of
  over h = ap (λ b. cond b (halted (halt (words_of text)) (judged names (length text) (reads start (words_of text)))) (fault 2 1024)) (lt-leb (length text) 1024 h)

  not_early : (x : Ending) → ((f : Tree) → x ≡ whole f → ⊥) → x ≡ early
  not_early (whole f) h = absurd (h f refl)
  not_early early h = refl

  pub only : {a : Answer} → TextAnswer names text (words_of text) a → read_of names text ≡ a
  only (over_long h) = over h
  only (no_words e p le h) = within_reads le ∙ ap (λ h. halted h (judged names (length text) (reads start (words_of text)))) h
  only (stray us vs p w all h v d) =
      clean_reads all ∙ ap (judged names (length text)) (reads_off us (words_of text) start vs p w h (alive (bare us) v) (λ a. d (viable (bare us ++ w ∷ []) a)))
  only (unfinished all v d) =
      clean_reads all ∙ ap (judged names (length text)) (reads_early (words_of text) start (length text) all.clean (alive _ v) (not_early _ (λ f e. d f (sound _ f e))))
  only (too_many f all d h) =
      clean_reads all ∙ ap (judged names (length text)) (reads_whole (words_of text) start (length text) f all.clean (complete_end _ f d))
      ∙ ap (λ b. cond b (the_rule (resolve names f)) (fault 6 (length text))) (lt-leb _ 64 (subst (λ n. 64 < n) (sym (size-resolve names f)) h))
  only (accepted f all d h) =
      clean_reads all ∙ ap (judged names (length text)) (reads_whole (words_of text) start (length text) f all.clean (complete_end _ f d))
      ∙ ap (λ b. cond b (the_rule (resolve names f)) (fault 6 (length text))) (le-leb _ 64 (subst (λ n. n ≤ 64) (sym (size-resolve names f)) h))
