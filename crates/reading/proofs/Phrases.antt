-- What one step of a level's reader does to what comes of the text.
use Rattle.std.proofs.Common.{◌≡◌, ℕ, List, [], ◌∷◌, ◌++◌, Some, Ok, Err, Result, sym, refl, ap, ◌∙◌, subst, append_assoc, arith}
use Rattle.grammar.specs.Forms.{Path, Binary, Part}
use Rattle.grammar.specs.Forms.Part.{on_one, on_two}
use Rattle.grammar.specs.Forms.Form.{one, two}
use Rattle.grammar.specs.Forms.Binary.{both, either, implies, until}
use Rattle.grammar.specs.Words.{Word, Stream}
use Rattle.grammar.specs.Words.Word.{open_word, close, square, unsquare, amp, bar, arrow, before, path, u_word, true_word, false_word, name}
use Rattle.grammar.specs.Words.Stream.{end, slip, next}
use Rattle.grammar.specs.Grammar.{Tree}
use Rattle.grammar.specs.Machine.{Awaits, Stack, State, give, needs_more, fresh}
use Rattle.grammar.specs.Machine.Awaits.{a_rule, a_unary}
use Rattle.grammar.specs.Machine.Stack.{in_round, in_left, in_right, after_arrow, plain_or, after_bar, plain_and, after_amp, after_before}
use Rattle.grammar.specs.Machine.State.{need, need_square, have}
use Rattle.grammar.specs.Reading.{Outcome, going, reads}
use Rattle.grammar.specs.Reading.Outcome.{stuck}
use Rattle.names.specs.Lists.{names_of}
use Rattle.reading.specs.Growing.{Holds, Added, Grown, parts_of}
use Rattle.words.specs.Kinds.{part_of}
use Rattle.reading.specs.Levels.{names_in, left, Off, Moved, Misses, Made, Makes, Taken, Expected, Next, Adds, Phrase, UnaryRead, AtomRead, AndRead, RuleRead, AtomDone, need_and, have_or}
use Rattle.words.specs.Wording.{wording}
use Rattle.reading.specs.declared.faults.GrammarFault.{GrammarFault}
use Rattle.reading.specs.declared.faults.GrammarFault.TheVariants as faults
use Rattle.words.specs.declared.kinds.Binding.{Binding}
use Rattle.words.specs.declared.kinds.Binding.TheVariants as binds
use Rattle.words.specs.declared.kinds.Kind.{Kind}
use Rattle.reading.specs.declared.levels.Reader.{Reader}
use Rattle.reading.specs.declared.parts.Parts.{Parts}
use Rattle.words.specs.declared.word.Seen.{Seen}
use Rattle.words.specs.declared.words.Words.{Words}

-- a sign with two operands was taken
pub record Took (v : Word) (o : Binary) (r t : Words) (k : Kind) : Type 0 where
  pub moved : Moved r t
  pub place : ℕ
  pub shown : left r ≡ next place v (left t)
  pub joins : part_of k 0 ≡ on_two o

took : (b : Binding) (v : Word) (o : Binary) (r t : Words) (k : Kind) → ((w : Word) → Makes b w k → (w ≡ v) × (part_of k 0 ≡ on_two o)) → Taken b r t (Ok (Some k)) → Took v o r t k
took b v o r t k f (m, (p, (w, (e, y)))) =
    record { moved = m; place = p; shown = e ∙ ap (λ u. next p u (left t)) (f w y).0; joins = (f w y).1 }

module _ (r t : Words) (k : Kind) where
  pub took_amp : Taken binds.And r t (Ok (Some k)) → Took amp both r t k
  took_amp h = took binds.And amp both r t k (λ w m. (m.0, ap (λ x. part_of x 0) m.1)) h

  pub took_bar : Taken binds.Or r t (Ok (Some k)) → Took bar either r t k
  took_bar h = took binds.Or bar either r t k (λ w m. (m.0, ap (λ x. part_of x 0) m.1)) h

  pub took_arrow : Taken binds.Implies r t (Ok (Some k)) → Took arrow implies r t k
  took_arrow h = took binds.Implies arrow implies r t k (λ w m. (m.0, ap (λ x. part_of x 0) m.1)) h

added_as : (a b : Parts) (p q : Part ℕ) → p ≡ q → Added a b p → Added a b q
added_as a b p q e h = subst (Added a b) e h

-- after a whole unary the reader goes on
give_goes : (f : Tree) (s : Stack a_unary) (p : ℕ) (o : Outcome) → going (give f s) p o ≡ o
give_goes f (plain_and s) p o = refl
give_goes f (after_amp g s) p o = refl
give_goes f (after_before k s) p o = give_goes (one k f) s p o

-- what is added by the names of one reader, by the same names of another
renamed : (r t : Reader) (a b : Parts) (f : Tree) → t.names ≡ r.names → Grown (names_in t) a b f → Grown (names_in r) a b f
renamed r t a b f e g = subst (λ n. Grown n a b f) (ap (λ n. names_of n.now) e) g

-- the parts of two phrases and of the sign between them
pair_grown : (names : List (List ℕ)) (a b d e : Parts) (o : Binary) (f g : Tree) → Grown names a b f → Grown names b d g → Added d e (on_two o) → Grown names a e (two o f g)
pair_grown names a b d e o f g m n p = λ xs h.
    let regroup : xs ++ parts_of names f ++ parts_of names g ++ on_two o ∷ [] ≡ xs ++ (parts_of names f ++ parts_of names g ++ on_two o ∷ []) = simp append_assoc in
    subst (Holds e) regroup (p (xs ++ parts_of names f ++ parts_of names g) (n (xs ++ parts_of names f) (m xs h)))

-- after a phrase, a sign and a phrase that is its other operand
phrase_more : {A : Awaits} (awaited : Stack A → State) (read : Tree → Stack A → State) (v : Word) (o : Binary) (r t u : Reader) (w : Words) (b : Parts) (k : Kind) (x : Part ℕ) (g : Tree) (m : Phrase awaited read r t) → Took v o t.words w k → Adds (record t { words = w }) u g → x ≡ part_of k 0 → Added u.parts b x → ((s : Stack A) → reads (read m.form s) (left t.words) ≡ reads (read (two o m.form g) s) (left u.words)) → Phrase awaited read r (record u { parts = b })
phrase_more awaited read v o r t u w b k x g m h n e a step = record {
  form = two o m.form g;
  adds = record {
    grown =
        pair_grown (names_in r) r.parts t.parts u.parts b o m.form g m.adds.grown
        (renamed r t t.parts u.parts g m.adds.same_names n.grown)
        (added_as u.parts b x (on_two o) (e ∙ h.joins) a);
    same_names = n.same_names ∙ m.adds.same_names;
    moved = record { same_text = n.moved.same_text ∙ h.moved.same_text ∙ m.adds.moved.same_text; further = omega arith };
  };
  goes = λ s. m.goes s ∙ step s;
}

-- after `f | g` nothing but `&` tells the two groupings apart
bar_same : (f g : Tree) (s : Stack a_rule) (x : Stream) → Off binds.And x → reads (have g (after_bar f s)) x ≡ reads (have (two either f g) (plain_or s)) x
bar_same f g s (end p) h = refl
bar_same f g s (slip e p) h = refl
bar_same f g s (next p open_word x) h = refl
bar_same f g s (next p close x) h = refl
bar_same f g s (next p square x) h = refl
bar_same f g s (next p unsquare x) h = refl
bar_same f g s (next p amp x) h = absurd (h refl)
bar_same f g s (next p bar x) h = refl
bar_same f g s (next p arrow x) h = refl
bar_same f g s (next p (before k) x) h = refl
bar_same f g s (next p (path q) x) h = refl
bar_same f g s (next p u_word x) h = refl
bar_same f g s (next p true_word x) h = refl
bar_same f g s (next p false_word x) h = refl
bar_same f g s (next p (name n) x) h = refl

-- after `f -> g` nothing but a sign does
arrow_same : (f g : Tree) (s : Stack a_rule) (x : Stream) → Off binds.And x → Off binds.Or x → Off binds.Implies x → reads (have g (plain_or (after_arrow f s))) x ≡ reads (have (two implies f g) (plain_or s)) x
arrow_same f g s (end p) a b c = refl
arrow_same f g s (slip e p) a b c = refl
arrow_same f g s (next p open_word x) a b c = refl
arrow_same f g s (next p close x) a b c = refl
arrow_same f g s (next p square x) a b c = refl
arrow_same f g s (next p unsquare x) a b c = refl
arrow_same f g s (next p amp x) a b c = absurd (a refl)
arrow_same f g s (next p bar x) a b c = absurd (b refl)
arrow_same f g s (next p arrow x) a b c = absurd (c refl)
arrow_same f g s (next p (before k) x) a b c = refl
arrow_same f g s (next p (path q) x) a b c = refl
arrow_same f g s (next p u_word x) a b c = refl
arrow_same f g s (next p true_word x) a b c = refl
arrow_same f g s (next p false_word x) a b c = refl
arrow_same f g s (next p (name n) x) a b c = refl

module _ (r t u : Reader) (w : Words) (b : Parts) (k : Kind) (x : Part ℕ) (e : x ≡ part_of k 0) (a : Added u.parts b x) where
  pub and_more : Phrase need_and have r t → Took amp both t.words w k → UnaryRead (record t { words = w }) u → Phrase need_and have r (record u { parts = b })
  and_more m h n =
      phrase_more need_and have amp both r t u w b k x n.form m h n.adds e a
      (λ s. ap (reads (have m.form s)) h.shown ∙ n.goes (after_amp m.form s))

  pub or_more : Phrase fresh have_or r t → Took bar either t.words w k → AndRead (record t { words = w }) u → Phrase fresh have_or r (record u { parts = b })
  or_more m h n =
      phrase_more fresh have_or bar either r t u w b k x n.phrase.form m h n.phrase.adds e a
      (λ s. ap (reads (have_or m.form s)) h.shown ∙ n.phrase.goes (after_bar m.form s) ∙ bar_same m.form n.phrase.form s (left u.words) n.no_amp)

  pub rule_more : Phrase fresh have_or r t → Took arrow implies t.words w k → RuleRead (record t { words = w }) u → RuleRead r (record u { parts = b })
  rule_more m h n = record {
    phrase =
        phrase_more fresh have_or arrow implies r t u w b k x n.phrase.form m h n.phrase.adds e a
        (λ s. ap (reads (have_or m.form s)) h.shown ∙ n.phrase.goes (after_arrow m.form s) ∙ arrow_same m.form n.phrase.form s (left u.words) n.no_amp n.no_bar n.no_arrow);
    no_amp = n.no_amp;
    no_bar = n.no_bar;
    no_arrow = n.no_arrow;
  }

-- inside a bracket, a word that neither goes on nor closes it

round_miss : (f : Tree) (s : Stack a_unary) (x : Stream) (p : ℕ) → Off binds.And x → Off binds.Or x → Off binds.Implies x → Misses close x p → reads (have f (plain_or (in_round s))) x ≡ stuck p
round_miss f s (end y) p a b c h = ap stuck h
round_miss f s (slip e y) p a b c h = absurd h
round_miss f s (next y open_word x) p a b c h = ap stuck h.0
round_miss f s (next y close x) p a b c h = absurd (h.1 refl)
round_miss f s (next y square x) p a b c h = ap stuck h.0
round_miss f s (next y unsquare x) p a b c h = ap stuck h.0
round_miss f s (next y amp x) p a b c h = absurd (a refl)
round_miss f s (next y bar x) p a b c h = absurd (b refl)
round_miss f s (next y arrow x) p a b c h = absurd (c refl)
round_miss f s (next y (before k) x) p a b c h = ap stuck h.0
round_miss f s (next y (path z) x) p a b c h = ap stuck h.0
round_miss f s (next y u_word x) p a b c h = ap stuck h.0
round_miss f s (next y true_word x) p a b c h = ap stuck h.0
round_miss f s (next y false_word x) p a b c h = ap stuck h.0
round_miss f s (next y (name n) x) p a b c h = ap stuck h.0

-- an atom of one word, whose part is x
pub atom_leaf : (r : Reader) (b : Parts) (p : ℕ) (w : Word) (f : Tree) (x : Part ℕ) → ((s : Stack a_unary) → needs_more s w ≡ give f s) → parts_of (names_in r) f ≡ x ∷ [] → Added r.parts b x → AtomRead r (record r { parts = b }) p w
atom_leaf r b p w f x e l h = record {
  form = f;
  grown = λ xs k. subst (λ y. Holds b (xs ++ y)) (sym l) (h xs k);
  same_names = refl;
  same_text = refl;
  further = omega arith;
  goes = λ s. ap (λ z. going z p (reads z (left r.words))) (e s) ∙ give_goes f s p (reads (give f s) (left r.words));
}

round_done : (r t : Reader) (w : Words) (p : ℕ) (x : Result (Unit {0}) GrammarFault) → RuleRead r t → Expected close t.words w x → AtomDone r (record t { words = w }) p open_word x
round_done r t w p (Ok u) m h = record {
  form = m.phrase.form;
  grown = m.phrase.adds.grown;
  same_names = m.phrase.adds.same_names;
  same_text = h.0.same_text ∙ m.phrase.adds.moved.same_text;
  further = omega arith;
  goes = λ s.
      m.phrase.goes (in_round s) ∙ ap (reads (have_or m.phrase.form (in_round s))) h.1.1
      ∙ give_goes m.phrase.form s h.1.0 (reads (give m.phrase.form s) (left w));
}
round_done r t w p (Err (faults.Word e)) m h = λ s. m.phrase.goes (in_round s) ∙ h (have_or m.phrase.form (in_round s))
round_done r t w p (Err (faults.Stray q)) m h = λ s.
    m.phrase.goes (in_round s) ∙ round_miss m.phrase.form s (left t.words) q m.no_amp m.no_bar m.no_arrow h

pub atom_round : (r t : Reader) (w : Words) (p : ℕ) (v : Word) (x : Result (Unit {0}) GrammarFault) → v ≡ open_word → RuleRead r t → Expected close t.words w x → AtomDone r (record t { words = w }) p v x
atom_round r t w p v x e m h = subst (λ y. AtomDone r (record t { words = w }) p y x) (sym e) (round_done r t w p x m h)

module _ (q : Path) (p : ℕ) (r r₂ r₄ : Reader) (w₁ w₃ w₅ : Words) (d : Parts) (a : Expected square r.words w₁ (Ok tt)) (f : RuleRead (record r { words = w₁ }) r₂) (b : Expected u_word r₂.words w₃ (Ok tt)) (g : RuleRead (record r₂ { words = w₃ }) r₄) where
  to_right : (s : Stack a_unary) → reads (need s) (next p (path q) (left r.words)) ≡ reads (have_or g.phrase.form (in_right q f.phrase.form s)) (left r₄.words)
  to_right s =
      ap (reads (need_square q s)) a.1.1 ∙ f.phrase.goes (in_left q s)
      ∙ ap (reads (have_or f.phrase.form (in_left q s))) b.1.1 ∙ g.phrase.goes (in_right q f.phrase.form s)

  until_tree : Tree
  until_tree = two (until q) f.phrase.form g.phrase.form

  pub atom_until : (x : Part ℕ) → x ≡ on_two (until q) → Expected unsquare r₄.words w₅ (Ok tt) → Added r₄.parts d x → AtomRead r (record r₄ { words = w₅; parts = d }) p (path q)
  unfolding until_tree
  atom_until x e h k = record {
    form = until_tree;
    grown =
        pair_grown (names_in r) r.parts r₂.parts r₄.parts d (until q) f.phrase.form g.phrase.form f.phrase.adds.grown
        (renamed r r₂ r₂.parts r₄.parts g.phrase.form f.phrase.adds.same_names g.phrase.adds.grown)
        (added_as r₄.parts d x (on_two (until q)) e k);
    same_names = g.phrase.adds.same_names ∙ f.phrase.adds.same_names;
    same_text = h.0.same_text ∙ g.phrase.adds.moved.same_text ∙ b.0.same_text ∙ f.phrase.adds.moved.same_text ∙ a.0.same_text;
    further = omega arith;
    goes = λ s.
        to_right s ∙ ap (reads (have_or g.phrase.form (in_right q f.phrase.form s))) h.1.1
        ∙ give_goes until_tree s h.1.0 (reads (give until_tree s) (left w₅));
  }

pub unary_before : (r u : Reader) (w : Words) (b : Parts) (n : Seen) (k : Kind) (x : Part ℕ) → Next r.words w (Ok n) → Made binds.Unary (wording n.word) (Some k) → UnaryRead (record r { words = w }) u → x ≡ part_of k 0 → Added u.parts b x → UnaryRead r (record u { parts = b })
unary_before r u w b n k x (moved, shown) (o, e, y) h z q = record {
  form = one o h.form;
  adds = record {
    grown = λ xs v.
        subst (Holds b) (append_assoc xs (parts_of (names_in r) h.form) (on_one o ∷ []))
        (added_as u.parts b x (on_one o) (z ∙ y) q (xs ++ parts_of (names_in r) h.form) (h.adds.grown xs v));
    same_names = h.adds.same_names;
    moved = record { same_text = h.adds.moved.same_text ∙ moved.same_text; further = omega arith };
  };
  goes = λ s. ap (reads (need s)) (shown ∙ ap (λ v. next n.at v (left w)) e) ∙ h.goes (after_before o s);
}
