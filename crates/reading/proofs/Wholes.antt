-- From what the levels say to the answer of a whole text.
use Rattle.std.proofs.Common.{◌≡◌, ℕ, ◌<◌, ◌≤◌, cond, List, [], length, sym, refl, ap, ◌∙◌, subst, arith, take_all, le-leb}
use borrow.Author.Tests.{lt-leb}
use Rattle.grammar.specs.Forms.{Form, parts}
use Rattle.grammar.specs.Words.{Word, Stream}
use Rattle.grammar.specs.Scanning.{from, words_of}
use Rattle.grammar.specs.Words.Slip.{no_word, too_long}
use Rattle.grammar.specs.Words.Word.{open_word, close, square, unsquare, amp, bar, arrow, before, path, u_word, true_word, false_word, name}
use Rattle.grammar.specs.Words.Stream.{end, next}
use Rattle.grammar.specs.Grammar.{Tree}
use Rattle.grammar.specs.Machine.{State, start}
use Rattle.grammar.specs.Machine.Stack.{bottom, plain_or}
use Rattle.grammar.specs.Machine.State.{have}
use Rattle.grammar.specs.Answering.{halt, resolve, AllWords}
use Rattle.grammar.specs.Reading.{Outcome, reads, kept, judged, read_of}
use Rattle.grammar.specs.Answering.Halt.{at_end}
use Rattle.grammar.specs.Reading.Outcome.{tree, stuck}
use Rattle.grammar.specs.Answering.Answer.{the_rule, fault}
use Rattle.grammar.specs.Answering.TextAnswer.{over_long, no_words}
use Rattle.grammar.proofs.Answering.{only, clean_reads}
use Rattle.grammar.proofs.Trees.{length-parts}
use Rattle.reading.specs.Growing.{Holds, parts_of}
use Rattle.reading.specs.Levels.{names_in, left, fell, faulted, Off, RuleRead}
use Rattle.reading.specs.Refusing.{refused}
use Rattle.reading.specs.Holding.{parts_in}
use Rattle.reading.specs.Whole.{slip_halt}
use Rattle.words.specs.Wording.{slipping}
use Rattle.words.specs.declared.faults.WordFault.{WordFault}
use Rattle.words.specs.declared.faults.WordFault.TheVariants.{Strange, Long}
use Rattle.reading.specs.declared.faults.GrammarFault.{GrammarFault}
use Rattle.reading.specs.declared.faults.GrammarFault.TheVariants as faults
use Rattle.reading.specs.declared.faults.RuleFault.TheVariants.{Grammar}
use Rattle.words.specs.declared.kinds.Binding.TheVariants as binds
use Rattle.reading.specs.declared.levels.Reader.{Reader}
use Rattle.words.specs.declared.words.Words.{Words}

-- at the outermost level a word that is no sign goes on with nothing
end_miss : (f : Tree) (x : Stream) (p : ℕ) (w : Word) → Off binds.And (next p w x) → Off binds.Or (next p w x) → Off binds.Implies (next p w x) → reads (have f (plain_or bottom)) (next p w x) ≡ stuck p
end_miss f x p open_word a b c = refl
end_miss f x p close a b c = refl
end_miss f x p square a b c = refl
end_miss f x p unsquare a b c = refl
end_miss f x p amp a b c = absurd (a refl)
end_miss f x p bar a b c = absurd (b refl)
end_miss f x p arrow a b c = absurd (c refl)
end_miss f x p (before k) a b c = refl
end_miss f x p (path q) a b c = refl
end_miss f x p u_word a b c = refl
end_miss f x p true_word a b c = refl
end_miss f x p false_word a b c = refl
end_miss f x p (name n) a b c = refl

fell-slipping : (st : State) (e : WordFault) → reads st (slipping e) ≡ fell e
fell-slipping st (Strange p) = refl
fell-slipping st (Long p) = refl

module _ (names : List (List ℕ)) (text : List ℕ) where
  from_start : from text 0 ≡ words_of text
  unfolding from
  from_start = refl

  pub read_long : 1024 < length text → read_of names text ≡ fault 2 1024
  read_long h = only names text (over_long h)

  pub read_slip : (e : WordFault) → length text ≤ 1024 → halt (from text 0) ≡ slip_halt e → read_of names text ≡ refused (Grammar (faults.Word e))
  read_slip (Strange p) n h = only names text (no_words no_word p n (sym (ap halt from_start) ∙ h))
  read_slip (Long p) n h = only names text (no_words too_long p n (sym (ap halt from_start) ∙ h))

  judged_fault : (e : GrammarFault) → judged names (length text) (faulted e) ≡ refused (Grammar e)
  judged_fault (faults.Word (Strange p)) = refl
  judged_fault (faults.Word (Long p)) = refl
  judged_fault (faults.Stray p) = refl

  module _ (short : length text ≤ 1024) (clean : halt (from text 0) ≡ at_end (length text)) where
    all : AllWords text (words_of text)
    all = record { within = short; clean = sym (ap halt from_start) ∙ clean }

    by_reads : (o : Outcome) → reads start (from text 0) ≡ o → read_of names text ≡ judged names (length text) o
    by_reads o e = clean_reads names text all ∙ ap (judged names (length text)) (sym (ap (reads start) from_start) ∙ e)

    pub read_fault : (e : GrammarFault) → reads start (from text 0) ≡ faulted e → read_of names text ≡ refused (Grammar e)
    read_fault e h = by_reads (faulted e) h ∙ judged_fault e

    pub read_fault_from : (r : Words) (e : GrammarFault) → left r ≡ from text 0 → reads start (left r) ≡ faulted e → read_of names text ≡ refused (Grammar e)
    read_fault_from r e same h = read_fault e (ap (reads start) (sym same) ∙ h)

    module _ (r t : Reader) (m : RuleRead r t) (by_names : names_in r ≡ names) (same : left r.words ≡ from text 0) where
      goes_on : reads start (from text 0) ≡ reads (have m.phrase.form (plain_or bottom)) (left t.words)
      goes_on = ap (reads start) (sym same) ∙ m.phrase.goes bottom

      pub read_late_slip : (e : WordFault) → left t.words ≡ slipping e → read_of names text ≡ refused (Grammar (faults.Word e))
      read_late_slip e h = read_fault (faults.Word e) (goes_on ∙ ap (reads (have m.phrase.form (plain_or bottom))) h ∙ fell-slipping _ e)

      pub read_stray : (p : ℕ) (w : Word) (x : Stream) → left t.words ≡ next p w x → read_of names text ≡ fault 5 p
      read_stray p w x h =
          read_fault (faults.Stray p)
          (goes_on ∙ ap (reads (have m.phrase.form (plain_or bottom))) h
          ∙ end_miss m.phrase.form x p w (subst (Off binds.And) h m.no_amp) (subst (Off binds.Or) h m.no_bar) (subst (Off binds.Implies) h m.no_arrow))

      read_tree : (n : ℕ) → left t.words ≡ end n → read_of names text ≡ kept (length text) (resolve names m.phrase.form)
      read_tree n h = by_reads (tree m.phrase.form) (goes_on ∙ ap (reads (have m.phrase.form (plain_or bottom))) h)

      holds_all : Holds r.parts [] → Holds t.parts (parts_of names m.phrase.form)
      holds_all h = subst (λ n. Holds t.parts (parts_of n m.phrase.form)) by_names (m.phrase.adds.grown [] h)

      pub read_many : (n : ℕ) → left t.words ≡ end n → Holds r.parts [] → 64 < t.parts.count → read_of names text ≡ fault 6 (length text)
      read_many n h k c =
          let counted = (holds_all k).counted in
          let long = length-parts (resolve names m.phrase.form) in
          read_tree n h ∙ ap (λ z. cond z (the_rule (resolve names m.phrase.form)) (fault 6 (length text))) (lt-leb _ 64 (omega arith))

      pub read_all : (n : ℕ) → left t.words ≡ end n → Holds r.parts [] → t.parts.count ≤ 64 → (f : Form ℕ) × ((read_of names text ≡ the_rule f) × (parts_in t.parts.kept ≡ parts f))
      read_all n h k c =
          let f : Form ℕ = resolve names m.phrase.form in
          let counted = (holds_all k).counted in
          let long = length-parts (resolve names m.phrase.form) in (
            f,
            (
              read_tree n h ∙ ap (λ z. cond z (the_rule f) (fault 6 (length text))) (le-leb _ 64 (omega arith)),
              (holds_all k).kept ∙ take_all 64 (parts f) (omega arith),
            ),
          )
