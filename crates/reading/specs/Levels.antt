-- What each level of the grammar's reader does, whatever stands around it.
use Rattle.std.specs.Prelude.{◌≡◌, ℕ, ◌<◌, ◌≤◌, List, Some, None, Ok, Err, Option, Result, ◌≢◌}
use Rattle.grammar.specs.Forms as form
use Rattle.grammar.specs.Words as word
use Rattle.grammar.specs.Scanning as scan
use Rattle.grammar.specs.Grammar.{Tree}
use Rattle.grammar.specs.Machine.{Awaits, Stack, State, give, fresh}
use Rattle.grammar.specs.Machine.Awaits.{a_rule, a_and, a_unary}
use Rattle.grammar.specs.Machine.Stack.{plain_or, plain_and}
use Rattle.grammar.specs.Machine.State.{need, have}
use Rattle.grammar.specs.Reading.{Outcome, reads}
use Rattle.grammar.specs.Reading.Outcome.{stuck, slipped}
use Rattle.names.specs.Lists.{names_of}
use Rattle.reading.specs.Growing.{Grown}
use Rattle.words.specs.Kinds.{part_of}
use Rattle.reading.specs.declared.levels.Reader.{Reader}
use Rattle.words.specs.Wording.{wording}
use Rattle.words.specs.declared.word.Seen.{Seen}
use Rattle.words.specs.declared.words.Words.{Words}
use Rattle.words.specs.declared.faults.WordFault.{WordFault}
use Rattle.words.specs.declared.faults.WordFault.TheVariants.{Strange, Long}
use Rattle.reading.specs.declared.faults.GrammarFault.{GrammarFault}
use Rattle.reading.specs.declared.faults.GrammarFault.TheVariants as faults
use Rattle.words.specs.declared.kinds.Kind.{Kind}
use Rattle.words.specs.declared.kinds.Kind.TheVariants as kinds
use Rattle.words.specs.declared.kinds.Binding.{Binding}
use Rattle.words.specs.declared.kinds.Binding.TheVariants as binds

-- the names of a reader
abbrev pub names_in : Reader → List (List ℕ)
names_in r = names_of r.names.now

-- what is left of a text
abbrev pub left : Words → word.Stream
left r = scan.from r.text.now r.place

abbrev pub fell : WordFault → Outcome
fell (Strange p) = slipped word.no_word p
fell (Long p) = slipped word.too_long p

abbrev pub faulted : GrammarFault → Outcome
faulted (faults.Word e) = fell e
faulted (faults.Stray p) = stuck p

-- how strongly a word binds that makes a part
abbrev pub strength : word.Word → Option Binding
strength word.open_word = None
strength word.close = None
strength word.square = None
strength word.unsquare = None
strength word.amp = Some binds.And
strength word.bar = Some binds.Or
strength word.arrow = Some binds.Implies
strength (word.before k) = Some binds.Unary
strength (word.path q) = Some binds.Atom
strength word.u_word = None
strength word.true_word = Some binds.Atom
strength word.false_word = Some binds.Atom
strength (word.name n) = None

-- the word makes a part of that kind and binds so strongly; of an atom nothing more is said, and the reader asks for none
abbrev pub Makes : Binding → word.Word → Kind → Type 0
Makes binds.Implies w k = (w ≡ word.arrow) × (k ≡ kinds.Implies)
Makes binds.Or w k = (w ≡ word.bar) × (k ≡ kinds.Or)
Makes binds.And w k = (w ≡ word.amp) × (k ≡ kinds.And)
Makes binds.Unary w k = (o : form.Unary) × (w ≡ word.before o) × (part_of k 0 ≡ form.on_one o)
Makes binds.Atom w k = strength w ≡ Some binds.Atom

-- the kind that a word makes, if it binds so strongly
abbrev pub Made : Binding → word.Word → Option Kind → Type 0
Made b w (Some k) = Makes b w k
Made b w None = strength w ≡ Some b → ⊥

-- no word of that binding comes next
abbrev pub Off : Binding → word.Stream → Type 0
Off b (word.end p) = Unit {0}
Off b (word.slip e p) = Unit {0}
Off b (word.next p w s) = strength w ≡ Some b → ⊥

-- the words went on over the same text
pub record Moved (r t : Words) : Type 0 where
  pub same_text : t.text ≡ r.text
  pub further : r.place < t.place

-- a word of that binding was taken, or none is there
abbrev pub Taken : Binding → Words → Words → Result (Option Kind) WordFault → Type 0
Taken b r t (Ok (Some k)) = Moved r t × ((p : ℕ) × ((w : word.Word) × ((left r ≡ word.next p w (left t)) × Makes b w k)))
Taken b r t (Ok None) = (t ≡ r) × Off b (left r)
Taken b r t (Err e) = (st : State) → reads st (left r) ≡ fell e

-- the next word was taken, or there is none
abbrev pub Next : Words → Words → Result Seen GrammarFault → Type 0
Next r t (Ok s) = Moved r t × (left r ≡ word.next s.at (wording s.word) (left t))
Next r t (Err (faults.Word e)) = (st : State) → reads st (left r) ≡ fell e
Next r t (Err (faults.Stray p)) = left r ≡ word.end p

-- another word stands there, or none
abbrev pub Misses : word.Word → word.Stream → ℕ → Type 0
Misses m (word.end q) p = q ≡ p
Misses m (word.slip e q) p = ⊥
Misses m (word.next q w s) p = (q ≡ p) × (w ≢ m)

-- a word that has to stand there was taken, or is not there
abbrev pub Expected : word.Word → Words → Words → Result (Unit {0}) GrammarFault → Type 0
Expected m r t (Ok u) = Moved r t × ((p : ℕ) × (left r ≡ word.next p m (left t)))
Expected m r t (Err (faults.Word e)) = (st : State) → reads st (left r) ≡ fell e
Expected m r t (Err (faults.Stray p)) = Misses m (left r) p

-- the parts of a tree were added by the same names, and the reader went on over the same text
pub record Adds (r t : Reader) (f : Tree) : Type 0 where
  pub grown : Grown (names_in r) r.parts t.parts f
  pub same_names : t.names ≡ r.names
  pub moved : Moved r.words t.words

-- a phrase was read: what comes of the text where it is awaited comes of what is left of it where the phrase is whole
pub record Phrase {A : Awaits} (awaited : Stack A → State) (read : Tree → Stack A → State) (r t : Reader) : Type 0 where
  pub form : Tree
  pub adds : Adds r t form
  pub goes : (s : Stack A) → reads (awaited s) (left r.words) ≡ reads (read form s) (left t.words)

abbrev pub UnaryRead : Reader → Reader → Type 0
UnaryRead r t = Phrase need give r t

-- the same of an atom, whose first word w at p is taken already
pub record AtomRead (r t : Reader) (p : ℕ) (w : word.Word) : Type 0 where
  pub form : Tree
  pub grown : Grown (names_in r) r.parts t.parts form
  pub same_names : t.names ≡ r.names
  pub same_text : t.words.text ≡ r.words.text
  pub further : r.words.place ≤ t.words.place
  pub goes : (s : Stack a_unary) → reads (need s) (word.next p w (left r.words)) ≡ reads (give form s) (left t.words)

abbrev pub need_and : Stack a_and → State
need_and s = need (plain_and s)

pub record AndRead (r t : Reader) : Type 0 where
  pub phrase : Phrase need_and have r t
  pub no_amp : Off binds.And (left t.words)

abbrev pub have_or : Tree → Stack a_rule → State
have_or f s = have f (plain_or s)

pub record OrRead (r t : Reader) : Type 0 where
  pub phrase : Phrase fresh have_or r t
  pub no_amp : Off binds.And (left t.words)
  pub no_bar : Off binds.Or (left t.words)

pub record RuleRead (r t : Reader) : Type 0 where
  pub phrase : Phrase fresh have_or r t
  pub no_amp : Off binds.And (left t.words)
  pub no_bar : Off binds.Or (left t.words)
  pub no_arrow : Off binds.Implies (left t.words)

abbrev pub UnaryDone : Reader → Reader → Result (Unit {0}) GrammarFault → Type 0
UnaryDone r t (Ok u) = UnaryRead r t
UnaryDone r t (Err e) = (s : Stack a_unary) → reads (need s) (left r.words) ≡ faulted e

abbrev pub AtomDone : Reader → Reader → ℕ → word.Word → Result (Unit {0}) GrammarFault → Type 0
AtomDone r t p w (Ok u) = AtomRead r t p w
AtomDone r t p w (Err e) = (s : Stack a_unary) → reads (need s) (word.next p w (left r.words)) ≡ faulted e

abbrev pub AndDone : Reader → Reader → Result (Unit {0}) GrammarFault → Type 0
AndDone r t (Ok u) = AndRead r t
AndDone r t (Err e) = (s : Stack a_and) → reads (need_and s) (left r.words) ≡ faulted e

abbrev pub OrDone : Reader → Reader → Result (Unit {0}) GrammarFault → Type 0
OrDone r t (Ok u) = OrRead r t
OrDone r t (Err e) = (s : Stack a_rule) → reads (fresh s) (left r.words) ≡ faulted e

abbrev pub RuleDone : Reader → Reader → Result (Unit {0}) GrammarFault → Type 0
RuleDone r t (Ok u) = RuleRead r t
RuleDone r t (Err e) = (s : Stack a_rule) → reads (fresh s) (left r.words) ≡ faulted e

-- the rest of `A [ rule U rule ]` or `E [ rule U rule ]`, after the letter at p
abbrev pub UntilDone : Reader → Reader → ℕ → Kind → Result (Unit {0}) GrammarFault → Type 0
UntilDone r t p k x = (q : form.Path) → part_of k 0 ≡ form.on_two (form.until q) → AtomDone r t p (word.path q) x
