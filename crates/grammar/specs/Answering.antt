-- What is to be answered of a name list and a text: the rule, or the number and the place of a fault.
use Rattle.std.specs.Prelude.{◌≡◌, ℕ, suc, ◌<◌, ◌≤◌, false, cond, List, [], ◌∷◌, ◌++◌, length, slice_index_or}
use Rattle.grammar.specs.Cuts.{Cut}
use Rattle.grammar.specs.Forms.{Form, size}
use Rattle.grammar.specs.Forms.Form.{yes_form, no_form, leaf, one, two}
use Rattle.grammar.specs.Grammar.{Tree, Is, Viable}
use Rattle.grammar.specs.Grammar.Level.{rule}
use Rattle.grammar.specs.Words.{Word, Stream, same, Slip}
use Rattle.grammar.specs.Words.Slip.{no_word, too_long}
use Rattle.grammar.specs.Words.Stream.{end, slip, next}
use Rattle.grammar.specs.Names.{Name, Names}

-- a rule, or the number of a fault and its place
pub data Answer : Type 0 where
  the_rule : Form ℕ → Answer
  fault : ℕ → ℕ → Answer

-- the number of a fault of words
abbrev pub number : Slip → ℕ
number no_word = 3
number too_long = 4

-- the words of a stream with their places
abbrev pub listed : Stream → List (ℕ × Word)
listed (end p) = []
listed (slip e p) = []
listed (next p w s) = (p, w) ∷ listed s

-- the words without their places
abbrev pub bare : List (ℕ × Word) → List Word
bare [] = []
bare (x ∷ xs) = x.1 ∷ bare xs

-- where the words stop: at the text's end, or at a fault
pub data Halt : Type 0 where
  at_end : ℕ → Halt
  at_slip : Slip → ℕ → Halt

abbrev pub halt : Stream → Halt
halt (end p) = at_end p
halt (slip e p) = at_slip e p
halt (next p w s) = halt s

-- a name by its list: the label of its entry, or `false` where the list lacks it
abbrev pub meant : ℕ → List (List ℕ) → List ℕ → Form ℕ
meant i [] n = no_form
meant i (m ∷ ms) n = cond (same m n) (leaf i) (meant (suc i) ms n)

-- the rule that a tree stands for: each name by the list
abbrev pub resolve : List (List ℕ) → Tree → Form ℕ
resolve names yes_form = yes_form
resolve names no_form = no_form
resolve names (leaf n) = meant 0 names n
resolve names (one k f) = one k (resolve names f)
resolve names (two k f g) = two k (resolve names f) (resolve names g)

-- a text within the limit, whose words are those of the stream up to its end
pub record AllWords (text : List ℕ) (s : Stream) : Type 0 where
  pub within : length text ≤ 1024
  pub clean : halt s ≡ at_end (length text)

-- what is to be answered of a text, by its cut into words
pub data TextAnswer (names : List (List ℕ)) (text : List ℕ) (s : Stream) : Answer → Type 0 where
  -- 2: a text of over 1,024 bytes
  over_long : 1024 < length text → TextAnswer names text s (fault 2 1024)
  -- 3 and 4: the first place at which the words of the whole text stop short of its end
  no_words : (e : Slip) (p : ℕ) → length text ≤ 1024 → halt s ≡ at_slip e p → TextAnswer names text s (fault (number e) p)
  -- 5: the first word with which no text of the grammar goes on
  stray : (us vs : List (ℕ × Word)) (p : ℕ) (w : Word) → AllWords text s → listed s ≡ us ++ (p, w) ∷ vs → Viable (bare us) → (Viable (bare us ++ w ∷ []) → ⊥) → TextAnswer names text s (fault 5 p)
  -- 5: the text ends early
  unfinished : AllWords text s → Viable (bare (listed s)) → ((f : Tree) → Is rule (bare (listed s)) f → ⊥) → TextAnswer names text s (fault 5 (length text))
  -- 6: over 64 parts
  too_many : (f : Tree) → AllWords text s → Is rule (bare (listed s)) f → 64 < size f → TextAnswer names text s (fault 6 (length text))
  -- the tree of the text, with its names by the list
  accepted : (f : Tree) → AllWords text s → Is rule (bare (listed s)) f → size f ≤ 64 → TextAnswer names text s (the_rule (resolve names f))

-- entry i is a name that no earlier entry has
abbrev pub Fine : List (List ℕ) → ℕ → Type 0
Fine names i = Name (slice_index_or names i []) × ((j : ℕ) → j < i → same (slice_index_or names j []) (slice_index_or names i []) ≡ false)

-- what is to be answered: the name list is looked at first, and then the text
pub data Answering (names : List (List ℕ)) (text : List ℕ) : Answer → Type 0 where
  -- 1: over 32 names
  long_list : 32 < length names → Answering names text (fault 1 32)
  -- 1: the first entry that is no name, or repeats an earlier one
  bad_entry : (p : ℕ) → length names ≤ 32 → p < length names → ((i : ℕ) → i < p → Fine names i) → (Fine names p → ⊥) → Answering names text (fault 1 p)
  -- no fault in the name list: the answer is that of the text, by its cut
  good_list : (a : Answer) (s : Stream) → Names names → Cut 0 text s → TextAnswer names text s a → Answering names text a
