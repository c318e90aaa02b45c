-- The answer computed, word by word; `Laws` says that it is the one of `Answering`.
use Rattle.std.specs.Prelude.{ℕ, zero, suc, Bool, true, false, cond, ◌&&◌, List, [], ◌∷◌, length, take, nat_le, slice_index_or}
use Rattle.grammar.specs.Answering.{Answer, number, Halt, halt, resolve}
use Rattle.grammar.specs.Answering.Answer.{fault, the_rule}
use Rattle.grammar.specs.Answering.Halt.{at_end, at_slip}
use Rattle.grammar.specs.Forms.{Form, size}
use Rattle.grammar.specs.Grammar.{Tree}
use Rattle.grammar.specs.Machine.{State, Ending, step, final, start}
use Rattle.grammar.specs.Machine.Ending.{whole, early}
use Rattle.grammar.specs.Machine.State.{need, need_square, have, dead}
use Rattle.grammar.specs.Scanning.{words_of}
use Rattle.grammar.specs.Words.{Word, Stream, letter, same, spelled, Slip}
use Rattle.grammar.specs.Words.Stream.{end, slip, next}
use Rattle.grammar.specs.Words.Word.{open_word, close, square, unsquare, amp, bar, arrow, before, path, u_word, true_word, false_word, name}
use Rattle.grammar.specs.Names.{all_inner}

-- what comes of the words from a state on: a tree, or the place where no text of the grammar goes on, or a fault of words
pub data Outcome : Type 0 where
  tree : Tree → Outcome
  stuck : ℕ → Outcome
  slipped : Slip → ℕ → Outcome

-- the words end at place p: with a whole rule, or too early
abbrev pub ended : ℕ → Ending → Outcome
ended p (whole f) = tree f
ended p early = stuck p

-- a word at place p is taken: what comes later counts, unless no text of the grammar goes on with the word
abbrev pub going : State → ℕ → Outcome → Outcome
going (need s) p o = o
going (need_square q s) p o = o
going (have f s) p o = o
going dead p o = stuck p

-- what comes of a stream of words, read from a state on
abbrev pub reads : State → Stream → Outcome
reads st (end p) = ended p (final st)
reads st (slip e p) = slipped e p
reads st (next p w s) = going (step st w) p (reads (step st w) s)

-- 6: a rule of over 64 parts is a fault at the end of the text
abbrev pub kept : ℕ → Form ℕ → Answer
kept len f = cond (nat_le (size f) 64) (the_rule f) (fault 6 len)

-- the answer by what came of the words
abbrev pub judged : List (List ℕ) → ℕ → Outcome → Answer
judged names len (tree f) = kept len (resolve names f)
judged names len (stuck p) = fault 5 p
judged names len (slipped e p) = fault (number e) p

-- 3 and 4: a fault of words anywhere in the text comes before the rest
abbrev pub halted : Halt → Answer → Answer
halted (at_end p) a = a
halted (at_slip e p) a = fault (number e) p

-- the answer: 2, then 3 and 4 over the whole text, then 5, then 6
unfoldable pub read_of : List (List ℕ) → List ℕ → Answer
read_of names text =
    cond (nat_le (length text) 1024)
    (halted (halt (words_of text)) (judged names (length text) (reads start (words_of text))))
    (fault 2 1024)

abbrev pub plain : Word → Bool
plain open_word = false
plain close = false
plain square = false
plain unsquare = false
plain amp = false
plain bar = false
plain arrow = false
plain (before k) = false
plain (path q) = false
plain u_word = false
plain true_word = false
plain false_word = false
plain (name n) = true

-- whether the bytes are a name
abbrev pub naming : List ℕ → Bool
naming [] = false
naming (b ∷ r) = letter b && (all_inner r && (nat_le (length r) 15 && plain (spelled (b ∷ r))))

-- whether none of the names is n
abbrev pub absent : List (List ℕ) → List ℕ → Bool
absent [] n = true
absent (m ∷ ms) n = cond (same m n) false (absent ms n)

-- whether entry i is a name that no earlier entry has
abbrev pub fine : List (List ℕ) → ℕ → Bool
fine names i = naming (slice_index_or names i []) && absent (take i names) (slice_index_or names i [])

pub data Verdict : Type 0 where
  right : Verdict
  wrong : ℕ → Verdict

-- the first of k numbers from i on at which the test fails
abbrev pub hunt : ℕ → ℕ → (ℕ → Bool) → Verdict
hunt zero i f = right
hunt (suc k) i f = cond (f i) (hunt k (suc i) f) (wrong i)

unfoldable pub wrong_in : List (List ℕ) → Verdict
wrong_in names = cond (nat_le (length names) 32) (hunt (length names) 0 (fine names)) (wrong 32)

abbrev pub first_list : Verdict → Answer → Answer
first_list right a = a
first_list (wrong p) a = fault 1 p

-- the answer: 1, and then those of the text
abbrev pub answer_of : List (List ℕ) → List ℕ → Answer
answer_of names text = first_list (wrong_in names) (read_of names text)
