-- The laws: what is proved of the definitions of this crate.
use Rattle.std.specs.Prelude.{◌≡◌, ℕ, ◌+◌, ◌<◌, ◌≤◌, Bool, true, List, length, drop, Some, slice_index, slice_index_or}
use Rattle.grammar.specs.Forms.{Form, Part, parts, root, size}
use Rattle.grammar.specs.Forms.Part.{always}
use Rattle.grammar.specs.Words.{Word, Stream}
use Rattle.grammar.specs.Scanning.{words_of, from}
use Rattle.grammar.specs.Cuts.{Cut}
use Rattle.grammar.specs.Grammar.{Tree, Is, Viable}
use Rattle.grammar.specs.Grammar.Level.{rule}
use Rattle.grammar.specs.Machine.{steps, start, final, Alive}
use Rattle.grammar.specs.Machine.Ending.{whole}
use Rattle.grammar.specs.Answering.{Answer, Answering, TextAnswer}
use Rattle.grammar.specs.Answering.Answer.{the_rule}
use Rattle.grammar.specs.Reading.{answer_of, read_of, naming, wrong_in}
use Rattle.grammar.specs.Reading.Verdict.{right}
use Rattle.grammar.specs.Names.{Name, Names, Known}
use Rattle.grammar.specs.Writing.{written}
use Rattle.grammar.specs.Signs.{Sign, sign, sign_under, turns}
use Rattle.grammar.specs.Numbering.{Among, Inside, operands_in, root_operands}
use Rattle.grammar.specs.Shape.{tree_of}
use Rattle.grammar.specs.Striking.{struck}

-- the reader of words accepts the texts of the grammar with their trees, and no others
abbrev pub ReadsGrammar : Type 0
ReadsGrammar = (ws : List Word) (f : Tree) → (final (steps start ws) ≡ whole f → Is rule ws f) × (Is rule ws f → final (steps start ws) ≡ whole f)

-- a text of the grammar has one tree
abbrev pub OneTree : Type 0
OneTree = (ws : List Word) (f g : Tree) → Is rule ws f → Is rule ws g → f ≡ g

-- the reader goes on exactly while a text of the grammar does
abbrev pub StopsInTime : Type 0
StopsInTime = (ws : List Word) → (Alive (steps start ws) → Viable ws) × (Viable ws → Alive (steps start ws))

-- the words of a text are its cut, and it has no other
abbrev pub CutsWords : Type 0
CutsWords = (text : List ℕ) → Cut 0 text (words_of text) × ((s : Stream) → Cut 0 text s → words_of text ≡ s)

-- the words of a text from any place on are the cut of what is left of it there
abbrev pub CutsFrom : Type 0
CutsFrom = (text : List ℕ) (p : ℕ) → Cut p (drop p text) (from text p)

-- the test of a name passes exactly for names, and the test of a list finds nothing wrong exactly in name lists
abbrev pub NamingNames : Type 0
NamingNames =
    ((n : List ℕ) → (naming n ≡ true → Name n) × (Name n → naming n ≡ true))
    × ((names : List (List ℕ)) → (wrong_in names ≡ right → Names names) × (Names names → wrong_in names ≡ right))

-- the answer of a text, whatever the name list, is the one that the grammar and the limits give, and no other is
abbrev pub AnswersText : Type 0
AnswersText = (names : List (List ℕ)) (text : List ℕ) → TextAnswer names text (words_of text) (read_of names text) × ((a : Answer) → TextAnswer names text (words_of text) a → read_of names text ≡ a)

-- the answer of the definition is the one that the grammar and the limits give, and no other is
abbrev pub AnswersList : Type 0
AnswersList = (names : List (List ℕ)) (text : List ℕ) → Answering names text (answer_of names text) × ((a : Answer) → Answering names text a → answer_of names text ≡ a)

-- a written rule is within the limit of a text, and read again it is the rule that was written; 709 is 11 bytes for each of 64 parts and 5 more
abbrev pub ReadsBack : Type 0
ReadsBack = (names : List (List ℕ)) (f : Form ℕ) → Names names → Known names f → size f ≤ 64 → (length (written names f) ≤ 709) × (answer_of names (written names f) ≡ the_rule f)

-- a rule that was read has what writing asks for, and written and read again it is that rule
abbrev pub ReadsAgain : Type 0
ReadsAgain = (names : List (List ℕ)) (text : List ℕ) (f : Form ℕ) → answer_of names text ≡ the_rule f → (Names names × Known names f × (size f ≤ 64)) × (answer_of names (written names f) ≡ the_rule f)

-- a list of parts is that of one tree at most, and the tree of parts is found
abbrev pub Shapes : Type 0
Shapes = (ps : List (Part ℕ)) (f : Form ℕ) → (tree_of ps ≡ Some f → ps ≡ parts f) × (ps ≡ parts f → tree_of ps ≡ Some f)

-- each number below the count is that of a part that stands in the whole; its kind, its operands and its sign are those of its place
abbrev pub Places : Type 0
Places =
    (f : Form ℕ) (i : ℕ) → i < size f
    → (k : ℕ) × (p : Sign) × (g : Form ℕ)
    × Inside f k p g × (k + size g ≡ i + 1) × (slice_index_or (parts f) i always ≡ root g) × (operands_in f i ≡ root_operands k g) × (sign f i ≡ p)

-- every part but the last is an operand of exactly one part, a later one, and the last is an operand of none
abbrev pub OperandOnce : Type 0
OperandOnce =
    (f : Form ℕ) (i : ℕ)
    → (i + 1 < size f → (j : ℕ) × (i < j) × (j < size f) × Among i (operands_in f j) × ((l : ℕ) → Among i (operands_in f l) → l ≡ j))
    × (i + 1 ≡ size f → (l : ℕ) → Among i (operands_in f l) → ⊥)

-- the sign of a part is negative exactly under an odd number of `!` and left sides of `->`
abbrev pub SignsOdd : Type 0
SignsOdd = (f : Form ℕ) (i : ℕ) → i < size f → sign f i ≡ sign_under (slice_index (turns 0 f) i)

-- a rule with parts struck has no more parts and no other names, so written and read again it is that rule
abbrev pub StruckReadsBack : Type 0
StruckReadsBack =
    (names : List (List ℕ)) (f : Form ℕ) (marks : ℕ → Bool) → Names names → Known names f → size f ≤ 64
    → (length (written names (struck marks f)) ≤ 709) × (answer_of names (written names (struck marks f)) ≡ the_rule (struck marks f))

-- all of them
pub record Laws : Type 0 where
  pub words : CutsWords
  pub from_place : CutsFrom
  pub grammar : ReadsGrammar
  pub one_tree : OneTree
  pub in_time : StopsInTime
  pub names : NamingNames
  pub of_text : AnswersText
  pub answers : AnswersList
  pub back : ReadsBack
  pub again : ReadsAgain
  pub struck_back : StruckReadsBack
  pub shapes : Shapes
  pub places : Places
  pub once : OperandOnce
  pub odd : SignsOdd
