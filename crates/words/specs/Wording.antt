-- The words of the code as those of the grammar, and what a look at the next word shows.
use Rattle.std.specs.Prelude.{◌≡◌, ℕ, ◌+◌, ◌<◌, ◌≤◌, List, length, Some, None, Ok, Err, Option, Result}
use Rattle.grammar.specs.Forms.Unary.{neg, ex, ax, ef, af, eg, ag}
use Rattle.grammar.specs.Forms.Path.{every, some}
use Rattle.grammar.specs.Words as word
use Rattle.grammar.specs.Scanning as scan
use Rattle.grammar.specs.Words.Word.{open_word, close, square, unsquare, amp, bar, arrow, before, path, u_word, true_word, false_word, name}
use Rattle.words.specs.declared.kinds.Kind.{Kind}
use Rattle.words.specs.declared.kinds.Kind.TheVariants as kinds
use Rattle.words.specs.declared.word.Word.{Word}
use Rattle.words.specs.declared.word.Word.TheVariants.{Open, Close, Square, Unsquare, Not, And, Or, Arrow, Ex, Ax, Ef, Af, Eg, Ag, A, E, U, True, False, Name}
use Rattle.words.specs.declared.faults.WordFault.{WordFault}
use Rattle.words.specs.declared.faults.WordFault.TheVariants.{Strange, Long}
use Rattle.words.specs.declared.word.Seen.{Seen}

abbrev pub wording : Word → word.Word
wording Open = open_word
wording Close = close
wording Square = square
wording Unsquare = unsquare
wording Not = before neg
wording And = amp
wording Or = bar
wording Arrow = arrow
wording Ex = before ex
wording Ax = before ax
wording Ef = before ef
wording Af = before af
wording Eg = before eg
wording Ag = before ag
wording A = path every
wording E = path some
wording U = u_word
wording True = true_word
wording False = false_word
wording (Name n) = name n.now

-- the kind of the part that a word makes
abbrev pub kind_of : Word → Option Kind
kind_of Open = None
kind_of Close = None
kind_of Square = None
kind_of Unsquare = None
kind_of Not = Some kinds.Not
kind_of And = Some kinds.And
kind_of Or = Some kinds.Or
kind_of Arrow = Some kinds.Implies
kind_of Ex = Some kinds.Ex
kind_of Ax = Some kinds.Ax
kind_of Ef = Some kinds.Ef
kind_of Af = Some kinds.Af
kind_of Eg = Some kinds.Eg
kind_of Ag = Some kinds.Ag
kind_of A = Some kinds.Au
kind_of E = Some kinds.Eu
kind_of U = None
kind_of True = Some kinds.True
kind_of False = Some kinds.False
kind_of (Name n) = None

-- what a byte begins that is a sign of its own, or no word
abbrev pub signing : Option Word → scan.Front
signing (Some w) = scan.word 0 (wording w)
signing None = scan.none

abbrev pub slipping : WordFault → word.Stream
slipping (Strange p) = word.slip word.no_word p
slipping (Long p) = word.slip word.too_long p

-- how many bytes a word takes
abbrev pub extent : word.Word → ℕ
extent open_word = 1
extent close = 1
extent square = 1
extent unsquare = 1
extent amp = 1
extent bar = 1
extent arrow = 2
extent (before neg) = 1
extent (before ex) = 2
extent (before ax) = 2
extent (before ef) = 2
extent (before af) = 2
extent (before eg) = 2
extent (before ag) = 2
extent (path q) = 1
extent u_word = 1
extent true_word = 4
extent false_word = 5
extent (name n) = length n

-- a word of one byte, where there is one
abbrev pub OneByte : Option Word → Type 0
OneByte (Some w) = extent (wording w) ≡ 1
OneByte None = Unit {0}

-- what a look at the words from p on shows: the next word with its place and the place past its last byte
abbrev pub Looked : List ℕ → ℕ → Result (Option Seen) WordFault → Type 0
Looked text p (Ok (Some s)) = (scan.from text p ≡ word.next s.at (wording s.word) (scan.from text s.after)) × (p < s.after) × (s.after ≤ length text) × (s.after ≡ s.at + extent (wording s.word))
Looked text p (Ok None) = scan.from text p ≡ word.end (length text)
Looked text p (Err e) = scan.from text p ≡ slipping e

-- the same from a byte that is no space, where a word begins or none can
abbrev pub Begins : List ℕ → ℕ → Result Seen WordFault → Type 0
Begins text p (Ok s) = Looked text p (Ok (Some s))
Begins text p (Err e) = Looked text p (Err e)
