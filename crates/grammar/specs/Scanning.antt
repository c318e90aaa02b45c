-- The words of a text computed, byte by byte; `Laws` says that they are those of its cut.
use Rattle.std.specs.Prelude.{ℕ, zero, suc, cond, List, [], ◌∷◌, length, drop, ◌==◌, nat_le}
use Rattle.grammar.specs.Forms.Unary.{neg}
use Rattle.grammar.specs.Words.{Word, Stream, letter, spelled, inner}
use Rattle.grammar.specs.Words.Slip.{no_word, too_long}
use Rattle.grammar.specs.Words.Stream.{end, slip, next}
use Rattle.grammar.specs.Words.Word.{open_word, close, square, unsquare, amp, bar, arrow, before}

-- the longest front of letters, digits and underscores
abbrev pub run : List ℕ → List ℕ
run [] = []
run (b ∷ bs) = cond (inner b) (b ∷ run bs) []

-- what a byte begins, with the bytes after it: a space, a word that takes so many bytes more, no word, or a word over 16 bytes
pub data Front : Type 0 where
  space : Front
  word : ℕ → Word → Front
  none : Front
  long : Front

-- the word of a run that follows a letter
abbrev pub running : ℕ → List ℕ → Front
running b r = cond (nat_le (length r) 15) (word (length r) (spelled (b ∷ r))) long

-- after `-`: the arrow where `>` comes next, else no word
abbrev pub arrowed : List ℕ → Front
arrowed [] = none
arrowed (b ∷ bs) = cond (b == 62) (word 1 arrow) none

-- a byte that is no space and no letter: a sign, or no word
abbrev pub signed : ℕ → List ℕ → Front
signed b bs =
    cond (b == 40) (word 0 open_word)
    (cond (b == 41) (word 0 close)
    (cond (b == 91) (word 0 square)
    (cond (b == 93) (word 0 unsquare)
    (cond (b == 33) (word 0 (before neg))
    (cond (b == 38) (word 0 amp)
    (cond (b == 124) (word 0 bar)
    (cond (b == 45) (arrowed bs) none)))))))

-- what a byte begins, with the bytes after it: a space, a run where it is a letter, else a sign or no word
unfoldable pub front : ℕ → List ℕ → Front
front b bs = cond (b == 32) space (cond (letter b) (running b (run bs)) (signed b bs))

-- the words from place p on, by what the byte there begins; k gives those from the next byte on, by how many bytes more the word takes
abbrev pub onward : ℕ → Front → (ℕ → Stream) → Stream
onward p space k = k zero
onward p (word n w) k = next p w (k n)
onward p none k = slip no_word p
onward p long k = slip too_long p

-- the words from place p on, where the first `skip` bytes are taken by the word before
unfoldable pub words : ℕ → ℕ → List ℕ → Stream
words p skip [] = end p
words p zero (b ∷ bs) = onward p (front b bs) (λ k. words (suc p) k bs)
words p (suc skip) (b ∷ bs) = words (suc p) skip bs

-- the words of a text
abbrev pub words_of : List ℕ → Stream
words_of text = words 0 0 text

-- the words of a text from a place on
unfoldable pub from : List ℕ → ℕ → Stream
from text p = words p 0 (drop p text)
