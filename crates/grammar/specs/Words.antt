-- The words of rule texts.
use Rattle.std.specs.Prelude.{ℕ, Bool, true, false, cond, ◌&&◌, ◌||◌, List, [], ◌∷◌, codes, ◌==◌, nat_le}
use Rattle.grammar.specs.Forms.{Unary, Path}
use Rattle.grammar.specs.Forms.Path.{every, some}
use Rattle.grammar.specs.Forms.Unary.{ex, ax, ef, af, eg, ag}

-- a word: a sign, a reserved word or a name
pub data Word : Type 0 where
  -- (
  open_word : Word
  -- )
  close : Word
  -- [
  square : Word
  -- ]
  unsquare : Word
  -- &
  amp : Word
  -- |
  bar : Word
  -- ->
  arrow : Word
  -- ! AX EX AF EF AG EG
  before : Unary → Word
  -- A E
  path : Path → Word
  -- U
  u_word : Word
  -- true
  true_word : Word
  -- false
  false_word : Word
  -- a name, by its bytes
  name : List ℕ → Word

-- A to Z, or a to z
abbrev pub letter : ℕ → Bool
letter b = (nat_le 65 b && nat_le b 90) || (nat_le 97 b && nat_le b 122)

-- 0 to 9
abbrev pub digit : ℕ → Bool
digit b = nat_le 48 b && nat_le b 57

-- a letter, a digit or an underscore
abbrev pub inner : ℕ → Bool
inner b = letter b || (digit b || b == 95)

-- whether two runs of bytes are the same
abbrev pub same : List ℕ → List ℕ → Bool
same [] [] = true
same [] (y ∷ ys) = false
same (x ∷ xs) [] = false
same (x ∷ xs) (y ∷ ys) = x == y && same xs ys

-- the reserved words: A E U AX EX AF EF AG EG true false; any other run is a name
unfoldable pub spelled : List ℕ → Word
spelled n =
    cond (same n (codes "A")) (path every)
    (cond (same n (codes "E")) (path some)
    (cond (same n (codes "U")) u_word
    (cond (same n (codes "AX")) (before ax)
    (cond (same n (codes "EX")) (before ex)
    (cond (same n (codes "AF")) (before af)
    (cond (same n (codes "EF")) (before ef)
    (cond (same n (codes "AG")) (before ag)
    (cond (same n (codes "EG")) (before eg)
    (cond (same n (codes "true")) true_word
    (cond (same n (codes "false")) false_word
    (name n)))))))))))

-- the two faults of words: a byte that begins no word, and a word over 16 bytes
pub data Slip : Type 0 where
  no_word : Slip
  too_long : Slip

-- what is left of a text: its end at that place, a fault at its place, or a word at its place and what is left after it
pub data Stream : Type 0 where
  end : ℕ → Stream
  slip : Slip → ℕ → Stream
  next : ℕ → Word → Stream → Stream
