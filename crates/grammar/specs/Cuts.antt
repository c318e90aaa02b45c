-- The words of a text as a relation: how the bytes are cut.
use Rattle.std.specs.Prelude.{◌≡◌, ℕ, ◌+◌, ◌<◌, ◌≤◌, true, false, List, [], ◌∷◌, ◌++◌, length}
use Rattle.grammar.specs.Forms.Unary.{neg}
use Rattle.grammar.specs.Words.{Word, Stream, letter, inner, spelled}
use Rattle.grammar.specs.Words.Word.{open_word, close, square, unsquare, amp, bar, arrow, before}
use Rattle.grammar.specs.Words.Slip.{no_word, too_long}
use Rattle.grammar.specs.Words.Stream.{end, slip, next}
use Rattle.grammar.specs.Names.{all_inner}

-- the signs of one byte
pub data Sign : ℕ → Word → Type 0 where
  -- (
  sign_open : Sign 40 open_word
  -- )
  sign_close : Sign 41 close
  -- [
  sign_square : Sign 91 square
  -- ]
  sign_unsquare : Sign 93 unsquare
  -- !
  sign_not : Sign 33 (before neg)
  -- &
  sign_and : Sign 38 amp
  -- |
  sign_or : Sign 124 bar

-- letters, digits and underscores, with a letter first
abbrev pub Run : List ℕ → Type 0
Run [] = ⊥
Run (b ∷ r) = (letter b ≡ true) × (all_inner r ≡ true)

-- no letter, digit or underscore comes first
abbrev pub Stops : List ℕ → Type 0
Stops [] = Unit {0}
Stops (b ∷ bs) = inner b ≡ false

-- the first byte is not this one
abbrev pub NotFirst : ℕ → List ℕ → Type 0
NotFirst c [] = Unit {0}
NotFirst c (b ∷ bs) = b ≡ c → ⊥

-- a byte that begins no word, with what follows it
pub record Strange (b : ℕ) (bs : List ℕ) : Type 0 where
  pub no_space : b ≡ 32 → ⊥
  pub no_letter : letter b ≡ false
  pub no_sign : (w : Word) → Sign b w → ⊥
  pub no_arrow : b ≡ 45 → NotFirst 62 bs

-- the bytes from place p on, and their words
pub data Cut : ℕ → List ℕ → Stream → Type 0 where
  cut_end : {p : ℕ} → Cut p [] (end p)
  cut_space : {p : ℕ} {bs : List ℕ} {s : Stream} → Cut (p + 1) bs s → Cut p (32 ∷ bs) s
  cut_sign : {p b : ℕ} {bs : List ℕ} {s : Stream} {w : Word} → Sign b w → Cut (p + 1) bs s → Cut p (b ∷ bs) (next p w s)
  cut_arrow : {p : ℕ} {bs : List ℕ} {s : Stream} → Cut (p + 2) bs s → Cut p (45 ∷ 62 ∷ bs) (next p arrow s)
  cut_run : {p : ℕ} {s : Stream} (n bs : List ℕ) → Run n → Stops bs → length n ≤ 16 → Cut (p + length n) bs s → Cut p (n ++ bs) (next p (spelled n) s)
  cut_long : {p : ℕ} (n bs : List ℕ) → Run n → Stops bs → 16 < length n → Cut p (n ++ bs) (slip too_long p)
  cut_none : {p b : ℕ} {bs : List ℕ} → Strange b bs → Cut p (b ∷ bs) (slip no_word p)
