-- Writing a rule into a line, part by part.
use Rattle.std.specs.Prelude.{◌≡◌, ℕ, ◌+◌, ◌<◌, Bool, List, [], ◌++◌, length, OnOk, OnErr, Result, slice_index_or}
use Rattle.grammar.specs.Forms.{Form, Part}
use Rattle.grammar.specs.Forms.Part.{always, never, known, on_one, on_two}
use Rattle.grammar.specs.Signs.{Sign}
use Rattle.grammar.specs.Striking.{settled, struck_from}
use Rattle.grammar.specs.Writing.{written}
use Rattle.words.specs.Kinds.{before}
use Rattle.rule.specs.Walks.{Stands}
use Rattle.fixed_vec.specs.declared.Full.{Full}

-- the constant that a struck part of that sign is written as
abbrev pub constant_for : Sign → List ℕ
constant_for p = written [] (settled p)

-- what is written for a part without operands
abbrev pub word_for : List (List ℕ) → Part ℕ → List ℕ
word_for names always = before always
word_for names never = before never
word_for names (known l) = slice_index_or names l []
word_for names (on_one o) = before (on_one o)
word_for names (on_two o) = before (on_two o)

-- the text of a part, with its struck parts as their constants
abbrev pub part_text : List (List ℕ) → (ℕ → Bool) → {f : Form ℕ} {i : ℕ} {p : Sign} → Stands f i p → List ℕ
part_text names marks {p = p} s = written names (struck_from marks s.first p s.form)

-- the text was added to a line, or a line of 1,024 bytes is too short for it
pub record Adds (text old new : List ℕ) (r : Result (Unit {0}) Full) : Type 0 where
  pub ok : OnOk r (new ≡ old ++ text)
  pub full : OnErr r (1024 < length old + length text)
