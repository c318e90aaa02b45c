-- What is read of a whole text: its words, and its parts by a name list.
use Rattle.std.specs.Prelude.{◌≡◌, ℕ, List, length, Ok, Err, Result}
use Rattle.grammar.specs.Forms as form
use Rattle.grammar.specs.Words as word
use Rattle.grammar.specs.Scanning as scan
use Rattle.grammar.specs.Answering.{Halt, halt}
use Rattle.grammar.specs.Reading.{read_of}
use Rattle.grammar.specs.Answering.Answer.{the_rule}
use Rattle.grammar.specs.Answering.Halt.{at_end, at_slip}
use Rattle.fixed_vec.specs.declared.FixedVec.{FixedVec}
use Rattle.reading.specs.Holding.{parts_in}
use Rattle.reading.specs.Refusing.{refused}
use Rattle.words.specs.declared.faults.WordFault.{WordFault}
use Rattle.words.specs.declared.faults.WordFault.TheVariants.{Strange, Long}
use Rattle.reading.specs.declared.faults.RuleFault.{RuleFault}
use Rattle.reading.specs.declared.part.Part.{Part}

abbrev pub slip_halt : WordFault → Halt
slip_halt (Strange p) = at_slip word.no_word p
slip_halt (Long p) = at_slip word.too_long p

-- a pass over all words of a text
abbrev pub Passed : List ℕ → Result (Unit {0}) WordFault → Type 0
Passed text (Ok u) = halt (scan.from text 0) ≡ at_end (length text)
Passed text (Err e) = halt (scan.from text 0) ≡ slip_halt e

-- the parts of the rule that the text stands for, or the refusal
abbrev pub PartsRead : List (List ℕ) → List ℕ → Result (FixedVec Part 64) RuleFault → Type 0
PartsRead names text (Ok v) = (f : form.Form ℕ) × ((read_of names text ≡ the_rule f) × (parts_in v ≡ form.parts f))
PartsRead names text (Err e) = read_of names text ≡ refused e
