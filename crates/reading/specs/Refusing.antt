-- The number and the place of a refusal.
use Rattle.std.specs.Prelude.{ℕ, List, ◌++◌, codes, decimal}
use Rattle.grammar.specs.Answering.{Answer}
use Rattle.grammar.specs.Answering.Answer.{fault}
use Rattle.words.specs.declared.faults.WordFault.TheVariants.{Strange, Long}
use Rattle.names.specs.Lists.{entry_of}
use Rattle.reading.specs.declared.faults.GrammarFault.TheVariants.{Word, Stray}
use Rattle.reading.specs.declared.faults.RuleFault.{RuleFault}
use Rattle.reading.specs.declared.faults.RuleFault.TheVariants.{Names, Text, Grammar, Parts}

abbrev pub number_of : RuleFault → ℕ
number_of (Names e) = 1
number_of Text = 2
number_of (Grammar (Word (Strange p))) = 3
number_of (Grammar (Word (Long p))) = 4
number_of (Grammar (Stray p)) = 5
number_of (Parts n) = 6

abbrev pub place_of : RuleFault → ℕ
place_of (Names e) = entry_of e
place_of Text = 1024
place_of (Grammar (Word (Strange p))) = p
place_of (Grammar (Word (Long p))) = p
place_of (Grammar (Stray p)) = p
place_of (Parts n) = n

-- a refusal as it is shown: its number, and after ` at ` its place
abbrev pub fault_text : RuleFault → List ℕ
fault_text e = decimal (number_of e) ++ (codes " at " ++ decimal (place_of e))

-- a refusal as the answer of a reading
abbrev pub refused : RuleFault → Answer
refused e = fault (number_of e) (place_of e)
