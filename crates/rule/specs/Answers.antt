-- The answer of the call that reads a rule.
use Rattle.std.specs.Prelude.{◌≡◌, ℕ, List, Ok, Err, Result}
use Rattle.grammar.specs.Answering.{Answer}
use Rattle.grammar.specs.Answering.Answer.{the_rule}
use Rattle.reading.specs.Refusing.{refused}
use Rattle.rule.specs.Rules.{form_in, names_in}
use Rattle.reading.specs.declared.faults.RuleFault.{RuleFault}
use Rattle.rule.specs.declared.rule.Rule.{Rule}

-- a rule as its tree, or a refusal as its number and place
abbrev pub answered : Result Rule RuleFault → Answer
answered (Ok r) = the_rule (form_in r)
answered (Err e) = refused e

-- a rule that was read keeps the names
abbrev pub Keeps : List (List ℕ) → Result Rule RuleFault → Type 0
Keeps names (Ok r) = names_in r ≡ names
Keeps names (Err e) = Unit {0}
