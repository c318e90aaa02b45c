-- What the program answers to the rule that it reads: the rule as written, or its refusal.
use Rattle.std.specs.Prelude.{ℕ, cond, List, [], ◌∷◌, ◌++◌, codes, decimal, ◌==◌}
use Rattle.grammar.specs.Reading.{answer_of}
use Rattle.grammar.specs.Answering.{Answer}
use Rattle.grammar.specs.Answering.Answer.{the_rule, fault}
use Rattle.grammar.specs.Writing.{written}
use Rattle.rulecheck.specs.Output.{output}

-- the names of the ticket flow's labels
abbrev pub ticket_names : List (List ℕ)
ticket_names = codes "held" ∷ codes "sold" ∷ []

-- the text of a rule: the input, without one byte 10 at its very end
abbrev pub text_in : List ℕ → List ℕ
text_in [] = []
text_in (b ∷ []) = cond (b == 10) [] (b ∷ [])
text_in (b ∷ c ∷ bs) = b ∷ text_in (c ∷ bs)

-- the line of a rule, or of a refusal by its number and place
abbrev pub rule_line : Answer → List ℕ
rule_line (the_rule f) = codes "RULE " ++ (written ticket_names f ++ (10 ∷ []))
rule_line (fault n p) = codes "REFUSED " ++ (decimal n ++ (codes " at " ++ (decimal p ++ (10 ∷ []))))

-- all that is printed for an input
abbrev pub whole : List ℕ → List ℕ
whole input = output ++ rule_line (answer_of ticket_names (text_in input))
