-- A rule whose struck parts are their constants.
use Rattle.std.specs.Prelude.{ℕ, ◌+◌, Bool, cond}
use Rattle.grammar.specs.Forms.{Form, size}
use Rattle.grammar.specs.Forms.Form.{yes_form, no_form, leaf, one, two}
use Rattle.grammar.specs.Signs.{Sign, under, left, right}
use Rattle.grammar.specs.Signs.Sign.{plus, minus}

-- what a struck part counts as: `false` for a positive part, `true` for a negative one
abbrev pub settled : {A : Type 0} → Sign → Form A
settled plus = no_form
settled minus = yes_form

-- the form with its struck parts as their constants, where its first part is number k and its sign is p
abbrev pub struck_from : {A : Type 0} → (ℕ → Bool) → ℕ → Sign → Form A → Form A
struck_from marks k p yes_form = cond (marks k) (settled p) yes_form
struck_from marks k p no_form = cond (marks k) (settled p) no_form
struck_from marks k p (leaf a) = cond (marks k) (settled p) (leaf a)
struck_from marks k p (one o f) = cond (marks (k + size f)) (settled p) (one o (struck_from marks k (under o p) f))
struck_from marks k p (two o f g) =
    cond (marks (k + (size f + size g))) (settled p)
    (two o (struck_from marks k (left o p) f) (struck_from marks (k + size f) (right o p) g))

-- the rule with the marked parts struck
abbrev pub struck : {A : Type 0} → (ℕ → Bool) → Form A → Form A
struck marks f = struck_from marks 0 plus f
