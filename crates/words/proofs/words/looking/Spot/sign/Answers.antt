use Rattle.std.proofs.Common.{[], sym, refl, ap, ◌∙◌, arith}
use Rattle.grammar.specs.Scanning.{signed}
use Rattle.grammar.proofs.Streams.{unseen}
use Rattle.words.proofs.Looks.{begins, sign_front}
use Rattle.words.specs.Wording.{signing}
use Rattle.words.proofs.words.looking.Spot.sign.Goals as goal

pub returns : goal.returns
returns c =
    begins _ _ _ 0 _ (omega arith) (omega arith)
    (sign_front _ _ _ c.requires.no_space c.requires.no_letter c.requires.no_dash (sym (ap signing c.in-Some.is) ∙ c.sign.ensures.sign ∙ ap (λ b. signed b []) c.byte.ensures))
    (omega (arith, c.in-Some.ensures.one))

pub returns-in_default : goal.returns-in_default
returns-in_default c =
    unseen _ _ _ refl (omega arith)
    (sign_front _ _ _ c.requires.no_space c.requires.no_letter c.requires.no_dash (sym (ap signing c.in_default.is) ∙ c.sign.ensures.sign ∙ ap (λ b. signed b []) c.byte.ensures))
