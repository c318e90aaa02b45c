use Rattle.std.proofs.Common.{◌≡◌, ℕ, [], List, ap, sym, ◌∙◌, subst}
use Rattle.grammar.specs.Forms.{Form}
use Rattle.grammar.specs.Reading.{answer_of}
use Rattle.grammar.specs.Answering.Answer.{the_rule}
use Rattle.grammar.specs.Writing.{written}
use Rattle.rule.specs.Rules.{form_in, marked, names_in, text_of}
use Rattle.rule.proofs.Printings.{struck_again, struck_nothing}
use Rattle.rule.proofs.rule.Rule.text.Goals as goal

pub returns : goal.returns
returns c =
    let r = c.args.self.now in
    let same = struck_nothing (form_in r) in
    let bytes = c.line.ensures ∙ ap (written (names_in r)) same in
    let back : answer_of (names_in r) (text_of r) ≡ the_rule (form_in r) =
    subst (λ (f : Form ℕ). answer_of (names_in r) (written (names_in r) f) ≡ the_rule f) same (struck_again r (marked [])) in
    record {
      bytes = bytes;
      again = subst (λ (text : List ℕ). answer_of (names_in r) text ≡ the_rule (form_in r)) (sym bytes) back;
    }
