use Rattle.std.proofs.Common.{◌≡◌, ℕ, ◌≤◌, length, ap, ◌∙◌, subst}
use Rattle.grammar.specs.Forms.{Form}
use Rattle.grammar.specs.Reading.{answer_of}
use Rattle.grammar.specs.Answering.Answer.{the_rule}
use Rattle.grammar.specs.Writing.{written}
use Rattle.rule.specs.Rules.{form_in, length_in, names_in, put_into}
use Rattle.rule.proofs.Printings.{struck_nothing}
use Rattle.rule.proofs.rule.Rule.write.Goals as goal

pub returns : goal.returns
returns c =
    let same = struck_nothing (form_in c.args.self.now) in
    record {
      length = c.write_struck.ensures.length ∙ ap (λ (f : Form ℕ). length_in (written (names_in c.args.self.now) f) c.args.out.now) same;
      bytes = c.write_struck.ensures.bytes ∙ ap (λ (f : Form ℕ). put_into (written (names_in c.args.self.now) f) c.args.out.now) same;
      short = subst (λ (f : Form ℕ). length (written (names_in c.args.self.now) f) ≤ 1024) same c.write_struck.ensures.short;
      again = subst (λ (f : Form ℕ). answer_of (names_in c.args.self.now) (written (names_in c.args.self.now) f) ≡ the_rule f) same c.write_struck.ensures.again;
    }
