-- From a name list and the parts that were read by it to the answer, and to what the rule's type keeps.
use Rattle.std.proofs.Common.{◌≡◌, ℕ, true, List, length, Err, Result, sym, ap, ◌∙◌, subst}
use Rattle.grammar.specs.Forms.{Form, parts}
use Rattle.grammar.specs.Shape.{form_of, is_tree, labelled}
use Rattle.grammar.specs.Answering.{Answer}
use Rattle.grammar.specs.Reading.{read_of}
use Rattle.grammar.specs.Answering.Answer.{the_rule}
use Rattle.grammar.specs.Answering.{Answering}
use Rattle.grammar.specs.Reading.{answer_of, first_list, wrong_in}
use Rattle.grammar.specs.Reading.Verdict.{right, wrong}
use Rattle.grammar.proofs.Listings.{answers_all, only_all}
use Rattle.grammar.proofs.Rereading.{reread}
use Rattle.grammar.proofs.Trees.{known_labelled, parts_form, parts_tree}
use Rattle.rule.specs.Answers.{Keeps, answered}
use Rattle.reading.specs.Holding.{parts_in}
use Rattle.names.specs.Lists.{entry_of}
use Rattle.reading.specs.Refusing.{refused}
use Rattle.names.specs.declared.faults.NamesFault.{NamesFault}
use Rattle.reading.specs.declared.faults.RuleFault.{RuleFault}
use Rattle.reading.specs.declared.faults.RuleFault.TheVariants as faults
use Rattle.reading.specs.declared.part.Part.{Part}
use Rattle.fixed_vec.specs.declared.FixedVec.{FixedVec}
use Rattle.rule.specs.declared.rule.Rule.{Rule}

-- the answer that is the one of the definition
pub record Told (names : List (List ℕ)) (text : List ℕ) (a : Answer) : Type 0 where
  pub grammar : Answering names text a
  pub only : (b : Answer) → Answering names text b → a ≡ b
  pub answer : a ≡ answer_of names text

pub told : (names : List (List ℕ)) (text : List ℕ) (a : Answer) → a ≡ answer_of names text → Told names text a
told names text a e = record {
  grammar = subst (Answering names text) (sym e) (answers_all names text);
  only = λ b h. e ∙ only_all names text h;
  answer = e;
}

-- the exit of a `?`
pub exit_told : (names : List (List ℕ)) (text : List ℕ) (r : Result Rule RuleFault) (e : RuleFault) → (y : RuleFault) × (r ≡ Err y) × (y ≡ e) → answer_of names text ≡ refused e → Told names text (answered r) × Keeps names r
exit_told names text r e p h =
    let is : r ≡ Err e = p.1 ∙ ap Err p.2 in
    (told names text (answered r) (ap answered is ∙ sym h), subst (Keeps names) (sym is) tt)

pub names_fault : (names : List (List ℕ)) (text : List ℕ) (e : NamesFault) → wrong_in names ≡ wrong (entry_of e) → answer_of names text ≡ refused (faults.Names e)
names_fault names text e h = ap (λ v. first_list v (read_of names text)) h

pub text_fault : (names kept : List (List ℕ)) (text : List ℕ) (e : RuleFault) → wrong_in names ≡ right → kept ≡ names → read_of kept text ≡ refused e → answer_of names text ≡ refused e
text_fault names kept text e g k h = ap (λ v. first_list v (read_of names text)) g ∙ ap (λ n. read_of n text) (sym k) ∙ h

-- the parts of an accepted text make a rule
module _ (names kept : List (List ℕ)) (text : List ℕ) (v : FixedVec Part 64) (g : wrong_in names ≡ right) (k : kept ≡ names) (h : (f : Form ℕ) × ((read_of kept text ≡ the_rule f) × (parts_in v ≡ parts f))) where
  pub parts_answer : answer_of names text ≡ the_rule h.0
  parts_answer = ap (λ x. first_list x (read_of names text)) g ∙ ap (λ n. read_of n text) (sym k) ∙ h.1.0

  pub parts_shape : is_tree (parts_in v) ≡ true
  parts_shape = ap is_tree h.1.1 ∙ parts_tree h.0

  pub parts_known : labelled (length kept) (parts_in v) ≡ true
  parts_known =
      (λ i. labelled (length (k i)) (h.1.1 i))
      ∙ known_labelled names h.0 (reread names text h.0 parts_answer).0.1

  pub parts_rule : the_rule (form_of (parts_in v)) ≡ answer_of names text
  parts_rule = ap the_rule (ap form_of h.1.1 ∙ parts_form h.0) ∙ sym parts_answer
