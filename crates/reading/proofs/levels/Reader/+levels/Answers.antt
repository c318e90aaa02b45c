use Rattle.std.proofs.Common.{rules, ap, sym, ◌∙◌, ◌∷◌, []}
use Rattle.grammar.specs.Forms.Form.{yes_form, no_form, leaf}
use Rattle.grammar.specs.Machine.{needs_more}
use Rattle.words.specs.Wording.{wording}
use Rattle.reading.proofs.Phrases.{took_amp, took_bar, took_arrow, and_more, or_more, rule_more, atom_leaf, atom_round, atom_until, unary_before}
use Rattle.reading.proofs.levels.Reader.+levels.Goals as goal

pub read_and-loop-kind-preserved : goal.read_and-loop-kind-preserved
read_and-loop-kind-preserved t c =
    and_more _ _ _ _ _ _ _ c.of.ensures c.push.ensures c.loop-kind.invariant (took_amp _ _ _ (rw c.in-Some.is at c.in_ok-kind.ensures)) c.in_ok-read_unary-2.ensures

pub read_atom-returns-in-True : goal.read_atom-returns-in-True
read_atom-returns-in-True t c =
    atom_leaf _ _ _ _ yes_form _ (λ s. ap (needs_more s) (ap wording c.in-True.is)) (ap (λ x. x ∷ []) (sym c.of.ensures)) c.push.ensures

pub read_atom-returns-in-False : goal.read_atom-returns-in-False
read_atom-returns-in-False t c =
    atom_leaf _ _ _ _ no_form _ (λ s. ap (needs_more s) (ap wording c.in-False.is)) (ap (λ x. x ∷ []) (sym c.of-in-False.ensures)) c.push-in-False.ensures

pub read_atom-returns-in-Name : goal.read_atom-returns-in-Name
read_atom-returns-in-Name t c =
    atom_leaf _ _ _ _ (leaf c.in-Name.name.now) _ (λ s. ap (needs_more s) (ap wording c.in-Name.is)) c.named.ensures c.push-in-Name.ensures

pub read_atom-returns-in_ok-read_rule-in-Open : goal.read_atom-returns-in_ok-read_rule-in-Open
read_atom-returns-in_ok-read_rule-in-Open t c =
    atom_round _ _ _ _ _ c.expect.result (ap wording c.in-Open.is) c.in_ok-read_rule-in-Open.ensures c.expect.ensures

-- what the operand is, the search finds among the facts, and no step of the code is named for it
pub read_or-loop-kind-preserved : goal.read_or-loop-kind-preserved
read_or-loop-kind-preserved t c = record {
  phrase =
      or_more _ _ _ _ _ _ _ c.of.ensures c.push.ensures c.loop-kind.invariant.phrase (took_bar _ _ _ (rw c.in-Some.is at c.in_ok-kind.ensures)) (search rules);
  no_amp = search rules;
}

pub read_rule-returns-in_ok-read_rule : goal.read_rule-returns-in_ok-read_rule
read_rule-returns-in_ok-read_rule t c =
    rule_more _ _ _ _ _ _ _ c.of.ensures c.push.ensures c.in_ok-read_or.ensures.phrase (took_arrow _ _ _ (rw c.in-Some.is at c.in_ok-kind.ensures)) c.in_ok-read_rule.ensures

pub read_unary-returns : goal.read_unary-returns
read_unary-returns t c = unary_before _ _ _ _ c.in_ok-seen.seen _ _ c.in_ok-seen.ensures c.in-Some.ensures c.in_ok-read_unary.ensures c.of.ensures c.push.ensures

pub read_until-returns : goal.read_until-returns
read_until-returns t c = λ q e.
    atom_until q _ _ _ _ _ _ _ _ c.in_ok-expect.ensures c.in_ok-read_rule.ensures c.in_ok-expect-2.ensures c.in_ok-read_rule-2.ensures _ (c.of.ensures ∙ e) c.in_ok-expect-3.ensures c.push.ensures
