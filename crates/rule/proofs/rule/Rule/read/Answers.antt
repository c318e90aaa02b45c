use Rattle.std.proofs.lemmas.Result.{err_from_is_err_and}
use Rattle.names.specs.Lists.{names_of}
use Rattle.names.specs.Naming.{spellings}
use Rattle.grammar.proofs.Laws.{laws}
use Rattle.rule.proofs.Answered.{told, exit_told, names_fault, text_fault, parts_shape, parts_known, parts_rule}
use Rattle.rule.proofs.rule.Rule.read.Goals as goal

pub returns-in_err-list : goal.returns-in_err-list
returns-in_err-list c =
    let x = exit_told (spellings c.args.names.now) c.args.text.now _ _ (err_from_is_err_and c.from_residual.result c.from_residual.ensures.1) (names_fault _ _ c.in_err-list.field-0.0 c.in_err-list.ensures) in
    record { grammar = x.0.grammar; only = x.0.only; answer = x.0.answer; laws = laws; names = x.1 }

pub returns-in_err-parts : goal.returns-in_err-parts
returns-in_err-parts c =
    let l = c.in_ok-list.ensures in
    let x = exit_told (spellings c.args.names.now) c.args.text.now _ _ (err_from_is_err_and c.from_residual-in_err-parts.result c.from_residual-in_err-parts.ensures.1)
    (text_fault _ (names_of c.in_ok-list.list) _ c.in_err-parts.field-0.0 l.0 l.1 c.in_err-parts.ensures) in
    record { grammar = x.0.grammar; only = x.0.only; answer = x.0.answer; laws = laws; names = x.1 }

pub invariant_of-result : goal.invariant_of-result
invariant_of-result c =
    let l = c.in_ok-list.ensures in
    let h = c.in_ok-parts.ensures in
    record {
      shape = parts_shape _ _ _ c.in_ok-parts.parts l.0 l.1 h;
      known = parts_known _ _ _ c.in_ok-parts.parts l.0 l.1 h;
    }

pub returns : goal.returns
returns c =
    let l = c.in_ok-list.ensures in
    let x = told _ _ _ (parts_rule _ _ _ c.in_ok-parts.parts l.0 l.1 c.in_ok-parts.ensures) in
    record { grammar = x.grammar; only = x.only; answer = x.answer; laws = laws; names = l.1 }
