use Rattle.std.proofs.Common.{refl}
use Rattle.std.proofs.lemmas.Result.{err_from_is_err_and}
use Rattle.grammar.specs.Machine.Stack.{bottom}
use Rattle.reading.proofs.Wholes.{read_long, read_slip, read_fault_from, read_late_slip, read_stray, read_many, read_all}
use Rattle.reading.proofs.whole.read_parts.Goals as goal

pub returns-then-text-gt-LONGEST_TEXT : goal.returns-then-text-gt-LONGEST_TEXT
returns-then-text-gt-LONGEST_TEXT c = read_long _ _ c.if-text-gt-LONGEST_TEXT.true

pub returns-in_err-pass : goal.returns-in_err-pass
returns-in_err-pass c =
    let p = err_from_is_err_and c.from_residual.result c.from_residual.ensures.1 in rw (p.1, p.2)
    (read_slip _ _ _ c.if-text-gt-LONGEST_TEXT.false c.in_err-pass.ensures)

pub returns-in_err-read_rule : goal.returns-in_err-read_rule
returns-in_err-read_rule c =
    let p = err_from_is_err_and c.from_residual-in_err-read_rule.result c.from_residual-in_err-read_rule.ensures.1 in rw (p.1, p.2)
    (read_fault_from _ _ c.if-text-gt-LONGEST_TEXT.false c.in_ok-pass.ensures c.new.result c.in_err-read_rule.field-0.0 (cc) (c.in_err-read_rule.ensures bottom))

pub returns-in_err-seen : goal.returns-in_err-seen
returns-in_err-seen c =
    let p = err_from_is_err_and c.from_residual-in_err-seen.result c.from_residual-in_err-seen.ensures.1 in rw (p.1, p.2)
    (read_late_slip _ _ c.if-text-gt-LONGEST_TEXT.false c.in_ok-pass.ensures _ _ c.in_ok-read_rule.ensures refl (cc) _ c.in_err-seen.ensures)

pub returns-in-Some : goal.returns-in-Some
returns-in-Some c =
    read_stray _ _ c.if-text-gt-LONGEST_TEXT.false c.in_ok-pass.ensures _ _ c.in_ok-read_rule.ensures refl (cc) _ _ _
    (rw c.in-Some.is at c.in_ok-seen.ensures).0

pub returns-then-reader-gt-MOST_PARTS : goal.returns-then-reader-gt-MOST_PARTS
returns-then-reader-gt-MOST_PARTS c =
    read_many _ _ c.if-text-gt-LONGEST_TEXT.false c.in_ok-pass.ensures _ _ c.in_ok-read_rule.ensures refl (cc) _
    (rw c.in_default.is at c.in_ok-seen.ensures) c.none.ensures c.if-reader-gt-MOST_PARTS.true

pub returns : goal.returns
returns c =
    read_all _ _ c.if-text-gt-LONGEST_TEXT.false c.in_ok-pass.ensures _ _ c.in_ok-read_rule.ensures refl (cc) _
    (rw c.in_default.is at c.in_ok-seen.ensures) c.none.ensures c.if-reader-gt-MOST_PARTS.false
