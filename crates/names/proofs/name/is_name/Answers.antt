use Rattle.std.proofs.Common.{sym, arith, rules}
use Rattle.grammar.proofs.Listings.{short_run_name, is_a_name}
use Rattle.names.proofs.name.is_name.Goals as goal

pub returns-then-past_run-bytes-clause-value : goal.returns-then-past_run-bytes-clause-value
returns-then-past_run-bytes-clause-value c = short_run_name c.args.bytes.now (omega arith) (omega (arith, c.past_run.ensures.whole))

pub returns-in-Name-clause-value : goal.returns-in-Name-clause-value
returns-in-Name-clause-value c =
    is_a_name c.args.bytes.now _ (search rules) (omega arith) c.if-not-is_letter.ensures (omega (arith, c.past_run.ensures.whole)) (sym c.in-Name.ensures)
