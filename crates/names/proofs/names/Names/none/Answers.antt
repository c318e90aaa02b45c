use Rattle.std.proofs.Common.{ap}
use Rattle.grammar.specs.Reading.{wrong_in}
use Rattle.names.specs.Naming.{is_right, names_in}
use Rattle.names.proofs.names.Names.none.Goals as goal

pub invariant_of-result : goal.invariant_of-result
unfolding wrong_in
invariant_of-result c = record { fine = ap (λ es. is_right (wrong_in (names_in es))) c.new.ensures }
