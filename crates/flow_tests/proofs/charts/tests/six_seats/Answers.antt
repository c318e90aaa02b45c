use Rattle.std.proofs.Common.{arith, inl}
use Rattle.flow_tests.proofs.charts.tests.six_seats.Goals as goal

pub count-requires-clause-fits : goal.count-requires-clause-fits
count-requires-clause-fits g c = inl (omega arith)
