use Rattle.std.proofs.Common.{map}
use Rattle.std.specs.Fmt.{HasWritten, IsPlainFormatter}
use Rattle.chart.specs.Chart.{lines_from}
use Rattle.chart.proofs.NamedFlowDisplay.fmt.Given as goal

abbrev pub invariant-loop-s : goal.invariant-loop-s
invariant-loop-s g l =
    let names = map (λ x. x.now) l.self.names.now in
    IsPlainFormatter l.initial.f
    → HasWritten g.W.Write.write_str_gives l.initial.f (lines_from (g.F.Flow.meaning l.self.flow.now) names 0 l.s) l.f
