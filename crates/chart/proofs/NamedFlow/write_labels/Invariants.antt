use Rattle.std.proofs.Common.{map}
use Rattle.std.specs.Fmt.{HasWritten, IsPlainFormatter}
use Rattle.chart.specs.Chart.{label_words}
use Rattle.chart.proofs.NamedFlow.write_labels.Given as goal

abbrev pub invariant-loop-l : goal.invariant-loop-l
invariant-loop-l g l =
    let names = map (λ x. x.now) l.self.names.now in
    IsPlainFormatter l.initial.f
    → HasWritten g.W.Write.write_str_gives l.initial.f (label_words (g.F.Flow.meaning l.self.flow.now) names l.s 0 l.l) l.f
