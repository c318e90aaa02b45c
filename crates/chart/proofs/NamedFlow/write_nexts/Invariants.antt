use Rattle.std.proofs.Common.{take}
use Rattle.std.specs.Fmt.{HasWritten, IsPlainFormatter}
use Rattle.chart.specs.Chart.{next_words}
use Rattle.chart.proofs.NamedFlow.write_nexts.Given as goal

abbrev pub invariant-loop-k : goal.invariant-loop-k
invariant-loop-k g l =
    IsPlainFormatter l.initial.f
    → HasWritten g.W.Write.write_str_gives l.initial.f (next_words (take l.k ((g.F.Flow.meaning l.self.flow.now).nexts l.s))) l.f
