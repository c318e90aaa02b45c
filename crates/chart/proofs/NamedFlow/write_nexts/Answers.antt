use Rattle.std.proofs.Common.{rules, arith}
use Rattle.std.proofs.Output.{has_written_append, has_written_of_eq}
use Rattle.chart.proofs.Texts.{nexts_more}
use Rattle.chart.proofs.NamedFlow.write_nexts.Goals as goal

pub loop-k-preserved : goal.loop-k-preserved
loop-k-preserved g c =
    λ plain.
    has_written_of_eq _ _ _ _ _ (nexts_more ((g.F.Flow.meaning c.args.self.now.flow.now).nexts c.args.s) c.loop-k.k (omega arith))
    (has_written_append _ _ _ _ _ _ (c.loop-k.invariant plain) (search rules))
