use Rattle.std.proofs.Common.{map, refl}
use Rattle.std.proofs.Output.{has_written_append, has_written_of_eq}
use Rattle.chart.proofs.Texts.{lines_more}
use Rattle.chart.proofs.NamedFlowDisplay.fmt.Goals as goal

pub loop-s-preserved : goal.loop-s-preserved
loop-s-preserved g c =
    λ plain.
    has_written_of_eq _ _ _ _ _ (lines_more (g.F.Flow.meaning c.args.self.now.flow.now) (map (λ x. x.now) c.args.self.now.names.now) c.loop-s.s)
    (has_written_append _ _ _ _ _ _ (c.loop-s.invariant plain) (c.in_ok-write_line.ensures (c.loop-s.invariant plain).plain refl))
