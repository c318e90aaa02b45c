use Rattle.std.proofs.Common.{◌≡◌, ℕ, map, rules, subst, arith}
use Rattle.std.specs.Fmt.{HasWritten}
use Rattle.std.proofs.Output.{has_written_append, has_written_of_eq}
use Rattle.chart.specs.Chart.{label_words}
use Rattle.chart.proofs.Texts.{labels_more}
use Rattle.chart.proofs.NamedFlow.write_labels.Goals as goal

pub loop-l-preserved : goal.loop-l-preserved
loop-l-preserved g c =
    λ plain.
    has_written_of_eq _ _ _ _ _ (labels_more (g.F.Flow.meaning c.args.self.now.flow.now) _ c.args.s c.loop-l.l)
    (has_written_append _ _ _ _ _ _ (c.loop-l.invariant plain) (search rules))

pub returns : goal.returns
returns g c =
    λ plain ok.
    let all : c.loop-l.l ≡ 32 = omega arith in
    subst (λ (n : ℕ). HasWritten g.W.Write.write_str_gives c.args.f.now (label_words (g.F.Flow.meaning c.args.self.now.flow.now) (map (λ x. x.now) c.args.self.now.names.now) c.args.s 0 n) c.loop-l.f)
    all (c.loop-l.invariant plain)
