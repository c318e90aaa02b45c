use Rattle.std.proofs.Common.{rules, ◌∙◌, arith}
use Rattle.std.specs.List.{range_with_len}
use Rattle.std.proofs.lemmas.Iterator.{YieldsList-from_range, YieldsList-from_map}
use Rattle.std.proofs.lemmas.Iterator.Consumers.{YieldsList-at, sum_by_from_yields_List, fits_by_from_yields_list}
use Rattle.chart.specs.Counts.{moves_at}
use Rattle.chart.proofs.Adding.{sum_range, sum_most}
use Rattle.chart.proofs.sums.moves.Goals as goal

pub sum-requires-clause-fits : goal.sum-requires-clause-fits
sum-requires-clause-fits g c =
    let m = g.F.Flow.meaning c.args.flow.now in
    let limits = g.F.Flow.limits c.args.flow.now in
    fits_by_from_yields_list (moves_at m) (range_with_len 0 m.count) c.map.result _
    (YieldsList-from_map _ (moves_at m) (YieldsList-at c.map.ensures.source (YieldsList-from_range 0 c.count.result m.count (search rules) (search rules))) c.map.ensures.closure (λ x r q e. search rules))
    (omega (arith, sum_range (moves_at m) 0 m.count, sum_most (moves_at m) 64 limits.few_nexts 0 m.count, limits.few_states))

pub returns : goal.returns
returns g c =
    let m = g.F.Flow.meaning c.args.flow.now in
    sum_by_from_yields_List (moves_at m) (range_with_len 0 m.count) c.map.result c.sum.result c.sum.ensures.ran
    (YieldsList-from_map _ (moves_at m) (YieldsList-at c.map.ensures.source (YieldsList-from_range 0 c.count.result m.count (search rules) (search rules))) c.map.ensures.closure (λ x r q e. search rules))
    ∙ sum_range (moves_at m) 0 m.count
