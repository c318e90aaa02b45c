use Rattle.std.proofs.Common.{ℕ, ◌≤◌, true, false, cond, rules, ◌∙◌, arith}
use Rattle.flow.specs.Meaning.{Meaning}
use Rattle.std.specs.List.{range_with_len}
use Rattle.std.proofs.lemmas.Iterator.{YieldsList-from_range, YieldsList-from_map}
use Rattle.std.proofs.lemmas.Iterator.Consumers.{YieldsList-at, sum_by_from_yields_List, fits_by_from_yields_list}
use Rattle.chart.specs.Counts.{start_at}
use Rattle.chart.proofs.Adding.{sum_range, sum_most}
use Rattle.chart.proofs.sums.starts.Goals as goal

once : (m : Meaning) (s : ℕ) → start_at m s ≤ 1
once m s = elim (m.start s) as (λ b. cond b 1 0 ≤ 1) [ true ↦ omega arith | false ↦ omega arith ]

pub sum-requires-clause-fits : goal.sum-requires-clause-fits
sum-requires-clause-fits g c =
    let m = g.F.Flow.meaning c.args.flow.now in
    let limits = g.F.Flow.limits c.args.flow.now in
    fits_by_from_yields_list (start_at m) (range_with_len 0 m.count) c.map.result _
    (YieldsList-from_map _ (start_at m) (YieldsList-at c.map.ensures.source (YieldsList-from_range 0 c.count.result m.count (search rules) (search rules))) c.map.ensures.closure (λ x r q e. search rules))
    (omega (arith, sum_range (start_at m) 0 m.count, sum_most (start_at m) 1 (once m) 0 m.count, limits.few_states))

pub returns : goal.returns
returns g c =
    let m = g.F.Flow.meaning c.args.flow.now in
    sum_by_from_yields_List (start_at m) (range_with_len 0 m.count) c.map.result c.sum.result c.sum.ensures.ran
    (YieldsList-from_map _ (start_at m) (YieldsList-at c.map.ensures.source (YieldsList-from_range 0 c.count.result m.count (search rules) (search rules))) c.map.ensures.closure (λ x r q e. search rules))
    ∙ sum_range (start_at m) 0 m.count
