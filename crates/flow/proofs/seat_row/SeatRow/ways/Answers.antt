use Rattle.std.proofs.Common.{rules, ◌∙◌, arith}
use Rattle.std.proofs.lemmas.Iterator.{YieldsList-from_map}
use Rattle.std.proofs.lemmas.Iterator.Consumers.{YieldsList-at, sum_by_from_yields_List, fits_by_from_yields_list}
use Rattle.flow.specs.Seats.{seats_of}
use Rattle.flow.specs.SeatLimits.{few_changed, length_seats}
use Rattle.flow.proofs.SeatChains.{gives}
use Rattle.flow.proofs.SeatWalk.{ways, sum_ways}
use Rattle.flow.proofs.seat_row.SeatRow.ways.Goals as goal

pub sum-requires-clause-fits : goal.sum-requires-clause-fits
sum-requires-clause-fits c =
    let k = c.args.self.now.seats in
    let xs = seats_of k c.args.s in
    fits_by_from_yields_list ways xs c.map.result _
    (YieldsList-from_map _ ways (YieldsList-at c.map.ensures.source (gives xs (search rules))) c.map.ensures.closure (λ x r q e. search rules))
    (omega (arith, sum_ways xs, few_changed xs, length_seats k c.args.s))

pub returns : goal.returns
returns c =
    let xs = seats_of c.args.self.now.seats c.args.s in
    sum_by_from_yields_List ways xs c.map.result c.sum.result c.sum.ensures.ran
    (YieldsList-from_map _ ways (YieldsList-at c.map.ensures.source (gives xs (search rules))) c.map.ensures.closure (λ x r q e. search rules))
    ∙ sum_ways xs
