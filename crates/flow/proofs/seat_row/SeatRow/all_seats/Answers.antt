use Rattle.std.proofs.Common.{rules}
use Rattle.std.proofs.lemmas.Iterator.Search.{all_from_yields_List}
use Rattle.flow.specs.Seats.{same}
use Rattle.flow.proofs.SeatChains.{gives, is_same}
use Rattle.flow.proofs.seat_row.SeatRow.all_seats.Goals as goal

pub returns : goal.returns
returns c =
    all_from_yields_List (λ x. same c.args.seat x) _ _ _ c.all.ensures.ran
    (gives _ (search rules)) (λ x b q k. (search rules, is_same c.args.seat x b (search rules)))
