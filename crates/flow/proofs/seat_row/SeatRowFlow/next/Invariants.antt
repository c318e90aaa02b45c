use Rattle.std.proofs.Common.{length}
use Rattle.flow.specs.Seats.{seats_of}
use Rattle.flow.proofs.SeatWalk.{Walk}
use Rattle.flow.proofs.seat_row.SeatRowFlow.next.Given as goal

abbrev pub invariant-loop-seat : goal.invariant-loop-seat
invariant-loop-seat l =
    Walk (seats_of l.self.seats l.s) l.s l.k l.weight (seats_of l.seat-iterator.left l.seat-iterator.state) l.left

abbrev pub decreases-loop-seat : goal.decreases-loop-seat
decreases-loop-seat l = length (seats_of l.seat-iterator.left l.seat-iterator.state)
