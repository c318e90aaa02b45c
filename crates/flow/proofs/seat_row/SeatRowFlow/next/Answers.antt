use Rattle.std.proofs.Common.{rules, ◌<◌, length, sym, arith}
use Rattle.flow.specs.Seats.{becomes}
use Rattle.flow.specs.SeatLimits.{power_few}
use Rattle.flow.proofs.SeatWalk.{walk_begins, weight_fits, digit_fits, new_fits, change_within, change_here, change_later, next_changed, next_itself, next_none}
use Rattle.flow.proofs.seat_row.SeatRowFlow.next.Goals as goal

pub loop-seat-init : goal.loop-seat-init
loop-seat-init c =
    let start = walk_begins c.args.self.now.seats c.args.s c.args.k c.args.self.now.few (omega arith) in
    search rules

pub overflow_sub-result : goal.overflow_sub-result
overflow_sub-result c = rw c.digit.ensures (digit_fits c.in-Some.ensures.steps c.loop-seat.invariant)

pub overflow_mul-result-then-left-ways : goal.overflow_mul-result-then-left-ways
overflow_mul-result-then-left-ways c =
    rw c.digit-then-left-ways.ensures (let h = new_fits c.in-Some.ensures.steps c.loop-seat.invariant c.nth_change.result in omega arith)

pub overflow_add-result : goal.overflow_add-result
overflow_add-result c =
    rw c.digit-then-left-ways.ensures (let h = new_fits c.in-Some.ensures.steps c.loop-seat.invariant c.nth_change.result in omega (arith, power_few c.args.self.now.seats c.args.self.now.few))

pub returns-then-left-ways : goal.returns-then-left-ways
returns-then-left-ways c =
    let here : c.loop-seat.left < length (becomes c.in-Some.seat) = omega arith in
    let a = next_changed c.args.self.now.seats c.args.s c.args.k (omega arith) (change_within c.in-Some.ensures.steps c.loop-seat.invariant here) in
    let b = change_here c.in-Some.ensures.steps c.loop-seat.invariant here in
    cc

pub overflow_mul-weight : goal.overflow_mul-weight
overflow_mul-weight c =
    omega (arith, weight_fits c.in-Some.ensures.steps c.loop-seat.invariant)

pub loop-seat-preserved : goal.loop-seat-preserved
loop-seat-preserved c =
    change_later c.in-Some.ensures.steps c.loop-seat.invariant c.ways-ways.result c.ways-ways.ensures c.if-left-ways.false

pub returns-then-k-eq0 : goal.returns-then-k-eq0
returns-then-k-eq0 c =
    sym (next_itself c.args.self.now.seats c.args.s c.args.k (omega arith) c.in-None.ensures.steps.0 c.loop-seat.invariant c.if-k-eq0.true)

pub returns-else-k-eq0 : goal.returns-else-k-eq0
returns-else-k-eq0 c =
    sym (next_none c.args.self.now.seats c.args.s c.args.k (omega arith) c.in-None.ensures.steps.0 c.loop-seat.invariant c.if-k-eq0.false)
