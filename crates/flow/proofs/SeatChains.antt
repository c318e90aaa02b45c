-- Chains over the seats of a state.
use Rattle.std.proofs.Common.{◌≡◌, Bool, List}
use Rattle.std.specs.Iterator.{YieldsFirstBy}
use Rattle.std.proofs.lemmas.Iterator.{YieldsList}
use Rattle.std.proofs.lemmas.Iterator.Consumers.{YieldsList-from_first}
use Rattle.flow.specs.contracts.seat.Seat.{the_type}
use denote.Enum.Bare.{sameb}
use Rattle.flow.specs.declared.seat.Seat.{Seat}
use Rattle.flow.specs.declared.seat.Seat.TheVariants.{Free, Held, Sold}
use Rattle.flow.specs.declared.seats.Seats.{Seats}
use Rattle.flow.specs.Seats as seats

-- the seats that the iterator gives
pub gives : {d : Seats} (xs : List Seat) → seats.seats_of d.left d.state ≡ xs → YieldsList (YieldsFirstBy (λ x. x) (λ (d : Seats). seats.seats_of d.left d.state)) (λ x. x) d xs
gives xs e = YieldsList-from_first (λ x. x) (λ (d : Seats). seats.seats_of d.left d.state) xs e

-- the derived `==`
pub is_same : (x y : Seat) (b : Bool) → b ≡ sameb the_type y x → b ≡ seats.same x y
is_same Free Free b e = e
is_same Free Held b e = e
is_same Free Sold b e = e
is_same Held Free b e = e
is_same Held Held b e = e
is_same Held Sold b e = e
is_same Sold Free b e = e
is_same Sold Held b e = e
is_same Sold Sold b e = e
