-- What filling a table flow answers: the first of the faults, by rising number, or acceptance.
use Rattle.std.specs.Prelude.{ℕ, ◌+◌, Bool, cond, not, ◌&&◌, length, Some, None, Ok, Err, Option, Result, ◌==◌, nat_le, slice_index}
use Rattle.flow.specs.declared.faults.FillFault.{FillFault}
use Rattle.flow.specs.declared.faults.FillFault.TheVariants.{Sizes, Bounds, NoMove, Target, NoStart}
use Rattle.flow.specs.Lowest.{lowest}
use Rattle.flow.specs.Tables.{Tables, some_marked}

-- accepted, or refused with a fault
abbrev pub Answer : Type 0
Answer = Result (Unit {0}) FillFault

-- one check after another: the first refusal stands
abbrev pub then : Answer → Answer → Answer
then (Ok u) later = later
then (Err e) later = Err e

-- accepted where the test holds
abbrev pub holds : Bool → FillFault → Answer
holds b e = cond b (Ok tt) (Err e)

-- accepted where no place shows the fault, else refused at the lowest that does
abbrev pub nowhere : (ℕ → FillFault) → Option ℕ → Answer
nowhere fault None = Ok tt
nowhere fault (Some p) = Err (fault p)

-- 11: a label word for each of 1 to 1,024 states, a start byte for each, and one bound more
abbrev pub sizes : Tables → Answer
sizes t =
    holds
    (nat_le 1 (length t.labels)
    && (nat_le (length t.labels) 1024
    && (length t.starts == length t.labels && length t.bounds == length t.labels + 1)))
    Sizes

-- the bounds at s fall, or lie over 64 apart
abbrev pub bad_step : Tables → ℕ → Bool
bad_step t s =
    not (nat_le (slice_index t.bounds s) (slice_index t.bounds (s + 1)) && nat_le (slice_index t.bounds (s + 1)) (slice_index t.bounds s + 64))

-- 12: from 0; then neither falling nor over 64 apart; then ending at the count of moves
abbrev pub bounded : Tables → Answer
bounded t =
    let n = length t.labels in
    then (holds (slice_index t.bounds 0 == 0) (Bounds 0))
    (then (nowhere Bounds (lowest (bad_step t) n)) (holds (slice_index t.bounds n == length t.moves) (Bounds n)))

-- no move lies between the bounds of s
abbrev pub still : Tables → ℕ → Bool
still t s = slice_index t.bounds s == slice_index t.bounds (s + 1)

-- 13: no state without a move
abbrev pub moving : Tables → Answer
moving t = nowhere NoMove (lowest (still t) (length t.labels))

-- move i leads to a number that is no state
abbrev pub astray : Tables → ℕ → Bool
astray t i = nat_le (length t.labels) (slice_index t.moves i)

-- 14: no move leads astray
abbrev pub aimed : Tables → Answer
aimed t = nowhere Target (lowest (astray t) (length t.moves))

-- 15: some start
abbrev pub begun : Tables → Answer
begun t = holds (some_marked t) NoStart

-- the checks in their order
abbrev pub fill_answer : Tables → Answer
fill_answer t = then (sizes t) (then (bounded t) (then (moving t) (then (aimed t) (begun t))))
