-- A row of seats: its states by their seats, and how one seat changes.
use Rattle.std.specs.Prelude.{ℕ, zero, suc, ◌+◌, ◌*◌, ◌/◌, ◌%◌, ◌^◌, Bool, true, false, cond, ◌&&◌, ◌||◌, List, [], ◌∷◌, ◌++◌, map, ◌==◌, nat_le, nat_lt}
use Rattle.flow.specs.declared.seat.Seat.{Seat}
use Rattle.flow.specs.declared.seat.Seat.TheVariants.{Free, Held, Sold}
use Rattle.flow.specs.Meaning.{Meaning}

-- a seat by its base-3 digit, and the digit of a seat
abbrev pub seat_of : ℕ → Seat
seat_of d = cond (d == 0) Free (cond (d == 1) Held Sold)

abbrev pub digit_of : Seat → ℕ
digit_of Free = 0
digit_of Held = 1
digit_of Sold = 2

-- the k seats of state s, seat 0 first: seat i is base-3 digit i of s, from the lowest
abbrev pub seats_of : ℕ → ℕ → List Seat
seats_of zero s = []
seats_of (suc k) s = seat_of (s % 3) ∷ seats_of k (s / 3)

-- the state that has these seats
abbrev pub state_of : List Seat → ℕ
state_of [] = 0
state_of (x ∷ xs) = digit_of x + 3 * state_of xs

-- what a seat can become: a free one held; a held one free or, as a second entry, sold
abbrev pub becomes : Seat → List Seat
becomes Free = Held ∷ []
becomes Held = Free ∷ Sold ∷ []
becomes Sold = []

-- the rows in which one seat has become another, by seat from 0 up
abbrev pub changed : List Seat → List (List Seat)
changed [] = []
changed (x ∷ xs) = map (λ y. y ∷ xs) (becomes x) ++ map (λ ys. x ∷ ys) (changed xs)

-- a row in which no seat can change, all sold, has itself
abbrev pub or_itself : List Seat → List (List Seat) → List (List Seat)
or_itself xs [] = xs ∷ []
or_itself xs (y ∷ ys) = y ∷ ys

abbrev pub row_nexts : List Seat → List ℕ
row_nexts xs = map state_of (or_itself xs (changed xs))

abbrev pub same : Seat → Seat → Bool
same x y = digit_of x == digit_of y

abbrev pub some_seat : Seat → List Seat → Bool
some_seat x [] = false
some_seat x (y ∷ ys) = same x y || some_seat x ys

abbrev pub all_seats : Seat → List Seat → Bool
all_seats x [] = true
all_seats x (y ∷ ys) = same x y && all_seats x ys

-- label 0: some seat free; 1: some seat held; 2: all sold
abbrev pub row_label : ℕ → List Seat → Bool
row_label l xs =
    cond (l == 0) (some_seat Free xs) (cond (l == 1) (some_seat Held xs) (l == 2 && all_seats Sold xs))

-- the row of k seats, whose start is state 0
abbrev pub row_meaning : ℕ → Meaning
row_meaning k =
    record {
      count = 3 ^ k;
      nexts = λ s. cond (nat_lt s (3 ^ k)) (row_nexts (seats_of k s)) [];
      start = λ s. (s == 0);
      label = λ l s. nat_lt s (3 ^ k) && row_label l (seats_of k s);
    }

-- a row has 1 to 6 seats
abbrev pub row_size : ℕ → Bool
row_size k = nat_le 1 k && nat_le k 6
