-- A walk over the seats of a state, from seat 0 up.
use Rattle.std.proofs.Common.{◌≡◌, ℕ, zero, suc, ◌+◌, ◌-◌, ◌*◌, ◌/◌, ◌%◌, ◌^◌, ◌<◌, ◌≤◌, false, not, ◌&&◌, List, [], ◌∷◌, ◌++◌, map, length, get_or, slice_index, sum_by, sym, subst, refl, ap, ◌∙◌, ap₂, not-suc-le-zero, mod-lt, mul_assoc, mul_comm, mul-add, mul-le-mul_left, pow-suc, div-one, arith, lit≤, length-append}
use mathlib.Core.List.{map-map}
use native.Mathlib.Nat.{div-div-eq-div-mul}
use Rattle.std.proofs.lemmas.List.{map-append, length-map, get_or_past, get_or_append_left, get_or-append_right, get_or-map}
use Rattle.std.proofs.lemmas.List.Sums.{sum_by-cons}
use Rattle.std.proofs.lemmas.Bool.{and_right}
use Rattle.flow.specs.declared.seat.Seat.{Seat}
use Rattle.flow.specs.declared.seat.Seat.TheVariants.{Free, Held, Sold}
use Rattle.flow.specs.SeatLimits.{nexts_in, power_some, power_few, length_seats, digit_small}
use Rattle.flow.specs.Seats.{seat_of, digit_of, seats_of, state_of, becomes, changed, or_itself, row_meaning, some_seat, all_seats}

-- in how many ways a seat can change
abbrev pub ways : Seat → ℕ
ways x = length (becomes x)

length_changed : (x : Seat) (xs : List Seat) → length (changed (x ∷ xs)) ≡ ways x + length (changed xs)
length_changed x xs = simp (length-append, length-map)

-- as many changes as the seats have together
pub sum_ways : (xs : List Seat) → sum_by ways xs ≡ length (changed xs)
sum_ways [] = refl
sum_ways (x ∷ xs) = omega (arith, sum_by-cons ways x xs, length_changed x xs, sum_ways xs)

-- a digit makes a seat that has it
digit_seat : (d : ℕ) → d < 3 → digit_of (seat_of d) ≡ d
digit_seat zero h = refl
digit_seat (suc zero) h = refl
digit_seat (suc (suc zero)) h = refl
digit_seat (suc (suc (suc d))) h = absurd (omega arith)

pub seat_digit : (x : Seat) → seat_of (digit_of x) ≡ x
seat_digit Free = refl
seat_digit Held = refl
seat_digit Sold = refl

-- seat i of a state is that of its base-3 digit i
pub seat_at : (k s i : ℕ) → i < k → get_or (seats_of k s) i Sold ≡ seat_of ((s / 3 ^ i) % 3)
seat_at zero s i h = absurd (omega arith)
seat_at (suc k) s zero h = ap (λ (n : ℕ). seat_of (n % 3)) (sym (div-one s))
seat_at (suc k) s (suc i) h =
    let more : 3 * 3 ^ i ≡ 3 ^ suc i = mul_comm 3 (3 ^ i) ∙ sym (pow-suc 3 i) in
    seat_at k (s / 3) i (omega arith) ∙ ap (λ (n : ℕ). seat_of (n % 3)) (div-div-eq-div-mul s 3 (3 ^ i) ∙ ap (λ (n : ℕ). s / n) more)

-- a state is the state that has its seats
state_seats : (k s : ℕ) → s < 3 ^ k → state_of (seats_of k s) ≡ s
state_seats zero s h = omega arith
state_seats (suc k) s h =
    let p = pow-suc 3 k in
    omega (arith, digit_seat (s % 3) (mod-lt s (lit≤ tt)), state_seats k (s / 3) (omega arith))

-- the state of seats that begin where a seat counts w, with `low` for the seats below them
abbrev above : ℕ → ℕ → List Seat → ℕ
above low w ys = low + w * state_of ys

-- a walk over the seats xs of s that looks for their j-th change: it has the seats ys before it, of which the first
-- counts w, and the change is the one that stands `left` further on in what they give
pub record Walk (xs : List Seat) (s j w : ℕ) (ys : List Seat) (left : ℕ) : Type 0 where
  pub few : length xs ≤ 6
  pub weight : w * 3 ^ length ys ≡ 3 ^ length xs
  pub within : w * state_of ys ≤ s
  pub entry : get_or (map state_of (changed xs)) j 0 ≡ get_or (map (above (s - w * state_of ys) w) (changed ys)) left 0
  pub count : length (changed xs) + left ≡ j + length (changed ys)

pub walk_begins : (k s j : ℕ) → k ≤ 6 → s < 3 ^ k → Walk (seats_of k s) s j 1 (seats_of k s) j
walk_begins k s j f b =
    let xs = seats_of k s in
    let all = state_seats k s b in
    let same : (ys : List Seat) → state_of ys ≡ above (s - 1 * state_of xs) 1 ys = λ ys. omega arith in
    record {
      few = omega (arith, length_seats k s);
      weight = omega arith;
      within = omega arith;
      entry = λ i. get_or (map (λ (ys : List Seat). same ys i) (changed xs)) j 0;
      count = omega arith;
    }

-- what the seats from one on count
parts : (w : ℕ) (x : Seat) (ys : List Seat) → w * state_of (x ∷ ys) ≡ w * digit_of x + (w * 3) * state_of ys
parts w x ys = omega (arith, mul-add w (digit_of x) (3 * state_of ys), mul_assoc w 3 (state_of ys))

-- one turn of the walk, at the seat x
module _ {xs : List Seat} {s j w left : ℕ} {x : Seat} {ys zs : List Seat} (e : zs ≡ x ∷ ys) (u : Walk xs s j w zs left) where
  v : Walk xs s j w (x ∷ ys) left
  v = subst (λ (zs : List Seat). Walk xs s j w zs left) e u

  next_weight : (w * 3) * 3 ^ length ys ≡ 3 ^ length xs
  next_weight = mul_assoc w 3 (3 ^ length ys) ∙ ap (λ (m : ℕ). w * m) (mul_comm 3 (3 ^ length ys) ∙ sym (pow-suc 3 (length ys))) ∙ v.weight

  pub weight_fits : w * 3 ≤ 1024
  weight_fits = omega (arith, next_weight, mul-le-mul_left (w * 3) (power_some (length ys)), power_few (length xs) v.few)

  pub new_fits : (y : Seat) → w * digit_of y ≤ 1024
  new_fits y = omega (arith, weight_fits, mul-le-mul_left w (digit_small y))

  pub digit_fits : w * digit_of x ≤ s
  digit_fits = omega (arith, v.within, parts w x ys)

  -- the state with y for x
  abbrev pub with : Seat → ℕ
  with y = s - w * digit_of x + w * digit_of y

  turn : map (above (s - w * state_of (x ∷ ys)) w) (changed (x ∷ ys)) ≡ map with (becomes x) ++ map (above (s - (w * 3) * state_of ys) (w * 3)) (changed ys)
  turn =
      let low = s - w * state_of (x ∷ ys) in
      let here : (y : Seat) → above low w (y ∷ ys) ≡ with y = λ y. omega (arith, v.within, parts w x ys, parts w y ys) in
      let more : (zs : List Seat) → above low w (x ∷ zs) ≡ above (s - (w * 3) * state_of ys) (w * 3) zs = λ zs. omega (arith, v.within, parts w x ys, parts w x zs) in
      map-append (above low w) (map (λ (y : Seat). y ∷ ys) (becomes x)) (map (λ (zs : List Seat). x ∷ zs) (changed ys))
      ∙ ap₂ ◌++◌
      (map-map (above low w) (λ (y : Seat). y ∷ ys) (becomes x) ∙ (λ i. map (λ (y : Seat). here y i) (becomes x)))
      (map-map (above low w) (λ (zs : List Seat). x ∷ zs) (changed ys) ∙ (λ i. map (λ (zs : List Seat). more zs i) (changed ys)))

  pub change_within : left < ways x → j < length (changed xs)
  change_within h = omega (arith, v.count, length_changed x ys)

  pub change_here : left < ways x → get_or (map state_of (changed xs)) j 0 ≡ with (get_or (becomes x) left x)
  change_here h =
      v.entry
      ∙ ap (λ (ns : List ℕ). get_or ns left 0) turn
      ∙ get_or_append_left (map with (becomes x)) (map (above (s - (w * 3) * state_of ys) (w * 3)) (changed ys)) 0 left (simp length-map h)
      ∙ get_or-map with (becomes x) left x 0 h

  pub change_later : (n : ℕ) → n ≡ ways x → n ≤ left → Walk xs s j (w * 3) ys (left - n)
  change_later n a h =
      record {
        few = v.few;
        weight = next_weight;
        within = omega (arith, v.within, parts w x ys);
        entry =
            v.entry
            ∙ ap (λ (ns : List ℕ). get_or ns left 0) turn
            ∙ get_or-append_right (map with (becomes x)) (map (above (s - (w * 3) * state_of ys) (w * 3)) (changed ys)) n left 0 (simp length-map (sym a)) h;
        count = omega (arith, v.count, length_changed x ys);
      }

-- the two cases of a row that has itself where no seat can change
or_some : (xs : List Seat) (yss : List (List Seat)) → 0 < length yss → or_itself xs yss ≡ yss
or_some xs [] h = absurd (not-suc-le-zero h)
or_some xs (ys ∷ yss) h = refl

or_none : (xs : List Seat) (yss : List (List Seat)) → length yss ≡ 0 → or_itself xs yss ≡ xs ∷ []
or_none xs [] e = refl
or_none xs (ys ∷ yss) e = absurd (omega (arith, e))

few_or : (xs : List Seat) (yss : List (List Seat)) (j : ℕ) → length yss ≤ j → 1 ≤ j → length (or_itself xs yss) ≤ j
few_or xs [] j h h' = h'
few_or xs (ys ∷ yss) j h h' = h

-- where some seat can change the next states are the changes, and else the state itself
module _ (k s : ℕ) (b : s < 3 ^ k) where
  pub nexts_changed : 0 < length (changed (seats_of k s)) → (row_meaning k).nexts s ≡ map state_of (changed (seats_of k s))
  nexts_changed h = nexts_in k s b ∙ ap (map state_of) (or_some (seats_of k s) (changed (seats_of k s)) h)

  pub nexts_itself : length (changed (seats_of k s)) ≡ 0 → (row_meaning k).nexts s ≡ s ∷ []
  nexts_itself e =
      nexts_in k s b
      ∙ ap (map state_of) (or_none (seats_of k s) (changed (seats_of k s)) e)
      ∙ ap (λ (n : ℕ). n ∷ []) (state_seats k s b)

module _ (k s j : ℕ) (b : s < 3 ^ k) where
  -- the j-th next state, where the seats have a j-th change
  pub next_changed : j < length (changed (seats_of k s)) → slice_index ((row_meaning k).nexts s) j ≡ slice_index (map state_of (changed (seats_of k s))) j
  next_changed h = ap (λ (ns : List ℕ). slice_index ns j) (nexts_changed k s b (omega arith))

  -- and where they have none, the first is the state itself
  module _ {w left : ℕ} {zs : List Seat} (e : zs ≡ []) (u : Walk (seats_of k s) s j w zs left) where
    none_left : length (changed (seats_of k s)) + left ≡ j
    none_left = let n = ap (λ (zs : List Seat). length (changed zs)) e in omega (arith, u.count)

    pub next_itself : j ≡ 0 → slice_index ((row_meaning k).nexts s) j ≡ s
    next_itself z = ap₂ slice_index (nexts_itself k s b (omega (arith, none_left))) z

    pub next_none : (j ≡ 0 → ⊥) → slice_index ((row_meaning k).nexts s) j ≡ 0
    next_none n =
        get_or_past ((row_meaning k).nexts s) j 0
        (simp (nexts_in k s b, length-map) (few_or (seats_of k s) (changed (seats_of k s)) j (omega (arith, none_left)) (omega (arith, n))))

-- all seats are sold where none is free and none held
pub all_sold : (xs : List Seat) → all_seats Sold xs ≡ (not (some_seat Free xs) && not (some_seat Held xs))
all_sold [] = refl
all_sold (Free ∷ xs) = refl
all_sold (Held ∷ xs) = sym (and_right (not (some_seat Free xs)) false refl)
all_sold (Sold ∷ xs) = all_sold xs
