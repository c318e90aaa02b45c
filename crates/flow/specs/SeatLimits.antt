-- A row of 1 to 6 seats means a flow that keeps its limits.
use Rattle.std.specs.Prelude.{◌≡◌, ℕ, zero, suc, ◌+◌, ◌*◌, ◌/◌, ◌^◌, ◌<◌, ◌≤◌, Bool, false, cond, List, [], ◌∷◌, map, length, nat_lt, slice_index, refl}
use Rattle.std.proofs.Common.{sym, ap, ⊎_elim, pow-suc, arith, lit≤, length-append}
use Rattle.std.proofs.Math.Nat.{one-le-pow, pow-le-pow_right}
use Rattle.std.proofs.lemmas.Bool.{both_ways, cases_lt, lt-ltb, le-ltb, ltb-true, ne_eqb, eqb-true, and_parts}
use Rattle.std.proofs.lemmas.List.{get_or_past, length-map}
use Rattle.flow.specs.declared.seat.Seat.{Seat}
use Rattle.flow.specs.declared.seat.Seat.TheVariants.{Free, Held, Sold}
use Rattle.flow.specs.Meaning.{Limits}
use Rattle.flow.specs.Seats.{digit_of, seats_of, state_of, becomes, changed, or_itself, row_nexts, row_label, row_meaning}

-- a digit is 0, 1 or 2
pub digit_small : (x : Seat) → digit_of x ≤ 2
digit_small Free = lit≤ tt
digit_small Held = lit≤ tt
digit_small Sold = lit≤ tt

-- a row of k seats, at most 6, has 1 to 1,024 states
pub power_some : (k : ℕ) → 1 ≤ 3 ^ k
power_some k = one-le-pow k 3 (lit≤ tt)

pub power_few : (k : ℕ) → k ≤ 6 → 3 ^ k ≤ 1024
power_few k h = let p : 3 ^ k ≤ 729 = pow-le-pow_right (lit≤ tt) h in omega arith

-- a row's state is one of the states of rows so long
state_below : (xs : List Seat) → state_of xs < 3 ^ length xs
state_below [] = lit≤ tt
state_below (x ∷ xs) = omega (arith, digit_small x, state_below xs, pow-suc 3 (length xs))

-- seats_of k gives k seats
pub length_seats : (k s : ℕ) → length (seats_of k s) ≡ k
length_seats zero s = refl
length_seats (suc k) s = ap suc (length_seats k (s / 3))

-- each of the rows has n seats
abbrev Long : ℕ → List (List Seat) → Type 0
Long n [] = Unit {0}
Long n (ys ∷ yss) = (length ys ≡ n) × Long n yss

-- one seat more in front of each
long_more : (n : ℕ) (x : Seat) (yss : List (List Seat)) → Long n yss → Long (suc n) (map (λ (ys : List Seat). x ∷ ys) yss)
long_more n x [] l = tt
long_more n x (ys ∷ yss) l = (ap suc l.0, long_more n x yss l.1)

-- a change keeps the number of seats
long_changed : (xs : List Seat) → Long (length xs) (changed xs)
long_changed [] = tt
long_changed (Free ∷ xs) = (refl, long_more (length xs) Free (changed xs) (long_changed xs))
long_changed (Held ∷ xs) = (refl, (refl, long_more (length xs) Held (changed xs) (long_changed xs)))
long_changed (Sold ∷ xs) = long_more (length xs) Sold (changed xs) (long_changed xs)

-- so does the row itself
long_itself : (xs : List Seat) (yss : List (List Seat)) → Long (length xs) yss → Long (length xs) (or_itself xs yss)
long_itself xs [] l = (refl, tt)
long_itself xs (ys ∷ yss) l = l

-- past the end of the list the entry is 0, which is a state too
long_below : (n j : ℕ) (yss : List (List Seat)) → Long n yss → slice_index (map state_of yss) j < 3 ^ n
long_below n j [] l = let e = get_or_past {X = ℕ} [] j 0 (omega arith) in omega (arith, e, power_some n)
long_below n zero (ys ∷ yss) l = let h = state_below ys in rw (sym l.0) h
long_below n (suc j) (ys ∷ yss) l = long_below n j yss l.1

-- a seat can change in at most two ways
pub few_ways : (x : Seat) → length (becomes x) ≤ 2
few_ways Free = lit≤ tt
few_ways Held = lit≤ tt
few_ways Sold = lit≤ tt

pub few_changed : (xs : List Seat) → length (changed xs) ≤ 2 * length xs
few_changed [] = lit≤ tt
few_changed (x ∷ xs) = simp (length-append, length-map) (omega (arith, few_ways x, few_changed xs))

-- with itself where it has no change, a row has some next state, and at most one more than changes
some_itself : (xs : List Seat) (yss : List (List Seat)) → 1 ≤ length (or_itself xs yss)
some_itself xs [] = lit≤ tt
some_itself xs (ys ∷ yss) = omega arith

few_itself : (xs : List Seat) (yss : List (List Seat)) → length (or_itself xs yss) ≤ length yss + 1
few_itself xs [] = lit≤ tt
few_itself xs (ys ∷ yss) = omega arith

-- the same of the next states by their numbers
some_next : (xs : List Seat) → 1 ≤ length (row_nexts xs)
some_next xs = omega (arith, length-map (or_itself xs (changed xs)) state_of, some_itself xs (changed xs))

few_nexts : (xs : List Seat) → length (row_nexts xs) ≤ 2 * length xs + 1
few_nexts xs =
    omega (arith, length-map (or_itself xs (changed xs)) state_of, few_itself xs (changed xs), few_changed xs)

-- a next state is a state
next_below : (k s j : ℕ) → slice_index (row_nexts (seats_of k s)) j < 3 ^ k
next_below k s j =
    let xs = seats_of k s in
    let h = long_below (length xs) j (or_itself xs (changed xs)) (long_itself xs (changed xs) (long_changed xs)) in
    rw (length_seats k s) at h

-- the list of next states within the range and beyond it
pub nexts_in : (k s : ℕ) → s < 3 ^ k → (row_meaning k).nexts s ≡ row_nexts (seats_of k s)
nexts_in k s h = ap (λ (b : Bool). cond b (row_nexts (seats_of k s)) []) (lt-ltb s (3 ^ k) h)

nexts_out : (k s : ℕ) → 3 ^ k ≤ s → (row_meaning k).nexts s ≡ []
nexts_out k s h = ap (λ (b : Bool). cond b (row_nexts (seats_of k s)) []) (le-ltb s (3 ^ k) h)

-- no label beyond the three
unlabelled : (l : ℕ) (xs : List Seat) → 32 ≤ l → row_label l xs ≡ false
unlabelled l xs h =
    let a = ne_eqb l 0 (λ e. omega arith) in
    let b = ne_eqb l 1 (λ e. omega arith) in
    let c = ne_eqb l 2 (λ e. omega arith) in
    simp (a, b, c)

-- the nine limits of a flow
pub row_limits : (k : ℕ) → 1 ≤ k → k ≤ 6 → Limits (row_meaning k)
row_limits k some few =
    let none : (s : ℕ) → 3 ^ k ≤ s → length ((row_meaning k).nexts s) ≡ 0 = λ s h. ap length (nexts_out k s h) in
    record {
      some_state = power_some k;
      few_states = power_few k few;
      some_next = λ s h. rw (nexts_in k s h) (some_next (seats_of k s));
      few_nexts =
          λ s. ⊎_elim
          (λ h. omega (arith, ap length (nexts_in k s h), few_nexts (seats_of k s), length_seats k s))
          (λ h. omega (arith, none s h))
          (cases_lt s (3 ^ k));
      next_below =
          λ s j b. ⊎_elim
          (λ h. rw (nexts_in k s h) (next_below k s j))
          (λ h. absurd (omega (arith, none s h)))
          (cases_lt s (3 ^ k));
      none_beyond = nexts_out k;
      start_below = λ s e. let z = eqb-true s 0 e in omega (arith, power_some k);
      some_start = (0, refl);
      label_below =
          λ l s e.
          let p = and_parts (nat_lt s (3 ^ k)) (row_label l (seats_of k s)) e in (
            ⊎_elim
                (λ h. h)
                (λ h. absurd (both_ways (row_label l (seats_of k s)) (unlabelled l (seats_of k s) h) p.1))
                (cases_lt l 32),
            ltb-true s (3 ^ k) p.0,
          );
    }
