-- What the four tables give at a state, and that tables that keep their limits mean a flow that keeps its own.
use Rattle.std.specs.Prelude.{◌≡◌, ℕ, ◌+◌, ◌-◌, ◌/◌, ◌%◌, ◌^◌, ◌<◌, ◌≤◌, Bool, true, false, cond, List, [], length, is_some, Some, None, Option, ◌==◌, nat_lt, slice_index}
use Rattle.std.proofs.Common.{ap, ◌∙◌, ⊎_elim, arith}
use Rattle.std.proofs.lemmas.Bool.{cases_lt, lt-ltb, le-ltb, ltb-true, and_parts, and_from}
use Rattle.std.proofs.lemmas.List.{get_or_past}
use Rattle.std.proofs.lemmas.List.Edits.{length-between, get_or-between}
use Rattle.flow.specs.Meaning.{Limits}
use Rattle.flow.specs.Lowest.{lowest, Lowest, lowest_is}
use Rattle.flow.specs.Tables.{Tables, moves_of, bit, marked, some_marked, table_meaning, Sized, Stepped, Moving, Aimed}

module _ (t : Tables) (stepped : Stepped t) where
  pub nexts_in : (s : ℕ) → s < length t.labels → (table_meaning t).nexts s ≡ moves_of t s
  nexts_in s h = ap (λ (b : Bool). cond b (moves_of t s) []) (lt-ltb s (length t.labels) h)

  pub nexts_out : (s : ℕ) → length t.labels ≤ s → (table_meaning t).nexts s ≡ []
  nexts_out s h = ap (λ (b : Bool). cond b (moves_of t s) []) (le-ltb s (length t.labels) h)

  pub degree_is : (s : ℕ) → s < length t.labels → length ((table_meaning t).nexts s) ≡ slice_index t.bounds (s + 1) - slice_index t.bounds s
  degree_is s h = ap length (nexts_in s h) ∙ length-between t.moves (slice_index t.bounds s) (slice_index t.bounds (s + 1)) (stepped s h).2

  pub next_is : (s k : ℕ) → s < length t.labels → k < slice_index t.bounds (s + 1) - slice_index t.bounds s → slice_index ((table_meaning t).nexts s) k ≡ slice_index t.moves (slice_index t.bounds s + k)
  next_is s k h b =
      ap (λ (xs : List ℕ). slice_index xs k) (nexts_in s h) ∙ get_or-between t.moves (slice_index t.bounds s) (slice_index t.bounds (s + 1)) k 0 (omega arith)

  pub next_past : (s k : ℕ) → s < length t.labels → slice_index t.bounds (s + 1) - slice_index t.bounds s ≤ k → slice_index ((table_meaning t).nexts s) k ≡ 0
  next_past s k h b = get_or_past ((table_meaning t).nexts s) k 0 (omega (arith, degree_is s h))

-- the marked entry that the lowest one is
found : (f : ℕ → Bool) (n : ℕ) (o : Option ℕ) → Lowest f n o → is_some o ≡ true → (s : ℕ) × (s < n) × (f s ≡ true)
found f n (Some s) l e = (s, l.0, l.1)
found f n None l e = absurd (let z : ◌≡◌ {A = Bool} false true = e in let y : ◌≡◌ {A = ℕ} 0 1 = cc in omega arith)

pub table_limits : (t : Tables) → Sized t → Stepped t → Moving t → Aimed t → some_marked t ≡ true → Limits (table_meaning t)
table_limits t sized stepped moving aimed begun =
    let n = length t.labels in
    let deg = degree_is t stepped in
    let nx = next_is t stepped in
    let out = nexts_out t stepped in
    let m = table_meaning t in
    let first = found (marked t) (length t.starts) (lowest (marked t) (length t.starts)) (lowest_is (marked t) (length t.starts)) begun in
    let inside : first.0 < n = omega (arith, first.1, sized) in
    let none : (s : ℕ) → n ≤ s → length (m.nexts s) ≡ 0 = λ s h. ap length (out s h) in
    record {
      some_state = sized.0;
      few_states = sized.1;
      some_next = λ s h. omega (arith, deg s h, stepped s h, moving s h);
      few_nexts =
          λ s. ⊎_elim (λ h. omega (arith, deg s h, stepped s h)) (λ h. omega (arith, none s h)) (cases_lt s n);
      next_below =
          λ s k b. ⊎_elim
          (λ h. rw (nx s k h (omega (arith, deg s h))) (aimed (slice_index t.bounds s + k) (omega (arith, deg s h, stepped s h))))
          (λ h. absurd (omega (arith, none s h)))
          (cases_lt s n);
      none_beyond = out;
      start_below = λ s e. ltb-true s n (and_parts (nat_lt s n) (marked t s) e).0;
      some_start = (first.0, and_from (nat_lt first.0 n) (marked t first.0) (lt-ltb first.0 n inside) first.2);
      label_below =
          λ l s e.
          let p = and_parts (nat_lt s n) (bit (slice_index t.labels s) l) e in
          let q = and_parts (nat_lt l 32) ((slice_index t.labels s / 2 ^ l) % 2 == 1) p.1 in
          (ltb-true l 32 q.0, ltb-true s n p.0);
    }
