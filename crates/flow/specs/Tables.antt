-- The four tables of a flow, and what they mean.
use Rattle.std.specs.Prelude.{◌≡◌, ℕ, ◌+◌, ◌-◌, ◌/◌, ◌%◌, ◌^◌, ◌<◌, ◌≤◌, Bool, cond, not, ◌&&◌, List, [], length, take, drop, is_some, ◌==◌, ◌≢◌, nat_lt, slice_index}
use Rattle.flow.specs.Meaning.{Meaning}
use Rattle.flow.specs.Lowest.{lowest}

-- 32 label bits a state, a start byte a state, the moves of all states one after the other, and their bounds
pub record Tables : Type 0 where
  pub labels : List ℕ
  pub starts : List ℕ
  pub moves : List ℕ
  pub bounds : List ℕ

abbrev pub tables_of : List ℕ → List ℕ → List ℕ → List ℕ → Tables
tables_of labels starts moves bounds =
    record { labels = labels; starts = starts; moves = moves; bounds = bounds }

-- the moves of a state: from its bound up to but not including the bound after it
abbrev pub moves_of : Tables → ℕ → List ℕ
moves_of t s = take (slice_index t.bounds (s + 1) - slice_index t.bounds s) (drop (slice_index t.bounds s) t.moves)

-- label l is bit l of a state's 32, from the lowest
abbrev pub bit : ℕ → ℕ → Bool
bit word l = nat_lt l 32 && (word / 2 ^ l) % 2 == 1

-- a start has a byte that is not zero
abbrev pub marked : Tables → ℕ → Bool
marked t s = not (slice_index t.starts s == 0)

-- some byte is not zero
abbrev pub some_marked : Tables → Bool
some_marked t = is_some (lowest (marked t) (length t.starts))

abbrev pub table_meaning : Tables → Meaning
table_meaning t =
    record {
      count = length t.labels;
      nexts = λ s. cond (nat_lt s (length t.labels)) (moves_of t s) [];
      start = λ s. nat_lt s (length t.labels) && marked t s;
      label = λ l s. nat_lt s (length t.labels) && bit (slice_index t.labels s) l;
    }

-- a label word and a start byte for each of 1 to 1,024 states, and one bound more
abbrev pub Sized : Tables → Type 0
Sized t =
    (1 ≤ length t.labels)
    × (length t.labels ≤ 1024)
    × (length t.starts ≡ length t.labels)
    × (length t.bounds ≡ length t.labels + 1)

-- the bounds neither fall nor lie over 64 apart, and stay within the moves
abbrev pub Stepped : Tables → Type 0
Stepped t =
    (s : ℕ)
    → s < length t.labels
    → (slice_index t.bounds s ≤ slice_index t.bounds (s + 1))
    × (slice_index t.bounds (s + 1) ≤ slice_index t.bounds s + 64)
    × (slice_index t.bounds (s + 1) ≤ length t.moves)

-- each state has a move
abbrev pub Moving : Tables → Type 0
Moving t = (s : ℕ) → s < length t.labels → slice_index t.bounds s ≢ slice_index t.bounds (s + 1)

-- each move leads to a state
abbrev pub Aimed : Tables → Type 0
Aimed t = (i : ℕ) → i < length t.moves → slice_index t.moves i < length t.labels
