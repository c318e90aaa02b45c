-- The counts of a flow, their sums, and the line that says them.
use Rattle.std.specs.Prelude.{ℕ, zero, suc, ◌+◌, ◌-◌, ◌^◌, min, cond, List, [], ◌∷◌, ◌++◌, length, codes, decimal}
use Rattle.flow.specs.Meaning.{Meaning}
use Rattle.chart.specs.declared.counts.Tally.{Tally}

-- the sum of what f gives at the k numbers from i on
abbrev pub sum_from : (ℕ → ℕ) → ℕ → ℕ → ℕ
sum_from f i zero = 0
sum_from f i (suc k) = f i + sum_from f (i + 1) k

-- 1 at a start, 0 elsewhere
abbrev pub start_at : Meaning → ℕ → ℕ
start_at m s = cond (m.start s) 1 0

-- how many moves leave s
abbrev pub moves_at : Meaning → ℕ → ℕ
moves_at m s = length (m.nexts s)

-- one flow, with how many states, starts and moves it has
abbrev pub tally_of : Meaning → Tally
tally_of m =
    record { flows = 1; states = m.count; starts = sum_from (start_at m) 0 m.count; moves = sum_from (moves_at m) 0 m.count }

-- a sum that stops at the largest number of 32 bits
abbrev pub capped : ℕ → ℕ → ℕ
capped a b = min (a + b) (2 ^ 32 - 1)

-- each count with its like
abbrev pub both_of : Tally → Tally → Tally
both_of a b =
    record {
      flows = capped a.flows b.flows;
      states = capped a.states b.states;
      starts = capped a.starts b.starts;
      moves = capped a.moves b.moves;
    }

-- the counts of some flows in words, and the line of them
abbrev pub count_words : Tally → List ℕ
count_words t =
    decimal t.flows
    ++ (codes " flows, "
    ++ (decimal t.states ++ (codes " states, " ++ (decimal t.starts ++ (codes " starts, " ++ (decimal t.moves ++ codes " moves"))))))

abbrev pub count_line : Tally → List ℕ
count_line t = count_words t ++ (10 ∷ [])
