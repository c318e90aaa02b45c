-- The chart of a flow: a line for each state, in the order of their numbers.
use Rattle.std.specs.Prelude.{ℕ, zero, suc, ◌+◌, Bool, cond, List, [], ◌∷◌, ◌++◌, map, length, codes, decimal, nat_lt, slice_index_or}
use Rattle.std.specs.Borrow.{Bor}
use Rattle.flow.specs.Meaning.{Meaning}

-- the names, as their texts
abbrev pub texts : List (Bor (List ℕ)) → List (List ℕ)
texts names = map (λ x. x.now) names

-- what marks a start
abbrev pub start_word : Bool → List ℕ
start_word start = cond start (codes " start") []

-- entry l of the names, or the number of the label where it has no name
abbrev pub name_of : List (List ℕ) → ℕ → List ℕ
name_of names l = cond (nat_lt l (length names)) (slice_index_or names l []) (decimal l)

-- a space and the name of label l where s carries it
abbrev pub label_word : Meaning → List (List ℕ) → ℕ → ℕ → List ℕ
label_word m names s l = cond (m.label l s) (codes " " ++ name_of names l) []

-- the same for each of the k labels from l on
abbrev pub label_words : Meaning → List (List ℕ) → ℕ → ℕ → ℕ → List ℕ
label_words m names s l zero = []
label_words m names s l (suc k) = label_word m names s l ++ label_words m names s (l + 1) k

-- a space and a number for each next state
abbrev pub next_words : List ℕ → List ℕ
next_words [] = []
next_words (t ∷ ts) = (codes " " ++ decimal t) ++ next_words ts

-- the line of state s: its number, whether it is a start, its labels, an arrow and its next states
abbrev pub state_line : Meaning → List (List ℕ) → ℕ → List ℕ
state_line m names s =
    decimal s
    ++ (start_word (m.start s)
    ++ (label_words m names s 0 32 ++ (codes " ->" ++ (next_words (m.nexts s) ++ (10 ∷ [])))))

-- the lines of the k states from s on
abbrev pub lines_from : Meaning → List (List ℕ) → ℕ → ℕ → List ℕ
lines_from m names s zero = []
lines_from m names s (suc k) = state_line m names s ++ lines_from m names (s + 1) k

-- the lines of all states
abbrev pub chart_of : Meaning → List (List ℕ) → List ℕ
chart_of m names = lines_from m names 0 m.count
