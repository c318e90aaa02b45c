-- The two flows of the program, as one would draw them.
use Rattle.std.specs.Prelude.{◌≡◌, ℕ, ◌+◌, ◌<◌, [], ◌∷◌, ◌==◌}
use Rattle.flow.specs.Meaning.{Meaning}

-- a ticket: state 0, free and the start, leads to 1; 1, held, to 0 and 2; 2, sold, to itself; label 0 is held, 1 sold
pub record Ticket (m : Meaning) : Type 0 where
  pub count : m.count ≡ 3
  pub free : m.nexts 0 ≡ 1 ∷ []
  pub held : m.nexts 1 ≡ 0 ∷ 2 ∷ []
  pub sold : m.nexts 2 ≡ 2 ∷ []
  pub starts : (s : ℕ) → s < 3 → m.start s ≡ (s == 0)
  pub labels : (l s : ℕ) → l < 2 → s < 3 → m.label l s ≡ (s == l + 1)

-- a row of two seats: of both held, of one sold and one free, of both sold
pub record TwoSeats (m : Meaning) : Type 0 where
  pub count : m.count ≡ 9
  pub both_held : m.nexts 4 ≡ 3 ∷ 5 ∷ 1 ∷ 7 ∷ []
  pub sold_free : m.nexts 2 ≡ 5 ∷ []
  pub both_sold : m.nexts 8 ≡ 8 ∷ []
