-- Where a part stands in a rule, and where a walk from the root toward a part does.
use Rattle.std.specs.Prelude.{◌≡◌, ℕ, ◌+◌, ◌≤◌}
use Rattle.grammar.specs.Forms.{Form, size}
use Rattle.grammar.specs.Signs.{Sign}
use Rattle.grammar.specs.Numbering.{Inside}

-- the part i as a form of its own inside the whole, with the number of its first part, where its sign is p
pub record Stands (f : Form ℕ) (i : ℕ) (p : Sign) : Type 0 where
  pub first : ℕ
  pub form : Form ℕ
  pub inside : Inside f first p form
  pub ends : first + size form ≡ i + 1

-- the part `at` has the sign p, and the part `number` stands inside it or is it
pub record Around (f : Form ℕ) (number at : ℕ) (p : Sign) : Type 0 where
  pub stands : Stands f at p
  pub low : stands.first ≤ number
  pub high : number ≤ at
