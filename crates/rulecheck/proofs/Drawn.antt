-- The tables of the ticket flow, and the row of two seats, mean what is drawn.
use Rattle.std.proofs.Common.{◌≡◌, ℕ, zero, suc, ◌+◌, ◌<◌, eqb, sym, refl, subst, arith}
use Rattle.flow.specs.Tables.{Tables, table_meaning}
use Rattle.flow.specs.Seats.{row_meaning}
use Rattle.rulecheck.specs.Examples.{Ticket, TwoSeats}
use Rattle.rulecheck.specs.Output.{ticket_tables, ticket_meaning}

starts : (s : ℕ) → s < 3 → ticket_meaning.start s ≡ eqb s 0
starts zero h = refl
starts (suc zero) h = refl
starts (suc (suc zero)) h = refl
starts (suc (suc (suc s))) h = absurd (omega arith)

labels : (l s : ℕ) → l < 2 → s < 3 → ticket_meaning.label l s ≡ eqb s (l + 1)
labels zero zero g h = refl
labels zero (suc zero) g h = refl
labels zero (suc (suc zero)) g h = refl
labels zero (suc (suc (suc s))) g h = absurd (omega arith)
labels (suc zero) zero g h = refl
labels (suc zero) (suc zero) g h = refl
labels (suc zero) (suc (suc zero)) g h = refl
labels (suc zero) (suc (suc (suc s))) g h = absurd (omega arith)
labels (suc (suc l)) s g h = absurd (omega arith)

ticket : Ticket ticket_meaning
ticket = record { count = refl; free = refl; held = refl; sold = refl; starts = starts; labels = labels }

pub ticket_drawn : (t : Tables) → t ≡ ticket_tables → Ticket (table_meaning t)
ticket_drawn t e = subst (λ (t : Tables). Ticket (table_meaning t)) (sym e) ticket

pub row_drawn : (k : ℕ) → k ≡ 2 → TwoSeats (row_meaning k)
row_drawn k e =
    subst
    (λ (n : ℕ). TwoSeats (row_meaning n))
    (sym e)
    (record { count = refl; both_held = refl; sold_free = refl; both_sold = refl })
