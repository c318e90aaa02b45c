-- What the program prints: the charts of the ticket flow and of a row of two seats, and the counts of both.
use Rattle.std.specs.Prelude.{ℕ, List, [], ◌∷◌, ◌++◌, codes}
use Rattle.flow.specs.Meaning.{Meaning}
use Rattle.flow.specs.Tables.{Tables, tables_of, table_meaning}
use Rattle.flow.specs.Seats.{row_meaning}
use Rattle.chart.specs.Chart.{chart_of}
use Rattle.chart.specs.Counts.{tally_of, both_of, count_line}

-- the tables of the ticket flow
abbrev pub ticket_tables : Tables
ticket_tables = tables_of (0 ∷ 1 ∷ 2 ∷ []) (1 ∷ 0 ∷ 0 ∷ []) (1 ∷ 0 ∷ 2 ∷ 2 ∷ []) (0 ∷ 1 ∷ 3 ∷ 4 ∷ [])

abbrev pub ticket_meaning : Meaning
ticket_meaning = table_meaning ticket_tables

abbrev pub two_seats : Meaning
two_seats = row_meaning 2

-- the charts under their titles, and the counts
abbrev pub page_of : List ℕ → List ℕ → List ℕ → List ℕ
page_of tickets seats counts = codes "ticket flow\n" ++ (tickets ++ (codes "row of 2 seats\n" ++ (seats ++ counts)))

abbrev pub output : List ℕ
output =
    page_of
    (chart_of ticket_meaning (codes "held" ∷ codes "sold" ∷ []))
    (chart_of two_seats (codes "free" ∷ codes "held" ∷ codes "sold" ∷ []))
    (count_line (both_of (tally_of ticket_meaning) (tally_of two_seats)))
