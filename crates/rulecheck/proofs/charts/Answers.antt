use Rattle.std.proofs.Common.{◌≡◌, ℕ, List, [], ◌∷◌, IfOk, string_bytes, codes, ap, ◌∙◌, subst}
use Rattle.flow.specs.Meaning.{Meaning}
use Rattle.flow.specs.Tables.{table_meaning}
use Rattle.flow.specs.Seats.{row_meaning}
use Rattle.chart.specs.Chart.{chart_of}
use Rattle.chart.specs.Counts.{tally_of, both_of, count_line}
use Rattle.rulecheck.specs.Output.{ticket_meaning, two_seats, page_of}
use Rattle.rulecheck.proofs.charts.Goals as goal

pub returns : goal.returns
returns c =
    let t = c.ticket-ticket.ensures in
    let ticket : ◌≡◌ {A = Meaning} _ ticket_meaning = ap table_meaning t.tables in
    let row : ◌≡◌ {A = Meaning} _ two_seats = ap row_meaning c.two_seats-row.ensures.seats in
    let tickets = c.as_str.ensures.value ∙ c.in_ok-tickets.ensures ∙ ap (λ (m : Meaning). chart_of m (codes "held" ∷ codes "sold" ∷ [])) ticket in
    let seats = c.as_str-2.ensures.value ∙ c.in_ok-seats.ensures ∙ ap (λ (m : Meaning). chart_of m (codes "free" ∷ codes "held" ∷ codes "sold" ∷ [])) row in
    let tally = c.plus.ensures ∙ (λ i. both_of ((c.tally.ensures ∙ ap tally_of ticket) i) ((c.tally-2.ensures ∙ ap tally_of row) i)) in
    let counts = c.as_str-3.ensures.value ∙ c.in_ok-counts.ensures ∙ ap count_line tally in
    subst (λ (x : List ℕ). IfOk c.page.result (λ s. string_bytes s ≡ x)) (λ i. page_of (tickets i) (seats i) (counts i)) c.page.ensures
