use Rattle.std.proofs.Common.{true, [], ◌∷◌, map, codes, decimal, refl, ap, ◌∙◌}
use Rattle.chart.specs.Chart.{start_word, label_words, next_words}
use Rattle.chart.proofs.Texts.{line_written}
use Rattle.chart.proofs.NamedFlow.write_line.Goals as goal

pub returns : goal.returns
returns g c =
    λ plain ok.
    let m = g.F.Flow.meaning c.args.self.now.flow.now in
    let names = map (λ x. x.now) c.args.self.now.names.now in
    let s = c.args.s in
    let number = c.in_ok-write.ensures.writes plain (refl {a = true}) in
    let labels = c.in_ok-write_labels.ensures number.plain (refl {a = true}) in
    let arrow = c.in_ok-write_str.ensures.writes labels.plain (refl {a = true}) in
    let nexts = c.in_ok-write_nexts.ensures arrow.plain (refl {a = true}) in
    let end = c.writeln.ensures.writes nexts.plain ok in
    line_written {o₁ = c.write.new.self} {o₅ = c.writeln.new.self} (decimal s) (start_word (m.start s)) (label_words m names s 0 32) (codes " ->") (next_words (m.nexts s)) (10 ∷ [])
    (c.start_mark-mark.ensures ∙ ap start_word c.is_start.ensures)
    number labels arrow nexts end
