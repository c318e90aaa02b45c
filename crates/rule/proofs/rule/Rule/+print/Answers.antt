use Rattle.std.proofs.Common.{sym, refl, ◌∙◌, arith}
use Rattle.std.proofs.lemmas.Result.{err_from_is_err_and}
use Rattle.rule.specs.Printing.{part_text}
use Rattle.rule.specs.Rules.{marked, names_in}
use Rattle.rule.proofs.Standings.{stands_within}
use Rattle.rule.proofs.Printings.{extended, adds_more, adds_stop, constant_text, leaf_text, one_pieces, two_pieces}
use Rattle.rule.proofs.rule.Rule.+print.Goals as goal

pub returns-then-is_marked : goal.returns-then-is_marked
returns-then-is_marked t c = λ s.
    extended _ _ _ c.extend_from_slice.ensures (constant_text (names_in c.args.self.now) (marked c.args.marks.now) s (sym c.if-is_marked.ensures) ∙ sym c.constant.ensures)

pub at-part-requires : goal.at-part-requires
at-part-requires t c = stands_within c.requires

pub operands_of-requires : goal.operands_of-requires
operands_of-requires t c = stands_within c.requires

pub returns-in-None : goal.returns-in-None
returns-in-None t c = λ s.
    extended _ _ _ c.extend_from_slice-in-None.ensures (leaf_text (names_in c.args.self.now) (marked c.args.marks.now) s (sym c.if-is_marked.ensures) c.at-part.result c.at-part.ensures c.in-None.ensures ∙ sym c.word.ensures)

-- the pieces of a part with one operand: what stands before it, and the operand
pub returns-in_err-extend_from_slice-in-One : goal.returns-in_err-extend_from_slice-in-One
returns-in_err-extend_from_slice-in-One t c = λ s.
    let w = one_pieces (names_in c.args.self.now) (marked c.args.marks.now) s (sym c.if-is_marked.ensures) c.at-part.result c.at-part.ensures c.flips.ensures c.flipped-turned.ensures c.in-One.ensures in
    adds_stop _ w.text c.before-in-One.ensures c.in_err-extend_from_slice-in-One.ensures.1 (err_from_is_err_and c.from_residual.result c.from_residual.ensures.1)

pub print-requires : goal.print-requires
print-requires t c =
    let w = one_pieces (names_in c.args.self.now) (marked c.args.marks.now) c.requires (sym c.if-is_marked.ensures) c.at-part.result c.at-part.ensures c.flips.ensures c.flipped-turned.ensures c.in-One.ensures in
    (omega (arith, w.less), w.inner)

pub returns-in_ok-extend_from_slice-in-One : goal.returns-in_ok-extend_from_slice-in-One
returns-in_ok-extend_from_slice-in-One t c = λ s.
    let w = one_pieces (names_in c.args.self.now) (marked c.args.marks.now) s (sym c.if-is_marked.ensures) c.at-part.result c.at-part.ensures c.flips.ensures c.flipped-turned.ensures c.in-One.ensures in
    adds_more w.text c.before-in-One.ensures c.in_ok-extend_from_slice-in-One.ensures (c.print.ensures w.inner)

-- the five pieces of a part with two operands
pub returns-in_err-extend_from_slice-in-Two : goal.returns-in_err-extend_from_slice-in-Two
returns-in_err-extend_from_slice-in-Two t c = λ s.
    let w = two_pieces (names_in c.args.self.now) (marked c.args.marks.now) s (sym c.if-is_marked.ensures) c.at-part.result c.at-part.ensures c.flips.ensures c.flipped-turned.ensures c.in-Two.ensures in
    adds_stop _ w.text c.before-in-Two.ensures c.in_err-extend_from_slice-in-Two.ensures.1 (err_from_is_err_and c.from_residual-in_err-extend_from_slice-in-Two.result c.from_residual-in_err-extend_from_slice-in-Two.ensures.1)

pub print-requires-in-Two : goal.print-requires-in-Two
print-requires-in-Two t c =
    let w = two_pieces (names_in c.args.self.now) (marked c.args.marks.now) c.requires (sym c.if-is_marked.ensures) c.at-part.result c.at-part.ensures c.flips.ensures c.flipped-turned.ensures c.in-Two.ensures in
    (omega (arith, w.less), w.former)

pub returns-in_err-print-in-Two : goal.returns-in_err-print-in-Two
returns-in_err-print-in-Two t c = λ s.
    let w = two_pieces (names_in c.args.self.now) (marked c.args.marks.now) s (sym c.if-is_marked.ensures) c.at-part.result c.at-part.ensures c.flips.ensures c.flipped-turned.ensures c.in-Two.ensures in
    adds_more w.text c.before-in-Two.ensures c.in_ok-extend_from_slice-in-Two.ensures
    (adds_stop {a = part_text (names_in c.args.self.now) (marked c.args.marks.now) w.former} _ refl refl (c.in_err-print-in-Two.ensures w.former).full (err_from_is_err_and c.from_residual-in_err-print-in-Two.result c.from_residual-in_err-print-in-Two.ensures.1))

pub returns-in_err-extend_from_slice-in-Two-2 : goal.returns-in_err-extend_from_slice-in-Two-2
returns-in_err-extend_from_slice-in-Two-2 t c = λ s.
    let w = two_pieces (names_in c.args.self.now) (marked c.args.marks.now) s (sym c.if-is_marked.ensures) c.at-part.result c.at-part.ensures c.flips.ensures c.flipped-turned.ensures c.in-Two.ensures in
    adds_more w.text c.before-in-Two.ensures c.in_ok-extend_from_slice-in-Two.ensures
    (adds_more refl refl (c.in_ok-print-in-Two.ensures w.former).ok
    (adds_stop _ refl c.between.ensures c.in_err-extend_from_slice-in-Two-2.ensures.1 (err_from_is_err_and c.from_residual-in_err-extend_from_slice-in-Two-2.result c.from_residual-in_err-extend_from_slice-in-Two-2.ensures.1)))

pub print-requires-in-Two-2 : goal.print-requires-in-Two-2
print-requires-in-Two-2 t c =
    let w = two_pieces (names_in c.args.self.now) (marked c.args.marks.now) c.requires (sym c.if-is_marked.ensures) c.at-part.result c.at-part.ensures c.flips.ensures c.flipped-turned.ensures c.in-Two.ensures in
    (omega (arith, w.latter_less), w.latter)

pub returns-in_err-print-in-Two-2 : goal.returns-in_err-print-in-Two-2
returns-in_err-print-in-Two-2 t c = λ s.
    let w = two_pieces (names_in c.args.self.now) (marked c.args.marks.now) s (sym c.if-is_marked.ensures) c.at-part.result c.at-part.ensures c.flips.ensures c.flipped-turned.ensures c.in-Two.ensures in
    adds_more w.text c.before-in-Two.ensures c.in_ok-extend_from_slice-in-Two.ensures
    (adds_more refl refl (c.in_ok-print-in-Two.ensures w.former).ok
    (adds_more refl c.between.ensures c.in_ok-extend_from_slice-in-Two-2.ensures
    (adds_stop {a = part_text (names_in c.args.self.now) (marked c.args.marks.now) w.latter} _ refl refl (c.in_err-print-in-Two-2.ensures w.latter).full (err_from_is_err_and c.from_residual-in_err-print-in-Two-2.result c.from_residual-in_err-print-in-Two-2.ensures.1))))

pub returns-in_ok-print-in-Two-2 : goal.returns-in_ok-print-in-Two-2
returns-in_ok-print-in-Two-2 t c = λ s.
    let w = two_pieces (names_in c.args.self.now) (marked c.args.marks.now) s (sym c.if-is_marked.ensures) c.at-part.result c.at-part.ensures c.flips.ensures c.flipped-turned.ensures c.in-Two.ensures in
    adds_more w.text c.before-in-Two.ensures c.in_ok-extend_from_slice-in-Two.ensures
    (adds_more refl refl (c.in_ok-print-in-Two.ensures w.former).ok
    (adds_more refl c.between.ensures c.in_ok-extend_from_slice-in-Two-2.ensures
    (adds_more refl refl (c.in_ok-print-in-Two-2.ensures w.latter).ok
    (extended _ _ _ c.extend_from_slice-in-Two-3.ensures (sym c.after.ensures)))))
