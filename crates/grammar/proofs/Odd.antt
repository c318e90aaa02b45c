-- The sign of a part is the one under the `!` and left sides of `->` that it stands under.
use Rattle.std.proofs.Common.{◌≡◌, ℕ, ◌+◌, [], ◌∷◌, ◌++◌, map, get_or, sym, refl, ap, ◌∙◌, add-zero, add-one}
use mathlib.Core.List.{map-append}
use lib.ListN.{get_or-map}
use Rattle.grammar.specs.Forms.{Form, Unary, Binary}
use Rattle.grammar.specs.Forms.Form.{yes_form, no_form, leaf, one, two}
use Rattle.grammar.specs.Forms.Unary.{neg, ex, ax, ef, af, eg, ag}
use Rattle.grammar.specs.Forms.Binary.{both, either, implies, until}
use Rattle.grammar.specs.Signs.{under, left, signs, turn, left_turn, turns, sign_under}
use Rattle.grammar.specs.Signs.Sign.{plus}
use Rattle.grammar.specs.Laws.{SignsOdd}

-- an operator turns the sign as often as it counts
under_turn : (o : Unary) (n : ℕ) → under o (sign_under n) ≡ sign_under (n + turn o)
under_turn neg n = ap sign_under (sym (add-one n))
under_turn ex n = ap sign_under (sym (add-zero n))
under_turn ax n = ap sign_under (sym (add-zero n))
under_turn ef n = ap sign_under (sym (add-zero n))
under_turn af n = ap sign_under (sym (add-zero n))
under_turn eg n = ap sign_under (sym (add-zero n))
under_turn ag n = ap sign_under (sym (add-zero n))

left_turn_lem : (o : Binary) (n : ℕ) → left o (sign_under n) ≡ sign_under (n + left_turn o)
left_turn_lem both n = ap sign_under (sym (add-zero n))
left_turn_lem either n = ap sign_under (sym (add-zero n))
left_turn_lem implies n = ap sign_under (sym (add-one n))
left_turn_lem (until q) n = ap sign_under (sym (add-zero n))

signs_turns : (n : ℕ) (f : Form ℕ) → signs (sign_under n) f ≡ map sign_under (turns n f)
signs_turns n yes_form = refl
signs_turns n no_form = refl
signs_turns n (leaf i) = refl
signs_turns n (one o f) =
    ap (λ p. signs p f ++ sign_under n ∷ []) (under_turn o n)
    ∙ ap (λ l. l ++ sign_under n ∷ []) (signs_turns (n + turn o) f)
    ∙ sym (map-append sign_under (turns (n + turn o) f) (n ∷ []))
signs_turns n (two o f g) =
    ap (λ p. signs p f ++ signs (sign_under n) g ++ sign_under n ∷ []) (left_turn_lem o n)
    ∙ ap (λ l. l ++ signs (sign_under n) g ++ sign_under n ∷ []) (signs_turns (n + left_turn o) f)
    ∙ ap (λ l. map sign_under (turns (n + left_turn o) f) ++ l ++ sign_under n ∷ []) (signs_turns n g)
    ∙ sym (map-append sign_under (turns (n + left_turn o) f ++ turns n g) (n ∷ []) ∙ ap (λ l. l ++ sign_under n ∷ []) (map-append sign_under (turns (n + left_turn o) f) (turns n g)))

pub odd : SignsOdd
odd f i h = ap (λ l. get_or l i plus) (signs_turns 0 f) ∙ get_or-map sign_under (turns 0 f) i 0
