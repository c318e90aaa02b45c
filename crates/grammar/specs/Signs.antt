-- The sign of each part: negative under an odd number of `!` and left sides of `->`, else positive.
use Rattle.std.specs.Prelude.{ℕ, zero, suc, ◌+◌, List, [], ◌∷◌, ◌++◌, slice_index_or}
use Rattle.grammar.specs.Forms.{Form, Unary, Binary}
use Rattle.grammar.specs.Forms.Form.{yes_form, no_form, leaf, one, two}
use Rattle.grammar.specs.Forms.Unary.{neg, ex, ax, ef, af, eg, ag}
use Rattle.grammar.specs.Forms.Binary.{both, either, implies, until}

pub data Sign : Type 0 where
  plus : Sign
  minus : Sign

abbrev pub flip : Sign → Sign
flip plus = minus
flip minus = plus

-- the sign of an operand, from that of its operator: `!` and the left side of `->` flip it
abbrev pub under : Unary → Sign → Sign
under neg p = flip p
under ex p = p
under ax p = p
under ef p = p
under af p = p
under eg p = p
under ag p = p

abbrev pub left : Binary → Sign → Sign
left both p = p
left either p = p
left implies p = flip p
left (until q) p = p

abbrev pub right : Binary → Sign → Sign
right o p = p

-- the signs of all parts in their order, where the whole has the sign p
abbrev pub signs : {A : Type 0} → Sign → Form A → List Sign
signs p yes_form = p ∷ []
signs p no_form = p ∷ []
signs p (leaf a) = p ∷ []
signs p (one o f) = signs (under o p) f ++ p ∷ []
signs p (two o f g) = signs (left o p) f ++ signs (right o p) g ++ p ∷ []

-- the sign of part i of a rule
abbrev pub sign : {A : Type 0} → Form A → ℕ → Sign
sign f i = slice_index_or (signs plus f) i plus

-- how often an operator turns the sign of its operand, or of its left one
abbrev pub turn : Unary → ℕ
turn neg = 1
turn ex = 0
turn ax = 0
turn ef = 0
turn af = 0
turn eg = 0
turn ag = 0

abbrev pub left_turn : Binary → ℕ
left_turn both = 0
left_turn either = 0
left_turn implies = 1
left_turn (until q) = 0

-- under how many `!` and left sides of `->` each part stands, where the whole stands under n
abbrev pub turns : {A : Type 0} → ℕ → Form A → List ℕ
turns n yes_form = n ∷ []
turns n no_form = n ∷ []
turns n (leaf a) = n ∷ []
turns n (one o f) = turns (n + turn o) f ++ n ∷ []
turns n (two o f g) = turns (n + left_turn o) f ++ turns n g ++ n ∷ []

-- the sign under n of them: negative where n is odd
abbrev pub sign_under : ℕ → Sign
sign_under zero = plus
sign_under (suc n) = flip (sign_under n)
