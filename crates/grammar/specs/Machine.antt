-- A reader of words that takes each word once, with what is awaited on a stack.
use Rattle.std.specs.Prelude.{List, [], ◌∷◌}
use Rattle.grammar.specs.Forms.{Unary, Path}
use Rattle.grammar.specs.Forms.Form.{yes_form, no_form, leaf, one, two}
use Rattle.grammar.specs.Forms.Binary.{both, either, implies, until}
use Rattle.grammar.specs.Words.{Word}
use Rattle.grammar.specs.Words.Word.{open_word, close, square, unsquare, amp, bar, arrow, before, path, u_word, true_word, false_word, name}
use Rattle.grammar.specs.Grammar.{Tree}

-- where a phrase is awaited
pub data Awaits : Type 0 where
  a_rule : Awaits
  a_and : Awaits
  a_unary : Awaits

-- what is open around the place, from the inside out
pub data Stack : Awaits → Type 0 where
  bottom : Stack a_rule
  in_round : Stack a_unary → Stack a_rule
  in_left : Path → Stack a_unary → Stack a_rule
  in_right : Path → Tree → Stack a_unary → Stack a_rule
  after_arrow : Tree → Stack a_rule → Stack a_rule
  plain_or : Stack a_rule → Stack a_and
  after_bar : Tree → Stack a_rule → Stack a_and
  plain_and : Stack a_and → Stack a_unary
  after_amp : Tree → Stack a_and → Stack a_unary
  after_before : Unary → Stack a_unary → Stack a_unary

pub data State : Type 0 where
  need : Stack a_unary → State
  need_square : Path → Stack a_unary → State
  have : Tree → Stack a_and → State
  dead : State

-- a whole unary is read
abbrev pub give : Tree → Stack a_unary → State
give f (plain_and s) = have f s
give f (after_amp g s) = have (two both g f) s
give f (after_before k s) = give (one k f) s

-- a whole `or` is read: its tree, and what is around it
abbrev pub or_tree : Tree → Stack a_and → Tree
or_tree f (plain_or s) = f
or_tree f (after_bar g s) = two either g f

abbrev pub or_rest : Stack a_and → Stack a_rule
or_rest (plain_or s) = s
or_rest (after_bar g s) = s

-- a text that ends: whole, or early
pub data Ending : Type 0 where
  whole : Tree → Ending
  early : Ending

-- a whole rule is read, up to the next bracket outside
abbrev pub ends : Tree → Stack a_rule → Ending
ends f bottom = whole f
ends f (in_round s) = early
ends f (in_left q s) = early
ends f (in_right q g s) = early
ends f (after_arrow g s) = ends (two implies g f) s

-- `)` after a whole rule: it closes the `(` around it
abbrev pub closes : Tree → Stack a_rule → State
closes f bottom = dead
closes f (in_round s) = give f s
closes f (in_left q s) = dead
closes f (in_right q g s) = dead
closes f (after_arrow g s) = closes (two implies g f) s

-- `U` after a whole rule: it ends the left side of an open `[`
abbrev pub untils : Tree → Stack a_rule → State
untils f bottom = dead
untils f (in_round s) = dead
untils f (in_left q s) = need (plain_and (plain_or (in_right q f s)))
untils f (in_right q g s) = dead
untils f (after_arrow g s) = untils (two implies g f) s

-- `]` after a whole rule: it ends the right side of an open `[`
abbrev pub unsquares : Tree → Stack a_rule → State
unsquares f bottom = dead
unsquares f (in_round s) = dead
unsquares f (in_left q s) = dead
unsquares f (in_right q g s) = give (two (until q) g f) s
unsquares f (after_arrow g s) = unsquares (two implies g f) s

abbrev pub fresh : Stack a_rule → State
fresh s = need (plain_and (plain_or s))

-- a word where a unary is to begin
abbrev pub needs_more : Stack a_unary → Word → State
needs_more s open_word = fresh (in_round s)
needs_more s close = dead
needs_more s square = dead
needs_more s unsquare = dead
needs_more s amp = dead
needs_more s bar = dead
needs_more s arrow = dead
needs_more s (before k) = need (after_before k s)
needs_more s (path q) = need_square q s
needs_more s u_word = dead
needs_more s true_word = give yes_form s
needs_more s false_word = give no_form s
needs_more s (name n) = give (leaf n) s

-- a word after `A` or `E`: `[` alone goes on
abbrev pub squares : Path → Stack a_unary → Word → State
squares q s open_word = dead
squares q s close = dead
squares q s square = fresh (in_left q s)
squares q s unsquare = dead
squares q s amp = dead
squares q s bar = dead
squares q s arrow = dead
squares q s (before k) = dead
squares q s (path r) = dead
squares q s u_word = dead
squares q s true_word = dead
squares q s false_word = dead
squares q s (name n) = dead

-- a word after a whole unary
abbrev pub has : Tree → Stack a_and → Word → State
has f s open_word = dead
has f s close = closes (or_tree f s) (or_rest s)
has f s square = dead
has f s unsquare = unsquares (or_tree f s) (or_rest s)
has f s amp = need (after_amp f s)
has f s bar = need (plain_and (after_bar (or_tree f s) (or_rest s)))
has f s arrow = fresh (after_arrow (or_tree f s) (or_rest s))
has f s (before k) = dead
has f s (path q) = dead
has f s u_word = untils (or_tree f s) (or_rest s)
has f s true_word = dead
has f s false_word = dead
has f s (name n) = dead

-- one word taken
abbrev pub step : State → Word → State
step (need s) w = needs_more s w
step (need_square q s) w = squares q s w
step (have f s) w = has f s w
step dead w = dead

-- the words taken one after another
abbrev pub steps : State → List Word → State
steps st [] = st
steps st (w ∷ ws) = steps (step st w) ws

-- a text that ends here
abbrev pub final : State → Ending
final (need s) = early
final (need_square q s) = early
final (have f s) = ends (or_tree f s) (or_rest s)
final dead = early

abbrev pub start : State
start = fresh bottom

-- the words before can go on
abbrev pub Alive : State → Type 0
Alive (need s) = Unit {0}
Alive (need_square q s) = Unit {0}
Alive (have f s) = Unit {0}
Alive dead = ⊥
