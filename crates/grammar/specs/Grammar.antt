-- The grammar, one case for each line of it.
use Rattle.std.specs.Prelude.{ℕ, List, [], ◌∷◌, ◌++◌}
use Rattle.grammar.specs.Forms.{Form, Unary, Path}
use Rattle.grammar.specs.Forms.Form.{yes_form, no_form, leaf, one, two}
use Rattle.grammar.specs.Forms.Binary.{both, either, implies, until}
use Rattle.grammar.specs.Words.{Word}
use Rattle.grammar.specs.Words.Word.{open_word, close, square, unsquare, amp, bar, arrow, before, path, u_word, true_word, false_word, name}

-- the tree of a text, with its names as they are spelled
abbrev pub Tree : Type 0
Tree = Form (List ℕ)

-- the levels of the grammar, from the loosest to the tightest
pub data Level : Type 0 where
  rule : Level
  or : Level
  and : Level
  unary : Level
  atom : Level

-- the words are a phrase of the level, and this is its tree
pub data Is : Level → List Word → Tree → Type 0 where
  rule_or : {ws : List Word} {f : Tree} → Is or ws f → Is rule ws f
  rule_arrow : {us vs : List Word} {f g : Tree} → Is or us f → Is rule vs g → Is rule (us ++ arrow ∷ vs) (two implies f g)
  or_and : {ws : List Word} {f : Tree} → Is and ws f → Is or ws f
  or_bar : {us vs : List Word} {f g : Tree} → Is or us f → Is and vs g → Is or (us ++ bar ∷ vs) (two either f g)
  and_unary : {ws : List Word} {f : Tree} → Is unary ws f → Is and ws f
  and_amp : {us vs : List Word} {f g : Tree} → Is and us f → Is unary vs g → Is and (us ++ amp ∷ vs) (two both f g)
  unary_before : (k : Unary) {ws : List Word} {f : Tree} → Is unary ws f → Is unary (before k ∷ ws) (one k f)
  unary_atom : {ws : List Word} {f : Tree} → Is atom ws f → Is unary ws f
  atom_true : Is atom (true_word ∷ []) yes_form
  atom_false : Is atom (false_word ∷ []) no_form
  atom_name : (n : List ℕ) → Is atom (name n ∷ []) (leaf n)
  atom_round : {ws : List Word} {f : Tree} → Is rule ws f → Is atom (open_word ∷ ws ++ close ∷ []) f
  atom_until : (q : Path) {us vs : List Word} {f g : Tree} → Is rule us f → Is rule vs g → Is atom (path q ∷ square ∷ us ++ u_word ∷ vs ++ unsquare ∷ []) (two (until q) f g)

-- some text of the grammar begins with these words
abbrev pub Viable : List Word → Type 0
Viable us = (vs : List Word) × ((f : Tree) × Is rule (us ++ vs) f)
