-- The spaces before a word.
use Rattle.std.proofs.Common.{◌≡◌, ℕ, zero, suc, ◌+◌, ◌-◌, ◌<◌, ◌≤◌, Bool, true, false, not, eqb, ◌≢◌, List, Option, Some, None, length, get_or, take, drop, sym, ap, ◌∙◌, arith, length-drop, take_all}
use Rattle.std.specs.List.{position, prefix_len}
use Rattle.std.proofs.lemmas.Bool.Decides.{nat_tests}
use Rattle.std.proofs.lemmas.List.{get_or-drop}
use Rattle.std.proofs.lemmas.List.Quantifiers.{position-Some}
use Rattle.std.proofs.lemmas.List.Sums.{prefix_len_passes}
use Rattle.grammar.specs.Scanning.{from}
use Rattle.grammar.specs.Words.Stream.{end}
use Rattle.grammar.proofs.Streams.{space_step, end_step}

abbrev pub no_space : ℕ → Bool
no_space b = not (eqb b 32)

is_space : (b : ℕ) → no_space b ≡ false → b ≡ 32
is_space b e = grind (arith, nat_tests)

spaces_step : (text : List ℕ) (p n : ℕ) → p + n ≤ length text → ((k : ℕ) → k < n → no_space (get_or (drop p text) k 0) ≡ false) → from text p ≡ from text (p + n)
spaces_step text p zero h all = ap (from text) (omega arith)
spaces_step text p (suc n) h all =
    spaces_step text p n (omega arith) (λ k l. all k (omega arith))
    ∙ space_step text (p + n) (omega arith) (sym (get_or-drop p text n 0) ∙ is_space _ (all n (omega arith)))
    ∙ ap (from text) (omega arith)

-- a text from a place on, as the slice of it is
pub cut : (text : List ℕ) (p : ℕ) → take (length text - p) (drop p text) ≡ drop p text
cut text p = take_all (length text - p) (drop p text) (omega (arith, length-drop p text))

pub position_cut : (text : List ℕ) (p : ℕ) (o : Option ℕ) → o ≡ position no_space (take (length text - p) (drop p text)) → position no_space (drop p text) ≡ o
position_cut text p o e = ap (position no_space) (sym (cut text p)) ∙ sym e

-- n spaces and then another byte stand from p on
pub record Skipped (text : List ℕ) (p n : ℕ) : Type 0 where
  pub within : p + n < length text
  pub words : from text p ≡ from text (p + n)
  pub stops : get_or text (p + n) 0 ≢ 32

pub skipped : (text : List ℕ) (p n : ℕ) → position no_space (drop p text) ≡ Some n → Skipped text p n
skipped text p n e =
    let s = position-Some no_space (drop p text) n 0 e in
    let l : n < length (drop p text) = s.0 in
    let w : p + n < length text = omega (arith, length-drop p text) in
    let here : no_space (get_or text (p + n) 0) ≡ true = ap no_space (sym (get_or-drop p text n 0)) ∙ s.1 in
    record { within = w; words = spaces_step text p n (omega arith) s.2; stops = grind (arith, nat_tests) }

pub only_spaces : (text : List ℕ) (p : ℕ) → p ≤ length text → position no_space (drop p text) ≡ None → from text p ≡ end (length text)
only_spaces text p h e =
    let whole : length (drop p text) ≤ prefix_len (λ b. not (no_space b)) (drop p text) = grind (arith, nat_tests) in
    let l : length (drop p text) + p ≡ length text = omega (arith, length-drop p text) in
    spaces_step text p (length (drop p text)) (omega arith)
    (λ k b. let f = prefix_len_passes (λ b. not (no_space b)) (drop p text) k 0 (omega arith) in grind (arith, nat_tests))
    ∙ end_step text _ (omega arith)
