-- One part more.
use Rattle.std.proofs.Common.{◌≡◌, ℕ, ◌+◌, ◌≤◌, min, List, [], ◌∷◌, ◌++◌, Ok, Err, Result, map, length, take, sym, ap, ◌∙◌, arith, length-append, length-take, take_all}
use Rattle.std.proofs.lemmas.List.{length-map, map-append, take-append-le}
use Rattle.grammar.specs.Forms as form
use Rattle.fixed_vec.specs.FixedVec.{Extended, items}
use Rattle.fixed_vec.specs.declared.FixedVec.{FixedVec}
use Rattle.fixed_vec.specs.declared.Full.{Full}
use Rattle.reading.specs.Holding.{parting, parts_in}
use Rattle.reading.specs.declared.part.Part.{Part}

module _ (v w : FixedVec Part 64) (p : Part) (xs : List (form.Part ℕ)) (kept : parts_in v ≡ take 64 xs) where
  -- how many of the parts are kept
  few_kept : length (items v) ≡ min 64 (length xs)
  few_kept = sym (length-map (items v) parting) ∙ ap length kept ∙ length-take 64 xs

  -- a part that is kept, and one that finds no place
  pub push_kept : (r : Result (Unit {0}) Full) → Extended v w (p ∷ []) r → parts_in w ≡ take 64 (xs ++ parting p ∷ [])
  push_kept (Ok u) h =
      let fits : length (items w) ≤ 64 = omega (arith, length-take w.len w.places, w.few) in
      let more : length (items w) ≡ length (items v) + 1 = ap length h ∙ length-append (items v) (p ∷ []) in
      let few : length xs ≤ 63 = omega (arith, few_kept) in
      ap (map parting) h ∙ map-append parting (items v) (p ∷ [])
      ∙ ap (λ l. l ++ parting p ∷ []) (kept ∙ take_all 64 xs (omega arith))
      ∙ sym (take_all 64 (xs ++ parting p ∷ []) (simp length-append (omega arith)))
  push_kept (Err e) h =
      ap parts_in h.0 ∙ kept ∙ sym (take-append-le 64 xs (parting p ∷ []) (omega (arith, few_kept, h.1)))
