-- What a rule is, from what its type keeps: its parts are those of its form, and its names a name list.
use Rattle.std.proofs.Common.{◌≡◌, ℕ, ◌<◌, ◌≤◌, cond, ltb, List, map, length, get_or, Some, None, Option, Bor, refl, sym, ap, ◌∙◌, arith, length-take}
use Rattle.std.specs.Option.{is_some, IfSome, option_copied, option_map}
use Rattle.std.proofs.lemmas.Bool.{ltb-true, cond_below, cond_above}
use Rattle.std.proofs.lemmas.List.{length-map, get_or-map}
use Rattle.grammar.specs.Forms as form
use Rattle.grammar.specs.Forms.Part.{always}
use Rattle.grammar.specs.Shape.{labelled}
use Rattle.grammar.specs.Reading.{wrong_in}
use Rattle.grammar.specs.Names.{Known, Names}
use Rattle.grammar.proofs.Trees.{form_parts, length-parts, labelled_known}
use Rattle.grammar.proofs.Rights.{right_fine}
use Rattle.names.proofs.Namings.{is_right_lem}
use Rattle.fixed_vec.specs.FixedVec.{items}
use Rattle.reading.specs.Holding.{parting, parts_in}
use Rattle.rule.specs.Rules.{form_in, names_in, of_part, part_at}
use Rattle.reading.specs.declared.part.Part.{Part}
use Rattle.rule.specs.declared.rule.Rule.{Rule}

module _ (r : Rule) where
  pub rule_parts : form.parts (form_in r) ≡ parts_in r.parts
  rule_parts = form_parts (parts_in r.parts) r.shape

  pub rule_names : Names (names_in r)
  rule_names = right_fine (names_in r) (is_right_lem (wrong_in (names_in r)) r.names.fine)

  pub rule_known : Known (names_in r) (form_in r)
  rule_known = labelled_known (names_in r) (form_in r) (ap (labelled (length (names_in r))) rule_parts ∙ r.known)

  pub rule_size : form.size (form_in r) ≡ length (items r.parts)
  rule_size = sym (length-parts (form_in r)) ∙ ap length rule_parts ∙ length-map (items r.parts) parting

  pub rule_few : form.size (form_in r) ≤ 64
  rule_few = omega (arith, rule_size, length-take r.parts.len r.parts.places, r.parts.few)

  -- what is said of a part that the rule has, and of one that it has not
  pub rule_has : {B : Type 0} (i : ℕ) (x y : B) → i < form.size (form_in r) → x ≡ y → Some x ≡ of_part (form_in r) i y
  rule_has i x y h e = ap Some e ∙ cond_below i (form.size (form_in r)) (Some y) None h

  pub rule_lacks : {B : Type 0} (i : ℕ) (y : B) → form.size (form_in r) ≤ i → None ≡ of_part (form_in r) i y
  rule_lacks i y h = cond_above i (form.size (form_in r)) (Some y) None None h refl

  -- the parts as a slice
  module _ (xs : List Part) (e : xs ≡ items r.parts) where
    pub slice_size : form.size (form_in r) ≡ length xs
    slice_size = rule_size ∙ ap length (sym e)

    pub slice_part : (i : ℕ) → i < form.size (form_in r) → (d : Part) → get_or (form.parts (form_in r)) i always ≡ parting (get_or xs i d)
    slice_part i h d =
        ap (λ ps. get_or ps i always) (rule_parts ∙ ap (map parting) (sym e))
        ∙ get_or-map parting xs i d always (omega (arith, slice_size))

    pub told_part : (i : ℕ) (o : Option (Bor Part)) → is_some o ≡ ltb i (length xs) → IfSome o (λ x. x.now ≡ get_or xs i x.now) → option_map parting (option_copied o) ≡ part_at (form_in r) i
    told_part i None h k = ap (λ b. cond b (Some (get_or (form.parts (form_in r)) i always)) None) (h ∙ ap (ltb i) (sym slice_size))
    told_part i (Some x) h k =
        ap Some (ap parting k ∙ sym (slice_part i (omega (arith, ltb-true i (length xs) (sym h), slice_size)) x.now))
        ∙ ap (λ b. cond b (Some (get_or (form.parts (form_in r)) i always)) None) (h ∙ ap (ltb i) (sym slice_size))
