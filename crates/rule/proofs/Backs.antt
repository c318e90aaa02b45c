-- Walking back from the root of a part to the first part inside it.
use Rattle.std.proofs.Common.{◌≡◌, ℕ, ◌+◌, ◌-◌, ◌<◌, ◌≤◌, get_or, sym, ap, ◌∙◌, subst, arith}
use Rattle.grammar.specs.Forms.{parts, size, arity}
use Rattle.grammar.specs.Forms.Part.{always}
use Rattle.grammar.specs.Signs.{Sign}
use Rattle.grammar.proofs.Trees.{size_some}
use Rattle.grammar.proofs.Owing.{Owing, owing_start, owing_more, owing_done}
use Rattle.words.specs.Kinds.{arity_of}
use Rattle.reading.specs.Holding.{parting}
use Rattle.reading.specs.declared.part.Part.{Part}
use Rattle.rule.specs.Rules.{form_in}
use Rattle.rule.specs.Walks.{Stands}
use Rattle.rule.specs.declared.rule.Rule.{Rule}
use Rattle.rule.proofs.Standings.{each_stands}
use Rattle.rule.proofs.Turns.{kind_arity, kind_few}

-- what the walk from a root knows at a place: how many forms still stand before it
pub record Back (r : Rule) (root at owed : ℕ) : Type 0 where
  pub low : at ≤ root + 1
  pub few : owed + at ≤ root + 2
  pub owes : (p : Sign) (s : Stands (form_in r) root p) → Owing (parts (form_in r)) s.first at owed

module _ (r : Rule) (root : ℕ) (h : root < size (form_in r)) where
  -- the form whose root it is
  pub rule_at : (p : Sign) × Stands (form_in r) root p
  rule_at = each_stands (form_in r) root h

  pub back_start : Back r root (root + 1) 1
  back_start = record { low = omega arith; few = omega arith; owes = λ p s. owing_start s.inside (root + 1) s.ends }

  module _ (at owed : ℕ) (b : Back r root at owed) where
    pub back_on : 0 < owed → 0 < at
    back_on o = (owing_more (b.owes rule_at.0 rule_at.1) o always).0

    -- the next place is that of a part
    pub back_within : 0 < owed → at - 1 < size (form_in r)
    back_within o = omega (arith, h, b.low, back_on o)

    pub back_more : 0 < owed → (x : Part) → get_or (parts (form_in r)) (at - 1) always ≡ parting x → (n : ℕ) → n ≡ arity_of x.kind → Back r root (at - 1) (owed - 1 + n)
    back_more o x here n q =
        let on = back_on o in
        let same : arity (get_or (parts (form_in r)) (at - 1) always) ≡ n = ap arity here ∙ sym (q ∙ kind_arity x.kind x.label) in
        record {
          low = omega (arith, b.low);
          few = omega (arith, b.few, kind_few x.kind);
          owes = λ p s. subst (λ m. Owing (parts (form_in r)) s.first (at - 1) (owed - 1 + m)) same (owing_more (b.owes p s) o always).1;
        }

    pub back_first : owed ≤ 0 → (p : Sign) (s : Stands (form_in r) root p) → at ≡ s.first
    back_first z p s =
        let none : owed ≡ 0 = omega arith in owing_done (subst (Owing (parts (form_in r)) s.first at) none (b.owes p s))

    pub back_low : owed ≤ 0 → at ≤ root
    back_low z = omega (arith, back_first z rule_at.0 rule_at.1, rule_at.1.ends, size_some rule_at.1.form)
