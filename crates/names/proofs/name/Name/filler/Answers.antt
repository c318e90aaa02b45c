use Rattle.std.proofs.Common.{◌≡◌, [], ◌∷◌, ap, rules}
use Rattle.fixed_vec.specs.FixedVec.{items}
use Rattle.grammar.specs.Reading.{naming}
use Rattle.grammar.specs.Words.{spelled}
use Rattle.names.proofs.name.Name.filler.Goals as goal

pub invariant_of-result : goal.invariant_of-result
unfolding spelled
invariant_of-result c =
    let is : items c.push.new.self ≡ 120 ∷ [] = search rules in record { legal = ap naming is }
