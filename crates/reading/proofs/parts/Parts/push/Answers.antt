use Rattle.std.proofs.Common.{arith, length-append}
use Rattle.reading.proofs.Pushes.{push_kept}
use Rattle.reading.proofs.parts.Parts.push.Goals as goal

pub returns : goal.returns
returns c = λ xs h. record {
  counted = simp length-append (omega (arith, h.counted));
  kept = push_kept _ _ _ xs h.kept c.push.result c.push.ensures;
}
