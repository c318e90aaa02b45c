use Rattle.std.proofs.Common.{arith}
use Rattle.std.proofs.lemmas.Grind.{common_steps}
use Rattle.grammar.specs.Words.{spelled}
use Rattle.words.proofs.Looks.{other_length}
use Rattle.words.proofs.scan.spelling.Goals as goal
use Rattle.words.proofs.scan.spelling.Goals.{in_default-via-then-run-lt1, in_default-via-else-run-lt1+then-run-lt2+in_default-1, in_default-via-else-run-lt1+else-run-lt2+then-run-lt3+in-65+in_default-1, in_default-via-else-run-lt1+else-run-lt2+then-run-lt3+in-69+in_default-1, in_default-via-else-run-lt1+else-run-lt2+then-run-lt3+in_default-1, in_default-via-else-run-lt1+else-run-lt2+else-run-lt3+then-run-lt4, in_default-via-else-run-lt1+else-run-lt2+else-run-lt3+else-run-lt4+then-run-lt5+in-116+in-114+in-117+in_default-1, in_default-via-else-run-lt1+else-run-lt2+else-run-lt3+else-run-lt4+then-run-lt5+in-116+in-114+in_default-1, in_default-via-else-run-lt1+else-run-lt2+else-run-lt3+else-run-lt4+then-run-lt5+in-116+in_default-1, in_default-via-else-run-lt1+else-run-lt2+else-run-lt3+else-run-lt4+then-run-lt5+in_default-1, in_default-via-else-run-lt1+else-run-lt2+else-run-lt3+else-run-lt4+else-run-lt5+then-run-lt6+in-102+in-97+in-108+in-115+in_default-1, in_default-via-else-run-lt1+else-run-lt2+else-run-lt3+else-run-lt4+else-run-lt5+then-run-lt6+in-102+in-97+in-108+in_default-1, in_default-via-else-run-lt1+else-run-lt2+else-run-lt3+else-run-lt4+else-run-lt5+then-run-lt6+in-102+in-97+in_default-1, in_default-via-else-run-lt1+else-run-lt2+else-run-lt3+else-run-lt4+else-run-lt5+then-run-lt6+in-102+in_default-1, in_default-via-else-run-lt1+else-run-lt2+else-run-lt3+else-run-lt4+else-run-lt5+then-run-lt6+in_default-1, in_default-via-else-run-lt1+else-run-lt2+else-run-lt3+else-run-lt4+else-run-lt5+else-run-lt6}

-- the ways in which the run is none of the literals, by its length and first bytes
pub returns-in_default : goal.returns-in_default
unfolding spelled
returns-in_default c = elim c.in_default.branch [
  | in_default-via-then-run-lt1 w ↦ grind (arith, common_steps, other_length)
  | in_default-via-else-run-lt1+then-run-lt2+in_default-1 w ↦ grind (arith, common_steps, other_length)
  | in_default-via-else-run-lt1+else-run-lt2+then-run-lt3+in-65+in_default-1 w ↦ grind (arith, common_steps, other_length)
  | in_default-via-else-run-lt1+else-run-lt2+then-run-lt3+in-69+in_default-1 w ↦ grind (arith, common_steps, other_length)
  | in_default-via-else-run-lt1+else-run-lt2+then-run-lt3+in_default-1 w ↦ grind (arith, common_steps, other_length)
  | in_default-via-else-run-lt1+else-run-lt2+else-run-lt3+then-run-lt4 w ↦ grind (arith, common_steps, other_length)
  | in_default-via-else-run-lt1+else-run-lt2+else-run-lt3+else-run-lt4+then-run-lt5+in-116+in-114+in-117+in_default-1 w ↦ grind (arith, common_steps, other_length)
  | in_default-via-else-run-lt1+else-run-lt2+else-run-lt3+else-run-lt4+then-run-lt5+in-116+in-114+in_default-1 w ↦ grind (arith, common_steps, other_length)
  | in_default-via-else-run-lt1+else-run-lt2+else-run-lt3+else-run-lt4+then-run-lt5+in-116+in_default-1 w ↦ grind (arith, common_steps, other_length)
  | in_default-via-else-run-lt1+else-run-lt2+else-run-lt3+else-run-lt4+then-run-lt5+in_default-1 w ↦ grind (arith, common_steps, other_length)
  | in_default-via-else-run-lt1+else-run-lt2+else-run-lt3+else-run-lt4+else-run-lt5+then-run-lt6+in-102+in-97+in-108+in-115+in_default-1 w ↦ grind (arith, common_steps, other_length)
  | in_default-via-else-run-lt1+else-run-lt2+else-run-lt3+else-run-lt4+else-run-lt5+then-run-lt6+in-102+in-97+in-108+in_default-1 w ↦ grind (arith, common_steps, other_length)
  | in_default-via-else-run-lt1+else-run-lt2+else-run-lt3+else-run-lt4+else-run-lt5+then-run-lt6+in-102+in-97+in_default-1 w ↦ grind (arith, common_steps, other_length)
  | in_default-via-else-run-lt1+else-run-lt2+else-run-lt3+else-run-lt4+else-run-lt5+then-run-lt6+in-102+in_default-1 w ↦ grind (arith, common_steps, other_length)
  | in_default-via-else-run-lt1+else-run-lt2+else-run-lt3+else-run-lt4+else-run-lt5+then-run-lt6+in_default-1 w ↦ grind (arith, common_steps, other_length)
  | in_default-via-else-run-lt1+else-run-lt2+else-run-lt3+else-run-lt4+else-run-lt5+else-run-lt6 w ↦ grind (arith, common_steps, other_length)
]

pub returns-in-false : goal.returns-in-false
unfolding spelled
returns-in-false c = grind (arith, common_steps, other_length)
