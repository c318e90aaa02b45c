use Rattle.std.proofs.Common.{◌≡◌, ◌-◌, ◌≤◌, length}
use Rattle.grammar.specs.Answering.{halt}
use Rattle.grammar.specs.Scanning.{from}
use Rattle.reading.proofs.whole.pass.Given as goal

-- the words from the place on, `.1 .0`, of the same text, `.0`, stop where all words do
abbrev pub invariant-loop-seen : goal.invariant-loop-seen
invariant-loop-seen l = (l.words.0.now ≡ l.text) × (l.words.1.0 ≤ length l.text) × (halt (from l.text 0) ≡ halt (from l.text l.words.1.0))

abbrev pub decreases-loop-seen : goal.decreases-loop-seen
decreases-loop-seen l = length l.text - l.words.1.0
