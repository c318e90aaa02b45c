use Rattle.std.proofs.Common.{◌+◌, ◌-◌, ◌*◌, length}
use Rattle.grammar.specs.Machine.{fresh}
use Rattle.grammar.specs.Machine.State.{have}
use Rattle.reading.specs.Levels.{left, Off, Phrase, need_and, have_or}
use Rattle.words.specs.declared.kinds.Binding.TheVariants.{And}
use Rattle.reading.proofs.levels.Reader.+levels.Given as goal

-- the bytes left, and among calls at one place the level
abbrev pub decreases-read_rule : goal.decreases-read_rule
decreases-read_rule l = 7 * (length l.self.now.words.text.now - l.self.now.words.place) + 4

abbrev pub decreases-read_or : goal.decreases-read_or
decreases-read_or l = 7 * (length l.self.now.words.text.now - l.self.now.words.place) + 3

abbrev pub decreases-read_and : goal.decreases-read_and
decreases-read_and l = 7 * (length l.self.now.words.text.now - l.self.now.words.place) + 2

abbrev pub decreases-read_unary : goal.decreases-read_unary
decreases-read_unary l = 7 * (length l.self.now.words.text.now - l.self.now.words.place) + 1

abbrev pub decreases-read_atom : goal.decreases-read_atom
decreases-read_atom l = 7 * (length l.self.now.words.text.now - l.self.now.words.place) + 6

abbrev pub decreases-read_until : goal.decreases-read_until
decreases-read_until l = 7 * (length l.self.now.words.text.now - l.self.now.words.place) + 5

-- so far a whole phrase of the level is read
abbrev pub invariant-read_and-loop-kind : goal.invariant-read_and-loop-kind
invariant-read_and-loop-kind l = Phrase need_and have l.fn.self l.self

abbrev pub decreases-read_and-loop-kind : goal.decreases-read_and-loop-kind
decreases-read_and-loop-kind l = length l.self.words.text.now - l.self.words.place

abbrev pub invariant-read_or-loop-kind : goal.invariant-read_or-loop-kind
invariant-read_or-loop-kind l = record {
  phrase : Phrase fresh have_or l.fn.self l.self;
  no_amp : Off And (left l.self.words);
}

abbrev pub decreases-read_or-loop-kind : goal.decreases-read_or-loop-kind
decreases-read_or-loop-kind l = length l.self.words.text.now - l.self.words.place
