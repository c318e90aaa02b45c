use Rattle.std.proofs.Common.{◌≡◌, take}
use Rattle.names.specs.Lists.{names_of}
use Rattle.names.specs.Naming.{spellings}
use Rattle.names.proofs.names.Names.new.Given as goal

abbrev pub invariant-loop-i : goal.invariant-loop-i
invariant-loop-i l = names_of l.list ≡ take l.i (spellings l.names)
