use Rattle.names.specs.Lists.{names_of}
use Rattle.names.proofs.Namings.{fresh_taken, fresh_new}
use Rattle.names.proofs.names.Names.fresh.Goals as goal

pub returns-in-Some : goal.returns-in-Some
returns-in-Some c = fresh_taken (names_of c.args.self.now) c.args.bytes.now _ c.in-Some.ensures.label

pub returns-in-None : goal.returns-in-None
returns-in-None c = fresh_new (names_of c.args.self.now) c.args.bytes.now _ c.in-None.ensures.label c.new.ensures
