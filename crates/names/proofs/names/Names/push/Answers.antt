use Rattle.names.proofs.Namings.{taken}
use Rattle.names.proofs.names.Names.push.Goals as goal

pub invariant_of-self : goal.invariant_of-self
invariant_of-self c =
    record {
      fine = taken c.args.self.now.entries c.push.new.self c.args.name _ c.push.ensures c.requires.room c.args.self.now.fine c.requires.lacks;
    }
