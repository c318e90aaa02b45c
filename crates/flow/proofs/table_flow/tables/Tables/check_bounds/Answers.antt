use Rattle.std.proofs.Common.{rules}
use Rattle.flow.specs.Borrowed.{lists_in}
use Rattle.flow.proofs.Accepted.{stepped_if_none}
use Rattle.flow.proofs.table_flow.tables.Tables.check_bounds.Goals as goal

pub returns-clause-sound : goal.returns-clause-sound
returns-clause-sound c = stepped_if_none (lists_in c.args.self.now) (search rules) (search rules)
