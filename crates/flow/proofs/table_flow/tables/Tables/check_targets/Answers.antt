use Rattle.std.proofs.Common.{rules}
use Rattle.flow.specs.Borrowed.{lists_in}
use Rattle.flow.proofs.Accepted.{aimed_if_ok}
use Rattle.flow.proofs.table_flow.tables.Tables.check_targets.Goals as goal

pub returns-clause-sound : goal.returns-clause-sound
returns-clause-sound c = aimed_if_ok (lists_in c.args.self.now) c.map_or.result (search rules)
