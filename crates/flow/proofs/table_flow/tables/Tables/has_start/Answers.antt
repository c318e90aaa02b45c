use Rattle.std.proofs.Common.{rules, length}
use Rattle.std.proofs.iter.runs.Made.{chains}
use Rattle.flow.specs.Borrowed.{lists_in}
use Rattle.flow.specs.Tables.{marked}
use Rattle.flow.proofs.Lowests.{some_lowest}
use Rattle.flow.proofs.table_flow.tables.Tables.has_start.Goals as goal

pub returns : goal.returns
returns c = some_lowest (marked (lists_in c.args.self.now)) (length c.args.self.now.starts.now) _ (search (rules, chains))
