use Rattle.std.proofs.Common.{rules, length}
use Rattle.std.proofs.iter.runs.Made.{chains}
use Rattle.flow.specs.Borrowed.{lists_in}
use Rattle.flow.specs.Filling.{bad_step}
use Rattle.flow.proofs.Lowests.{lowest_found}
use Rattle.flow.proofs.table_flow.tables.Tables.bad_step.Goals as goal

pub returns : goal.returns
returns c = lowest_found (bad_step (lists_in c.args.self.now)) (length c.args.self.now.labels.now) _ (search (rules, chains))
