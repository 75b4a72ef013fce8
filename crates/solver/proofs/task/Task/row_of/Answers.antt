use Rattle.solver.proofs.KindLaws.{found_kind}
use Rattle.solver.proofs.task.Task.row_of.Goals as goal

pub returns-clause-kind : goal.returns-clause-kind
returns-clause-kind c = found_kind _ _ _ c.find_row.ensures.found
