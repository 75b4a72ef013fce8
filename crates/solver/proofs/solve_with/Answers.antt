use Rattle.memo.proofs.KeptLaws.{kept_is}
use Rattle.solver.proofs.PlayLaws.{few_actions}
use Rattle.solver.proofs.solve_with.Goals as goal

pub solution-requires : goal.solution-requires
solution-requires g c = rw c.solve_node.ensures.same_task (few_actions _ _ _ c.kept.result.now c.requires.depth (kept_is c.in_ok-row.ensures.kept c.kept.ensures))
