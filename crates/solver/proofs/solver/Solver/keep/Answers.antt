-- The memo stays right with one right answer more.
use Rattle.memo.proofs.KeptLaws.{memo_with}
use Rattle.solver.proofs.solver.Solver.keep.Goals as goal

pub invariant_of-self-clause-right : goal.invariant_of-self-clause-right
invariant_of-self-clause-right c = rw c.keep.ensures (memo_with _ _ _ _ _ _ c.args.self.now.right c.requires.right)
