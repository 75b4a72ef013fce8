use Rattle.std.proofs.Common.{◌∙◌, arith, length-set}
use Rattle.solver.proofs.PayoffRows.{payoff_next}
use Rattle.solver.proofs.task.Task.payoffs.Goals as goal

pub loop-j-preserved : goal.loop-j-preserved
loop-j-preserved c =
    let long = c.loop-j.invariant.long in
    record {
      long = simp length-set long;
      read = payoff_next _ _ _ _ _ (omega (arith, c.requires)) c.loop-j.invariant.read (c.value.ensures.number ∙ rw c.sheet_of-sheet.ensures at c.payoff.ensures);
    }
