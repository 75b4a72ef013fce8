-- The labels so far, and those of the play that is left.
use Rattle.std.proofs.Common.{◌≡◌, ◌++◌, ◌-◌, ◌≤◌, length, take, drop, replicate}
use Rattle.memo.specs.Kept.{Stays}
use Rattle.turns.specs.Plays.{actions_from}
use Rattle.solver.specs.Tasks.{actions_at}
use Rattle.solver.proofs.solver.Solver.labels.Given as goal

abbrev pub invariant-loop-next : goal.invariant-loop-next
invariant-loop-next l =
    let rest = actions_at l.fn.self.task.now in
    record {
      same_task : l.self.task ≡ l.fn.self.task;
      stays : Stays l.fn.self.memo.now l.self.memo.now;
      room : l.count ≤ 64;
      long : length l.numbers ≡ 64;
      written : actions_from rest l.fn.first ≡ take l.count l.numbers ++ actions_from rest l.next;
      unused : drop l.count l.numbers ≡ replicate (64 - l.count) 0;
    }

abbrev pub decreases-loop-next : goal.decreases-loop-next
decreases-loop-next l = length (actions_from (actions_at l.fn.self.task.now) l.next)
