-- The remaining depth falls. The loops' invariants: what the edges that are left make of what is held so far.
use Rattle.std.proofs.Common.{◌≡◌, ◌+◌, ◌*◌, ◌≤◌}
use Rattle.memo.specs.Kept.{Stays}
use Rattle.solver.specs.Loops.{Deciding, Weighing}
use Rattle.solver.proofs.solver.Solver.+solve.Given as goal

abbrev pub decreases-solve_node : goal.decreases-solve_node
decreases-solve_node l = 3 * l.left

abbrev pub decreases-solve_kind : goal.decreases-solve_kind
decreases-solve_kind l = 3 * l.left + 2

abbrev pub decreases-solve_decision : goal.decreases-solve_decision
decreases-solve_decision l = 3 * l.left + 1

abbrev pub decreases-solve_chance : goal.decreases-solve_chance
decreases-solve_chance l = 3 * l.left + 1

abbrev pub invariant-solve_decision-loop-edge : goal.invariant-solve_decision-loop-edge
invariant-solve_decision-loop-edge l =
    record {
      same_task : l.self.task ≡ l.fn.self.task;
      stays : Stays l.fn.self.memo.now l.self.memo.now;
      low : l.deepest ≤ l.left;
      deciding : Deciding l.fn.self.task.now l.entity l.player l.deepest l.lead l.edge-iterator;
    }

abbrev pub invariant-solve_chance-loop-outcome : goal.invariant-solve_chance-loop-outcome
invariant-solve_chance-loop-outcome l =
    record {
      same_task : l.self.task ≡ l.fn.self.task;
      stays : Stays l.fn.self.memo.now l.self.memo.now;
      low : l.deepest ≤ l.left;
      weighing : Weighing l.fn.self.task.now l.entity l.deepest l.sums l.outcome-iterator;
    }
