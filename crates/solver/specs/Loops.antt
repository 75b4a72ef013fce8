-- A node whose edges are gone through: what is held of those before, and which are left. Definitions only.
use Rattle.answer.specs.Checks.{◌>>=◌}
use Rattle.std.specs.Prelude.{ℕ, ◌+◌, ◌≤◌, ◌≡◌, List, Option, Some, Ok, option_map}
use Rattle.game.specs.declared.ActionEdge.{ActionEdge}
use Rattle.game.specs.Chance.{Chance}
use Rattle.backward_induction.specs.Solve.{taken, weighed}
use Rattle.backward_induction.specs.Turns.{best_from, sums_from}
use Rattle.turns.specs.declared.Reply.{Reply}
use Rattle.turns.specs.declared.payoffs.Payoffs.{Payoffs}
use Rattle.turns.specs.Payoffs.{payoffs_of}
use Rattle.turns.specs.Plays.{actions_from, reply_of}
use Rattle.solver.specs.declared.task.Task.{Task}
use Rattle.solver.specs.Tasks.{solved, actions_at}

-- the actions from the lead's target on are those of the answer that it holds
pub record IsLead (t : Task) (lead : Option Reply) : Type 0 where
  pub follows : (r : Reply) → lead ≡ Some r → actions_at t r.edge.target ≡ actions_from (actions_at t) r.play.first

-- the decision e of the player p: with any depth from `deepest` on for the targets, its answer is what the edges that are left make of the lead
pub record Deciding (t : Task) (e p deepest : ℕ) (lead : Option Reply) (edges : List ActionEdge) : Type 0 where
  pub lead_is : IsLead t lead
  pub left : (d : ℕ) → deepest ≤ d → solved t (d + 1) e ≡ (best_from (solved t d) e p (option_map (reply_of (actions_at t)) lead) edges >>= λ r. Ok (taken r))

-- the chance node e: the same of the sums so far
pub record Weighing (t : Task) (e deepest : ℕ) (sums : Option Payoffs) (outcomes : List Chance) : Type 0 where
  pub left : (d : ℕ) → deepest ≤ d → solved t (d + 1) e ≡ (sums_from (solved t d) e (option_map payoffs_of sums) outcomes >>= weighed e)
