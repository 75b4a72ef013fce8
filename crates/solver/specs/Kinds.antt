-- What a node is. Definitions only.
use Rattle.std.specs.Prelude.{ℕ, ◌+◌, ◌≡◌}
use Rattle.game.specs.declared.Kind.{Kind}
use Rattle.sheet.specs.Meaning.{game_of}
use Rattle.backward_induction.specs.Solve.{at_kind}
use Rattle.solver.specs.declared.task.Task.{Task}
use Rattle.solver.specs.Tasks.{bytes_of, solved}

-- the node e goes by that kind
pub record GoesBy (t : Task) (e : ℕ) (kind : Kind) : Type 0 where
  pub step : (d : ℕ) → solved t (d + 1) e ≡ at_kind t.method (game_of (bytes_of t)) (solved t d) e kind
