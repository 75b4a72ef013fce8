-- `walk` and `play` call each other: each action leaves fewer moves.
use Rattle.std.proofs.Common.{◌+◌, ◌*◌}
use Rattle.kuhn_poker.specs.KuhnPoker.{outcome}
use Rattle.kuhn_poker.proofs.Steps.{moves_left, moves_after}
use Rattle.kuhn_poker.proofs.Tables.+walk.Given as goal

abbrev pub decreases-play : goal.decreases-play
decreases-play l = moves_after (outcome l.deal l.history l.action) * 2 + 1

abbrev pub decreases-walk : goal.decreases-walk
decreases-walk l = moves_left l.history * 2
