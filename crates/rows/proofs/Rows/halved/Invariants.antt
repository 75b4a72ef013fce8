-- `halved` answers a row. The loop's invariant: the rows that are left are some of the n.
use Prim.Native.Nat.{◌+◌, ◌≤◌, ◌<◌}
use Rattle.rows.proofs.Rows.halved.Given as goal

abbrev pub invariant-loop-left : goal.invariant-loop-left
invariant-loop-left l = (0 < l.left) × (l.i + l.left ≤ l.n)

abbrev pub decreases-loop-left : goal.decreases-loop-left
decreases-loop-left l = l.left
