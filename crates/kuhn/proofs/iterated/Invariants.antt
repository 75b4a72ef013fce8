-- The loop's invariant: the state is that after the iterations before t.
use Rattle.std.proofs.Common.{◌≡◌, ◌+◌, ◌-◌, ◌≤◌}
use Rattle.kuhn.specs.Solve.{iterated}
use Rattle.kuhn.proofs.iterated.Given as goal

abbrev pub invariant-loop-t : goal.invariant-loop-t
invariant-loop-t l =
    record {
      from_one : 1 ≤ l.t;
      to_n : l.t ≤ l.n + 1;
      before : l.state ≡ iterated l.variant (l.t - 1);
    }
