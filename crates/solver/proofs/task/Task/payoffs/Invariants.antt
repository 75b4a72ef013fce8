-- The payoffs that are read so far.
use Rattle.std.proofs.Common.{◌≡◌, length, take, map}
use Rattle.number.specs.Meaning.{meaning}
use Rattle.rows.specs.Store.{rows_from}
use Rattle.sheet.specs.Meaning.{payoff_row}
use Rattle.solver.specs.Tasks.{bytes_of}
use Rattle.solver.proofs.task.Task.payoffs.Given as goal

abbrev pub invariant-loop-j : goal.invariant-loop-j
invariant-loop-j l =
    record {
      long : length l.values ≡ 8;
      read : map meaning (take l.j l.values) ≡ rows_from (payoff_row (bytes_of l.self)) l.terminal.first l.j;
    }
