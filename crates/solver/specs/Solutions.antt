-- The solution that the code's answer is. Definitions only.
use Rattle.std.specs.Prelude.{ℕ, List, take}
use Rattle.backward_induction.specs.Solve.{Solution}
use Rattle.turns.specs.Payoffs.{payoffs_of}
use Rattle.solver.specs.declared.solution.Labels.{Labels}
use Rattle.solver.specs.declared.solution.Solution.{Solution as Answer}

abbrev pub labels_of : Labels → List ℕ
labels_of l = take l.count l.numbers

abbrev pub solution_of : Answer → Solution
solution_of a = record { terminal = a.terminal; actions = labels_of a.labels; payoffs = payoffs_of a.payoffs }
