-- All are in range where those that are left are.
use Rattle.std.proofs.Common.{◌≡◌, drop, map}
use Rattle.number.specs.Meaning.{meaning}
use Rattle.backward_induction.specs.Solve.{all_finite}
use Rattle.turns.specs.Payoffs.{payoffs_of}
use Rattle.turns.proofs.payoffs.Payoffs.is_in_range.Given as goal

abbrev pub invariant-loop-x : goal.invariant-loop-x
invariant-loop-x l = all_finite (payoffs_of l.self) ≡ all_finite (map meaning (drop l.x-index l.x-items))
