-- After a refusal everything else is 0.
use mathlib.Core.Path.{◌≡◌}
use mathlib.Core.List.{map}
use Rattle.std.specs.Prelude.{false, replicate}
use lib.Ieee.{of_bits, binary64}
use Rattle.number.specs.Number.{finite, from_bits, from_fields}
use Rattle.number.specs.Meaning.{meaning}
use Rattle.number.proofs.Machine.{meaning_of_bits}
use Rattle.solver.specs.Held.{held_for, padded}
use Rattle.kgs.proofs.KgsSolutionFromResultSolutionRefusal.from.Goals as goal

no_payoffs : map meaning (replicate 8 (of_bits binary64 0)) ≡ replicate 8 (finite false 0)
unfolding from_bits from_fields
no_payoffs = rw (meaning_of_bits 0)

pub returns-in-Err : goal.returns-in-Err
unfolding held_for padded
returns-in-Err c = rw (c.in-Err.is, c.from-in-Err.ensures, no_payoffs)
