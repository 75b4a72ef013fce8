-- The products are those made so far, and those of the values that are left.
use Rattle.std.proofs.Common.{◌≡◌, ◌++◌, take, drop, map, Float}
use Rattle.number.specs.Number.{times}
use Rattle.number.specs.Meaning.{meaning}
use Rattle.turns.proofs.payoffs.Payoffs.weighed.Given as goal

abbrev pub invariant-loop-x : goal.invariant-loop-x
invariant-loop-x l =
    map (λ (v : Float). times (meaning l.probability) (meaning v)) l.fn.self.values
    ≡ map meaning (take l.x-index l.x-items) ++ map (λ (v : Float). times (meaning l.probability) (meaning v)) (drop l.x-index l.x-items)
