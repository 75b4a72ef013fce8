-- The sums are those made so far, and those of the values that are left.
use Rattle.std.proofs.Common.{◌≡◌, ◌++◌, length, take, drop, map}
use mathlib.Core.List.{zip_with}
use Rattle.number.specs.Number.{plus}
use Rattle.number.specs.Meaning.{meaning}
use Rattle.turns.proofs.payoffs.Payoffs.plus.Given as goal

abbrev pub invariant-loop-i : goal.invariant-loop-i
invariant-loop-i l =
    record {
      long : length l.x-items ≡ 8;
      sums : zip_with plus (map meaning l.fn.self.values) (map meaning l.more.values)
          ≡ map meaning (take l.i l.x-items) ++ zip_with plus (map meaning (drop l.i l.x-items)) (map meaning (drop l.i l.more.values));
    }
