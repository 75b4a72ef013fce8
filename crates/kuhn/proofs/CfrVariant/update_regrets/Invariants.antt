-- The loop's invariant: the update of what is left makes up the whole.
use Rattle.std.proofs.Common.{◌≡◌, ◌++◌, length, map, take, drop}
use Rattle.std.specs.List.{zip}
use Rattle.kuhn.specs.Variants.{cumulative_regrets}
use Rattle.kuhn.proofs.CfrVariant.update_regrets.Given as goal

abbrev pub invariant-loop-i : goal.invariant-loop-i
invariant-loop-i l =
    record {
      long : length l.regrets ≡ 12;
      left :
          map (λ p. cumulative_regrets l.self l.weight p.0 p.1) (zip l.initial.regrets l.deltas)
          ≡ take l.i l.regrets ++ map (λ p. cumulative_regrets l.self l.weight p.0 p.1) (zip (drop l.i l.regrets) (drop l.i l.deltas));
    }
