-- The loop's invariant: what is done and the rest make up the whole.
use Rattle.std.proofs.Common.{◌≡◌, ◌++◌, map, take, drop}
use Rattle.kuhn_poker.specs.Actions.{regret_matching}
use Rattle.kuhn.proofs.profile_of.Given as goal

abbrev pub invariant-loop-strategy : goal.invariant-loop-strategy
invariant-loop-strategy l = map regret_matching l.regrets ≡ take l.strategy-index l.strategy-items ++ map regret_matching (drop l.strategy-index l.strategy-items)
