-- A chance outcome as clauses see it. Definitions only.
use Rattle.std.specs.Prelude.{ℕ}
use Rattle.number.specs.Number.{Number}

-- an edge out of a chance node, with the number that its probability is
pub record Chance : Type 0 where
  pub edge : ℕ
  pub target : ℕ
  pub label : ℕ
  pub probability : Number
