-- The payoffs that the code holds. Definitions only.
use Rattle.std.specs.Prelude.{List, map, take}
use Rattle.number.specs.Number.{Number}
use Rattle.number.specs.Meaning.{meaning}
use Rattle.turns.specs.declared.payoffs.Payoffs.{Payoffs}

abbrev pub payoffs_of : Payoffs → List Number
payoffs_of p = map meaning (take p.count p.values)
