-- What a payoff is in the words of Number.antt. Definitions only.
use Rattle.number.specs.Number.{Number}
use Rattle.number.specs.Meaning.{meaning}
use Rattle.number.specs.declared.Utility.{Utility}

-- the number that a utility holds
abbrev pub utility : Utility → Number
utility u = meaning u.value
