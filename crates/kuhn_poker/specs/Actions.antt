-- A number for each action. Definitions only.
use Rattle.std.specs.Prelude.{if◌then◌else◌, Float}
use Rattle.std.specs.Float.Ieee.{lt}
use Rattle.kuhn_poker.specs.Binary64.{zero, half, ◌⊕◌, ◌⊗◌, ◌⊘◌, positive_part}
use Rattle.kuhn_poker.specs.declared.Action.{Action}
use Rattle.kuhn_poker.specs.declared.Action.TheVariants.{Pass, Bet}
use Rattle.kuhn_poker.specs.declared.PerAction.{PerAction}

abbrev pub each_action : (Action → Float) → PerAction
each_action f = record { pass = f Pass; bet = f Bet }

abbrev pub of_action : PerAction → Action → Float
of_action x Pass = x.pass
of_action x Bet = x.bet

abbrev pub no_amounts : PerAction
no_amounts = record { pass = zero; bet = zero }

abbrev pub plus : PerAction → PerAction → PerAction
plus x y = record { pass = x.pass ⊕ y.pass; bet = x.bet ⊕ y.bet }

abbrev pub times : Float → PerAction → PerAction
times k x = record { pass = k ⊗ x.pass; bet = k ⊗ x.bet }

-- probabilities in proportion to the weights x: halves where their sum is not above 0
unfoldable pub normalized : PerAction → PerAction
normalized x =
    (if lt zero (x.pass ⊕ x.bet)
    then record { pass = x.pass ⊘ (x.pass ⊕ x.bet); bet = x.bet ⊘ (x.pass ⊕ x.bet) }
    else record { pass = half; bet = half })

abbrev pub positive_parts : PerAction → PerAction
positive_parts x = record { pass = positive_part x.pass; bet = positive_part x.bet }

-- probabilities in proportion to the positive parts of cumulative regrets (Zinkevich et al. 2007)
unfoldable pub regret_matching : PerAction → PerAction
regret_matching r = normalized (positive_parts r)

-- the mean of the actions' values, where p has their probabilities
abbrev pub expectation : PerAction → PerAction → Float
expectation p values = (p.pass ⊗ values.pass) ⊕ (p.bet ⊗ values.bet)
