-- One step of a walk: each action leads to fewer moves, so three are enough wherever the play goes on.
use Rattle.std.proofs.Common.{◌≡◌, refl, ℕ, ◌<◌, lit<}
use Rattle.kuhn_poker.specs.Binary64.{six, ◌⊗◌, ◌⊘◌}
use Rattle.kuhn_poker.specs.declared.Action.{Action}
use Rattle.kuhn_poker.specs.declared.Action.TheVariants.{Pass, Bet}
use Rattle.kuhn_poker.specs.declared.History.{History}
use Rattle.kuhn_poker.specs.declared.History.TheVariants.{Start, AfterPass, AfterBet, AfterPassBet}
use Rattle.kuhn_poker.specs.declared.Deal.{Deal}
use Rattle.kuhn_poker.specs.declared.Reach.{Reach}
use Rattle.kuhn_poker.specs.declared.Tables.{Tables}
use Rattle.kuhn_poker.specs.KuhnPoker.{player_at, opponent, information_set, Outcome, next, terminal, outcome}
use Rattle.kuhn_poker.specs.Actions.{each_action, times, expectation}
use Rattle.kuhn_poker.specs.Strategy.{StrategyProfile, expected_value_in, expected_value, action_value, reach_of, after_move}
use Rattle.kuhn_poker.specs.Regret.{gain}
use Rattle.kuhn_poker.specs.Walk.{add_at, walk_in, walk, play}
use Rattle.std.specs.Prelude.{Float}

-- the most moves that a play has from a history on
abbrev pub moves_left : History → ℕ
moves_left Start = 3
moves_left AfterPass = 2
moves_left AfterBet = 1
moves_left AfterPassBet = 1

abbrev pub moves_after : Outcome → ℕ
moves_after (next h) = moves_left h
moves_after (terminal x) = 0

pub fewer_left : (d : Deal) (h : History) (a : Action) → moves_after (outcome d h a) < moves_left h
fewer_left d Start Pass = lit< tt
fewer_left d Start Bet = lit< tt
fewer_left d AfterPass Pass = lit< tt
fewer_left d AfterPass Bet = lit< tt
fewer_left d AfterBet Pass = lit< tt
fewer_left d AfterBet Bet = lit< tt
fewer_left d AfterPassBet Pass = lit< tt
fewer_left d AfterPassBet Bet = lit< tt

pub value_step : (σ : StrategyProfile) (d : Deal) (h : History)
    → expected_value σ d h ≡ expectation (σ (information_set d h)) (each_action (action_value σ d h))
unfolding expected_value_in
value_step σ d Start = refl
value_step σ d AfterPass = refl
value_step σ d AfterBet = refl
value_step σ d AfterPassBet = refl

module _ (σ : StrategyProfile) (w : Float) (d : Deal) (r : Reach) (t : Tables) where
  abbrev pub in_steps : History → Tables
  in_steps h =
      let i = player_at h in
      let s = information_set d h in
      let t₀ = record t { sums = add_at t.sums s (times (w ⊗ (reach_of r i ⊘ six)) (σ s)) } in
      let t₁ = play σ w d h Pass (after_move i (σ s).pass r) t₀ in
      let t₂ = play σ w d h Bet (after_move i (σ s).bet r) t₁ in
      record t₂ { deltas = add_at t₂.deltas s (times (reach_of r (opponent i) ⊘ six) (each_action (gain σ d h))) }

  pub walk_step : (h : History) → walk σ w d h r t ≡ in_steps h
  unfolding walk_in
  walk_step Start = refl
  walk_step AfterPass = refl
  walk_step AfterBet = refl
  walk_step AfterPassBet = refl

pub ruleset steps = (fewer_left, value_step, walk_step)
