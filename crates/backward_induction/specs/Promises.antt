-- What a buyer is promised of the call on any bytes whatever: two limits, and no rival plan is better. Definitions only.
use Rattle.std.specs.Prelude.{◌≡◌, List, ℕ, ◌≤◌, T, Some, Ok}
use Rattle.std.specs.Prelude.{slice_get}
use Rattle.number.specs.Number.{Number, at_most}
use Rattle.sheet.specs.Meaning.{game_of}
use Rattle.backward_induction.specs.declared.Method.{Method}
use Rattle.backward_induction.specs.Solve.{Solution, Spent}
use Rattle.backward_induction.specs.Plans.{Visits, Plan, Picks, evaluate}
use Rattle.backward_induction.specs.Call.{solution}

-- the call from the start with the limit d visits the node n
abbrev pub Visited : List ℕ → ℕ → ℕ → ℕ → Type 0
Visited s start d n = (left : ℕ) × Visits (game_of s) d start left n

module _ (method : Method) (s : List ℕ) (start : ℕ) where
  -- At the node n, which the call with the limit d visits: the call from n has an answer, the node's own, and for every player with a payoff there
  -- and every plan of that player, the plan has a value from n, with the same roundings in the same order, and it is at most that payoff. It may be minus infinity.
  pub record NoBetter (d n : ℕ) : Type 0 where
    pub answer : Solution
    pub answered : solution method s n d ≡ Ok answer
    pub no_plan_better : (player : ℕ) (payoff : Number) → slice_get answer.payoffs player ≡ Some payoff
        → (plan : Plan) → Picks (game_of s) d start player plan
        → (v : Number) × (evaluate method (game_of s) d player plan n ≡ Ok v) × T (at_most v payoff)

  pub record Promises : Type 0 where
    -- a larger limit never changes an answer other than depth spent
    pub two_limits : (d d' : ℕ) → 1 ≤ d → d ≤ d' → d' ≤ 64 → ¬ Spent (solution method s start d) → solution method s start d' ≡ solution method s start d
    -- where the answer is a solution, no plan of any player is better at any node visited
    pub no_better : (d : ℕ) → 1 ≤ d → d ≤ 64 → (x : Solution) → solution method s start d ≡ Ok x → (n : ℕ) → Visited s start d n → NoBetter d n
