-- The promises for any bytes, start and method, and what keeps them from being empty: each visited node has one answer, and a plan exists for each player, worth exactly the payoff.
use mathlib.Core.Path.{◌≡◌, refl, sym, ◌∙◌}
use mathlib.Core.List.{List}
use Rattle.std.specs.Prelude.{Some, slice_get, Err, Ok}
use Prim.Native.Nat.{ℕ, ◌≤◌}
use native.Mathlib.Omega.{arith}
use Rattle.number.specs.Number.{Number}
use Rattle.answer.specs.declared.Refusal.TheVariants.{DepthSpent}
use Rattle.sheet.specs.Meaning.{game_of, opening, Opens}
use Rattle.sheet.proofs.AcceptedGame.{accepted}
use Rattle.backward_induction.specs.declared.Method.{Method}
use Rattle.backward_induction.specs.Solve.{Solution, solve, Spent}
use Rattle.backward_induction.specs.Plans.{Visits, Plan, Picks, value, winner, moves, evaluate}
use Rattle.backward_induction.specs.Call.{solution}
use Rattle.backward_induction.specs.Promises.{Visited, NoBetter, Promises}
use Rattle.backward_induction.proofs.CallLaws.{call_is, call_opened, call_done}
use Rattle.backward_induction.proofs.Limits.{bind_agrees, done_not_spent, two_limits, value_limits}
use Rattle.backward_induction.proofs.Spent.{spent_visited}
use Rattle.backward_induction.proofs.Visited.{visits_on, visits_le, visited_whole, visits_same}
use Rattle.backward_induction.proofs.Own.{own_plan, own_picks, own_evaluates, winner_evaluates}
use Rattle.backward_induction.proofs.NoBetter.{bounded}

-- ---- two limits
pub limits : (method : Method) (s : List ℕ) (start d d' : ℕ) → 1 ≤ d → d ≤ d' → d' ≤ 64
    → ¬ Spent (solution method s start d) → solution method s start d' ≡ solution method s start d
limits method s start d d' least h most n =
    let at_d = call_is method s d least (omega arith) start in
    call_is method s d' (omega arith) most start
    ∙ bind_agrees (opening s) (opening s) _ _ (λ m. refl) (λ g. two_limits method g d d' h start) (rw at_d at n)
    ∙ sym at_d

-- ---- where the call is a solution
module _ (method : Method) (s : List ℕ) (start d : ℕ) (least : 1 ≤ d) (most : d ≤ 64) (x : Solution) (solved : solution method s start d ≡ Ok x) where
  -- each visit of a node, with however many depths left, has the call's own answer from that node
  pub visited_answer : (left n : ℕ) → Visits (game_of s) d start left n → (y : Solution) × (solution method s n d ≡ Ok y) × (solve method (game_of s) left n ≡ Ok y)
  visited_answer left n v =
      call_done method s d least most start x solved λ o e.
      let (y, a, b) = visited_whole method (game_of s) v x e in
      (y, call_opened method s d least most o n ∙ b, a)

  -- so a node visited again has the same answer
  pub visited_same : (left left' n : ℕ) → Visits (game_of s) d start left n → Visits (game_of s) d start left' n → solve method (game_of s) left n ≡ solve method (game_of s) left' n
  visited_same left left' n v w = call_done method s d least most start x solved λ o e. visits_same method (game_of s) v w x e

  pub no_better : (n : ℕ) → Visited s start d n → NoBetter method s start d n
  unfolding evaluate
  no_better n (left, v) =
      let (y, call, visit) = visited_answer left n v in
      record {
        answer = y;
        answered = call;
        no_plan_better = λ player u hu plan picks.
            call_done method s d least most start x solved λ o e.
            let (w, value_left, below) = bounded method (game_of s) (accepted s o) d player plan left n y visit (visits_le v) (λ k m xs z. picks k m xs (visits_on v z)) u hu in
            (w, value_limits (game_of s) (moves method (game_of s) d player plan) player left d (visits_le v) n (done_not_spent _ w value_left) ∙ value_left, below);
      }

-- ---- the solver's own choices
module _ (method : Method) (s : List ℕ) (d : ℕ) (least : 1 ≤ d) (most : d ≤ 64) where
  -- at every node from which the call has an answer, the edges that win evaluate to exactly the payoff
  pub own_value : (n : ℕ) (y : Solution) → solution method s n d ≡ Ok y → (player : ℕ) (payoff : Number) → slice_get y.payoffs player ≡ Some payoff
      → value (game_of s) (winner method (game_of s) d) player d n ≡ Ok payoff
  own_value n y answered player u hu = call_done method s d least most n y answered λ o e. winner_evaluates method (game_of s) d player n y e u hu

  -- where the call from the start is a solution, each player has a plan that is worth exactly the payoff at every node from which the call has an answer
  pub own_plan_lem : (start : ℕ) (x : Solution) → solution method s start d ≡ Ok x → (player : ℕ)
      → (plan : Plan)
      × Picks (game_of s) d start player plan
      × ((n : ℕ) (y : Solution) → solution method s n d ≡ Ok y → (payoff : Number) → slice_get y.payoffs player ≡ Some payoff → evaluate method (game_of s) d player plan n ≡ Ok payoff)
  own_plan_lem start x solved player = (
    own_plan method (game_of s) d player,
    call_done method s d least most start x solved λ o e. own_picks method (game_of s) d start x e player,
    λ n y answered u hu. call_done method s d least most n y answered λ o e. own_evaluates method (game_of s) d player n y e u hu,
  )

-- ---- depth spent: of a sheet that opens it is told only for a node that the solve reaches with no depth left
pub depth_spent_lem : (method : Method) (s : List ℕ) (start d : ℕ) → 1 ≤ d → d ≤ 64 → Opens s
    → (n : ℕ) → solution method s start d ≡ Err (DepthSpent n) → Visits (game_of s) d start 0 n
depth_spent_lem method s start d least most o n e =
    spent_visited n method (game_of s) d start (sym (call_opened method s d least most o start) ∙ e)

-- ---- the two promises
pub promises : (method : Method) (s : List ℕ) (start : ℕ) → Promises method s start
promises method s start =
    record {
      two_limits = limits method s start;
      no_better = no_better method s start;
    }
