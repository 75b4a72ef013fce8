-- What a node's answer in the code stands for, and one edge's turn at a decision. Definitions only.
use Rattle.answer.specs.Checks.{◌>>=◌}
use Rattle.answer.specs.declared.Refusal.{Refusal}
use Rattle.answer.specs.declared.Refusal.TheVariants.{MissingPlayerPayoff}
use Rattle.std.specs.Prelude.{ℕ, List, [], ◌∷◌, cond, Option, None, Some, Result, Ok, ok_or, unwrap_or, slice_get}
use Rattle.number.specs.Number.{less}
use Rattle.number.specs.Meaning.{meaning}
use Rattle.game.specs.declared.ActionEdge.{ActionEdge}
use Rattle.backward_induction.specs.Solve.{Solution, Reply}
use Rattle.turns.specs.declared.Play.{Play}
use Rattle.turns.specs.declared.Reply.{Reply as Candidate}
use Rattle.turns.specs.Payoffs.{payoffs_of}

-- the actions of a play that begins with that edge, where `rest` has the actions from each node on
abbrev pub actions_from : (ℕ → List ℕ) → Option ActionEdge → List ℕ
actions_from rest None = []
actions_from rest (Some x) = x.label ∷ rest x.target

-- the solution of a play
abbrev pub told : (ℕ → List ℕ) → Play → Solution
told rest a = record { terminal = a.terminal; actions = actions_from rest a.first; payoffs = payoffs_of a.payoffs }

-- the reply of an edge whose target has that solution
abbrev pub replied : ActionEdge → Solution → ℕ → Result Reply Refusal
replied x s p =
    ok_or (slice_get s.payoffs p) (MissingPlayerPayoff (unwrap_or s.terminal x.target) p) >>= λ v.
    Ok (record { edge = x; solution = s; payoff = v })

abbrev pub reply_of : (ℕ → List ℕ) → Candidate → Reply
reply_of rest r = record { edge = r.edge; solution = told rest r.play; payoff = meaning r.payoff }

-- a later reply wins only by a strictly greater payoff
abbrev pub better_of : Option Candidate → Candidate → Candidate
better_of None r = r
better_of (Some kept) r = cond (less (meaning kept.payoff) (meaning r.payoff)) r kept
