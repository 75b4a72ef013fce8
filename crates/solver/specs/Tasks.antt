-- What a solve is asked, node by node, and what its answers stand for. Definitions only.
use Rattle.std.specs.Prelude.{ℕ, List, [], Result, Ok, Err}
use Rattle.answer.specs.declared.Refusal.{Refusal}
use Rattle.sheet.specs.Meaning.{game_of}
use Rattle.backward_induction.specs.Solve.{Solution, solve}
use Rattle.memo.specs.declared.Kept.{Kept}
use Rattle.memo.specs.Kept.{Answers}
use Rattle.turns.specs.declared.Play.{Play}
use Rattle.turns.specs.Plays.{told}
use Rattle.solver.specs.declared.task.Task.{Task}

-- the bytes of the sheet
abbrev pub bytes_of : Task → List ℕ
bytes_of t = t.links.lookup.sheet.now

-- the answer of the node e with so many depths left
abbrev pub solved : Task → ℕ → ℕ → Result Solution Refusal
solved t depth e = solve t.method (game_of (bytes_of t)) depth e

abbrev pub actions_in : Result Solution Refusal → List ℕ
actions_in (Ok s) = s.actions
actions_in (Err r) = []

-- the actions from the node e on, with all the depth that a solve may have
unfoldable pub actions_at : Task → ℕ → List ℕ
actions_at t e = actions_in (solved t 64 e)

-- the solution of a play
abbrev pub told_of : Task → Play → Solution
told_of t play = told (actions_at t) play

-- the kept answer is that of the node e, and holds with so much depth left
abbrev pub Answered : Task → ℕ → ℕ → Kept Play → Type 0
Answered t left e kept = Answers (solved t) (told_of t) left e kept

abbrev pub solution_in : Task → Result (Kept Play) Refusal → Result Solution Refusal
solution_in t (Ok kept) = Ok (told_of t kept.answer)
solution_in t (Err r) = Err r
