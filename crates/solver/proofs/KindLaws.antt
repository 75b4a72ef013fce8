-- The solve of a node by its kind, and what an answer at its targets makes of it.
use Rattle.std.proofs.Common.{◌≡◌, ℕ, zero, suc, ◌+◌, ◌≤◌, List, [], Option, None, Some, Ok, Err, true, false, IfSome, is_some, option_map, slice_get, refl, sym, ◌∙◌, add-one}
use Rattle.answer.specs.Checks.{◌>>=◌}
use Rattle.answer.specs.declared.Refusal.{Refusal}
use Rattle.answer.specs.declared.Refusal.TheVariants.{DepthSpent, MissingNode, MissingTerminalUtility, UnsupportedChanceNode, OutOfRange}
use Rattle.rows.specs.Rows.{find_row}
use Rattle.number.specs.Number.{Number}
use Rattle.layout.specs.Layout.{width, section_of, row_count}
use Rattle.layout.specs.declared.section.Section.TheVariants.{Nodes}
use Rattle.game.specs.declared.Kind.{Kind}
use Rattle.game.specs.declared.Kind.TheVariants as Kinds
use Rattle.game.specs.Chance.{Chance}
use Rattle.game.specs.declared.ActionEdge.{ActionEdge}
use Rattle.game.specs.Game.{Game, TerminalUtility, kind_of, action_of, chance_of, terminal_of}
use Rattle.game.specs.Edges.{outgoing_action_edges, outgoing_chance_outcomes}
use Rattle.sheet.specs.Meaning.{node_row, game_of}
use Rattle.sheet.proofs.NodeRows.{node_at, node_missing, found_row}
use Rattle.backward_induction.specs.declared.Method.{Method}
use Rattle.backward_induction.specs.declared.Method.TheVariants as Methods
use Rattle.backward_induction.specs.Solve.{Solver, all_finite, weighed, at_chance, at_kind, step, solve}
use Rattle.backward_induction.specs.Turns.{sums_from}
use Rattle.backward_induction.proofs.SolveLaws.{best_of_from, sums_of_from, in_range_lem, not_in_range}
use Rattle.edges.specs.Kinds.{edges_out}
use Rattle.memo.specs.declared.Kept.{Kept}
use Rattle.memo.specs.Kept.{IsKept, IsMemo}
use Rattle.turns.specs.declared.Play.{Play}
use Rattle.solver.specs.declared.task.Task.{Task}
use Rattle.solver.specs.Tasks.{bytes_of, solved, told_of, Answered}
use Rattle.solver.specs.Kinds.{GoesBy}
use Rattle.solver.specs.Loops.{Deciding, Weighing}

-- the chance-weighted solve of a chance node with these outcomes
weighted_at : (m : Method) (g : Game) (f : Solver) (e : ℕ) (os : List Chance) → m ≡ Methods.ChanceWeighted → Ok os ≡ outgoing_chance_outcomes g e
    → at_kind m g f e Kinds.Chance ≡ (sums_from f e None os >>= weighed e)
unfolding at_kind at_chance
weighted_at m g f e os q h = rw (q, ← h, sums_of_from f e os) refl

-- ---- a node
module _ (t : Task) (e : ℕ) where
  pub solved_zero : (left : ℕ) → left ≡ 0 → solved t left e ≡ Err (DepthSpent e)
  unfolding solve
  solved_zero left h = rw h refl

  pub solved_missing : (left : ℕ) → (left ≡ 0 → ⊥) → kind_of (game_of (bytes_of t)) e ≡ None → solved t left e ≡ Err (MissingNode e)
  unfolding solve step
  solved_missing zero some h = absurd (some refl)
  solved_missing (suc d) some h = rw h refl

  pub goes_by : (kind : Kind) → kind_of (game_of (bytes_of t)) e ≡ Some kind → GoesBy t e kind
  unfolding solve step
  goes_by kind h = record { step = λ d. rw (add-one, h) refl }

  -- ---- a terminal
  pub terminal_missing : GoesBy t e Kinds.Terminal → terminal_of (game_of (bytes_of t)) e ≡ None → (d : ℕ) → solved t (d + 1) e ≡ Err (MissingTerminalUtility e)
  unfolding at_kind
  terminal_missing by h d = by.step d ∙ rw h refl

  pub terminal_found : GoesBy t e Kinds.Terminal → (u : TerminalUtility) → terminal_of (game_of (bytes_of t)) e ≡ Some u
      → (d : ℕ) → solved t (d + 1) e ≡ Ok (record { terminal = Some e; actions = []; payoffs = u.payoffs })
  unfolding at_kind
  terminal_found by u h d = by.step d ∙ rw h refl

  -- ---- a decision
  module _ (p : ℕ) (by : GoesBy t e (Kinds.Decision p)) where
    pub decision_refused : (r : Refusal) → Err r ≡ edges_out action_of (λ x. x.target) (bytes_of t) e → (d : ℕ) → solved t (d + 1) e ≡ Err r
    unfolding at_kind outgoing_action_edges
    decision_refused r h d = by.step d ∙ rw (← h) refl

    pub decision_starts : (xs : List ActionEdge) → Ok xs ≡ edges_out action_of (λ x. x.target) (bytes_of t) e → Deciding t e p 0 None xs
    unfolding at_kind outgoing_action_edges
    decision_starts xs h =
        record {
          lead_is = record { follows = λ r q. absurd cc };
          left = λ d _. by.step d ∙ rw (← h, best_of_from (solved t d) p e xs) refl;
        }

  -- ---- a chance node
  module _ (by : GoesBy t e Kinds.Chance) where
    pub chance_plain : t.method ≡ Methods.Plain → (d : ℕ) → solved t (d + 1) e ≡ Err (UnsupportedChanceNode e)
    unfolding at_kind at_chance
    chance_plain m d = by.step d ∙ rw m refl

    module _ (m : t.method ≡ Methods.ChanceWeighted) where
      pub chance_refused : (r : Refusal) → Err r ≡ edges_out chance_of (λ o. o.target) (bytes_of t) e → (d : ℕ) → solved t (d + 1) e ≡ Err r
      unfolding at_kind at_chance outgoing_chance_outcomes
      chance_refused r h d = by.step d ∙ rw (m, ← h) refl

      pub chance_starts : (os : List Chance) → Ok os ≡ edges_out chance_of (λ o. o.target) (bytes_of t) e → Weighing t e 0 None os
      unfolding outgoing_chance_outcomes
      chance_starts os h = record { left = λ d _. by.step d ∙ weighted_at t.method (game_of (bytes_of t)) (solved t d) e os m h }

  pub out_of_range : (vs : List Number) → false ≡ all_finite vs → weighed e vs ≡ Err (OutOfRange e)
  out_of_range vs h = rw (not_in_range e vs (sym h)) refl

  pub all_in_range : (vs : List Number) → true ≡ all_finite vs → weighed e vs ≡ Ok (record { terminal = None; actions = []; payoffs = vs })
  all_in_range vs h = rw (in_range_lem e vs (sym h)) refl

-- ---- the row that a lookup found is the node's
module _ (s : List ℕ) (e : ℕ) where
  pub found_kind : (f : Option ℕ) → f ≡ find_row (width s Nodes) (section_of s Nodes) (row_count s Nodes) e → option_map (λ row. (node_row s row).kind) f ≡ kind_of (game_of s) e
  found_kind None h = sym (node_missing s e _ h refl)
  found_kind (Some row) h = sym (node_at s e _ h row refl).kind

-- what is known in a row is kept there, and is its node's
pub known_keeps : {B : Type 0} (now : B → Kept Play) (t : Task) (rows : List (Option (Kept Play))) (row left : ℕ) (node : ℕ → ℕ) (o : Option B)
    → IsMemo (solved t) (told_of t) node rows → IfSome o (λ k. slice_get rows row ≡ Some (Some (now k))) → IfSome o (λ k. (now k).height ≤ left)
    → is_some o ≡ true → IsKept rows (Answered t left (node row)) row
known_keeps now t rows row left node None memo here low some = absurd cc
known_keeps now t rows row left node (Some k) memo here low some =
    record { kept = now k; here = here; is = record { low = low; is_right = memo.kept_right row (now k) here } }

pub ruleset node_rows = (found_row, found_kind)

pub ruleset steps = (solved_zero, solved_missing, goes_by)
