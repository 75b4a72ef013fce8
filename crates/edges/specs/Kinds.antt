-- The edges of one kind out of a node of the sheet s, where `found` looks an entity up as such an edge and `target` is the node that it leads to. Definitions only.
use Rattle.answer.specs.Checks.{collect}
use Rattle.answer.specs.declared.Refusal.{Refusal}
use Rattle.std.specs.Prelude.{ℕ, List, [], Option, Result, Ok, Err}
use Rattle.graph_relations.specs.RelationRows.{child_row}
use Rattle.game.specs.Game.{Game}
use Rattle.game.specs.Edges.{edge_of, edge_in, outgoing}
use Rattle.sheet.specs.Meaning.{game_of}

-- what was found, where there is no fault
abbrev pub found_in : {A : Type 0} → Result (List A) Refusal → List A
found_in (Ok xs) = xs
found_in (Err r) = []

module _ {R : Type 0} (found : Game → ℕ → Option R) (target : R → ℕ) (s : List ℕ) where
  -- an entity as an edge: none without a row, or the fault of its transition
  abbrev pub entity_edge : ℕ → Result (Option R) Refusal
  entity_edge e = edge_of (game_of s) (found (game_of s)) target e

  -- the edge of the source that child row i gives: none where it gives none, or the fault of its transition
  abbrev pub row_edge : ℕ → ℕ → Result (Option R) Refusal
  row_edge source i = edge_in (game_of s) (found (game_of s)) target source (child_row s i)

  -- the edges among some children, or the first fault among them
  unfoldable pub edges_among : List ℕ → Result (List R) Refusal
  edges_among children = collect entity_edge children

  -- the edges out of the source, or the first fault among them
  abbrev pub edges_out : ℕ → Result (List R) Refusal
  edges_out source = outgoing (game_of s) (found (game_of s)) target source
