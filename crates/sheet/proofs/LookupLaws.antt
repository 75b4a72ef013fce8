-- The row of an entity in a sheet's game is the row that the search in the sheet's section found.
use Rattle.std.proofs.Common.{◌≡◌, ℕ, List, refl}
use Rattle.std.specs.Prelude.{option_map}
use Rattle.rows.specs.Rows.{find_row}
use Rattle.layout.specs.declared.section.Section.TheVariants.{Nodes, Actions, Chances, Terminals}
use Rattle.layout.specs.Layout.{width, section_of, row_count}
use Rattle.lookup.proofs.FoundLaws.{lookup_row}
use Rattle.game.specs.declared.Node.{Node}
use Rattle.game.specs.declared.ActionEdge.{ActionEdge}
use Rattle.game.specs.Chance.{Chance}
use Rattle.game.specs.Game.{TerminalUtility, node_of, action_of, chance_of, terminal_of}
use Rattle.sheet.specs.Meaning.{node_row, action_row, chance_row, terminal_row, game_of}

module _ (s : List ℕ) (e : ℕ) where
  pub node_lookup : node_of (game_of s) e ≡ option_map (node_row s) (find_row (width s Nodes) (section_of s Nodes) (row_count s Nodes) e)
  unfolding node_of game_of node_row
  node_lookup = lookup_row s Nodes e (node_row s) (λ (n : Node). n.entity) (λ i. refl)

  pub action_lookup : action_of (game_of s) e ≡ option_map (action_row s) (find_row (width s Actions) (section_of s Actions) (row_count s Actions) e)
  unfolding action_of game_of action_row
  action_lookup = lookup_row s Actions e (action_row s) (λ (a : ActionEdge). a.edge) (λ i. refl)

  pub chance_lookup : chance_of (game_of s) e ≡ option_map (chance_row s) (find_row (width s Chances) (section_of s Chances) (row_count s Chances) e)
  unfolding chance_of game_of chance_row
  chance_lookup = lookup_row s Chances e (chance_row s) (λ (o : Chance). o.edge) (λ i. refl)

  pub terminal_lookup : terminal_of (game_of s) e ≡ option_map (terminal_row s) (find_row (width s Terminals) (section_of s Terminals) (row_count s Terminals) e)
  unfolding terminal_of game_of terminal_row
  terminal_lookup = lookup_row s Terminals e (terminal_row s) (λ (t : TerminalUtility). t.entity) (λ i. refl)
