-- What the code reads by rows: the targets of a section, the children that a loop over the child rows has left, a node's row.
use Rattle.std.proofs.Common.{◌≡◌, ℕ, ◌<◌, List, arith, refl, sym, inl, inr}
use Rattle.std.proofs.lemmas.Bool.{cases_lt}
use Rattle.answer.specs.Checks.{◌>>◌, each}
use Rattle.answer.proofs.CheckLaws.{each-none, each-more, each-stops}
use Rattle.rows.proofs.StoreLaws.{each_rows}
use Rattle.layout.specs.Layout.{root_of, row_count, field}
use Rattle.layout.specs.declared.section.Section.TheVariants.{Nodes, Actions, Chances}
use Rattle.opening.proofs.AcceptedRows.{entities_differ}
use Rattle.graph_relations.specs.Relations.{children_of}
use Rattle.graph_relations.specs.RelationRows.{child_rows}
use Rattle.game.specs.declared.ActionEdge.{ActionEdge}
use Rattle.game.specs.Chance.{Chance}
use Rattle.sheet.specs.Meaning.{action_row, chance_row, game_of, Opens}
use Rattle.sheet.proofs.OpeningLaws.{opens_layout, few_nodes}
use Rattle.topology.specs.Topology.{node_check, targets_check}

-- ---- targets: at byte 8 of a row of the actions or the chances
pub targets_by_row : (s : List ℕ) → targets_check (game_of s)
    ≡ (node_check (game_of s) (root_of s)
    >> (each (row_count s Actions) (λ i. node_check (game_of s) (field s Actions i 8)) >> each (row_count s Chances) (λ i. node_check (game_of s) (field s Chances i 8))))
unfolding targets_check game_of action_row chance_row
targets_by_row s =
    cc (
      each_rows (action_row s) (λ (a : ActionEdge). node_check (game_of s) a.target) (row_count s Actions),
      each_rows (chance_row s) (λ (c : Chance). node_check (game_of s) c.target) (row_count s Chances),
    )

pub ruleset targets = (each-none, each-more, each-stops, targets_by_row)

-- ---- children
pub children_all : (s : List ℕ) (parent : ℕ) → children_of parent (child_rows s) ≡ children_of parent (game_of s).children
unfolding game_of
children_all s parent = refl

pub ruleset children = (children_all)

-- ---- nodes
-- no two rows name one node
pub nodes_differ : (s : List ℕ) → Opens s → (i j : ℕ) → i < row_count s Nodes → j < row_count s Nodes → (i ≡ j → ⊥) → field s Nodes i 0 ≡ field s Nodes j 0 → ⊥
nodes_differ s ok i j l m apart p =
    elim (cases_lt i j) [
      | inl below ↦ entities_differ s ok Nodes refl i j below m p
      | inr above ↦ entities_differ s ok Nodes refl j i (omega arith) l (sym p)
    ]

pub ruleset walk = (children_all, few_nodes)
