-- The children of a parent that the child rows from one on give. Definitions only.
use Rattle.std.specs.Prelude.{ℕ, ◌+◌, ◌-◌, ◌≤◌, ◌≡◌, List, Option, None, Some, IfSome}
use Rattle.rows.specs.Store.{rows_from}
use Rattle.layout.specs.declared.section.Section.TheVariants.{Children}
use Rattle.layout.specs.Layout.{row_count}
use Rattle.graph_relations.specs.Relations.{children_of}
use Rattle.graph_relations.specs.RelationRows.{child_row}
use Rattle.child_rows.specs.Links.{next_child, Chain}

unfoldable pub children_left : List ℕ → ℕ → ℕ → List ℕ
children_left s parent i = children_of parent (rows_from (child_row s) i (row_count s Children - i))

-- the child row after row i: where there are links, the next of the same parent
abbrev pub row_after : Option (List ℕ) → ℕ → ℕ
row_after None i = i + 1
row_after (Some links) i = next_child links i

-- row i is a child row of the sheet s or the end, n; where there are links, it is a row of the parent, and each leads to the next
pub record IsOn (s : List ℕ) (links : Option (List ℕ)) (parent n i : ℕ) : Type 0 where
  pub counted : n ≡ row_count s Children
  pub within : i ≤ n
  pub chain : IfSome links (λ l. Chain s l parent i)
