-- The rows so far give nothing.
use Rattle.std.proofs.Common.{◌≡◌}
use Rattle.graph_relations.specs.RelationRows.{child_row}
use Rattle.sheet.specs.Meaning.{game_of}
use Rattle.set_faults.specs.Words.{label_of, kept_from}
use Rattle.set_faults.proofs.SetRows.first_label.Given as goal

abbrev pub invariant-loop-row : goal.invariant-loop-row
invariant-loop-row l =
    let s = l.self.lookup.sheet.now in
    record { same : kept_from (label_of (game_of s) l.node) (child_row s) l.end l.from ≡ kept_from (label_of (game_of s) l.node) (child_row s) l.end l.row }
