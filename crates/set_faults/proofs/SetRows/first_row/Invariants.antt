-- The first row of the set is the first of the rows from row j on.
use Rattle.std.proofs.Common.{◌≡◌}
use Rattle.sheet.specs.Meaning.{set_row, game_of}
use Rattle.set_faults.specs.Faults.{first_row}
use Rattle.set_faults.specs.Words.{first_from}
use Rattle.set_faults.proofs.SetRows.first_row.Given as goal

abbrev pub invariant-loop-j : goal.invariant-loop-j
invariant-loop-j l =
    let s = l.self.lookup.sheet.now in
    first_row (game_of s) (set_row s l.i).id ≡ first_from s (set_row s l.i).id l.j
