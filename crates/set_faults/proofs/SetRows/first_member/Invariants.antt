-- The rows so far give nothing.
use Rattle.std.proofs.Common.{◌≡◌}
use Rattle.sheet.specs.Meaning.{set_row}
use Rattle.set_faults.specs.Faults.{member_in}
use Rattle.set_faults.specs.Words.{kept_from}
use Rattle.set_faults.proofs.SetRows.first_member.Given as goal

abbrev pub invariant-loop-row : goal.invariant-loop-row
invariant-loop-row l =
    let s = l.self.lookup.sheet.now in
    record { same : kept_from (member_in l.id) (set_row s) l.end l.from ≡ kept_from (member_in l.id) (set_row s) l.end l.row }
