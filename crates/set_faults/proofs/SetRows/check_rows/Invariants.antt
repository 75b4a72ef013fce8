-- The rows before row i have no fault.
use Rattle.set_faults.specs.Words.{IsSoundBefore}
use Rattle.set_faults.proofs.SetRows.check_rows.Given as goal

abbrev pub invariant-loop-i : goal.invariant-loop-i
invariant-loop-i l = IsSoundBefore l.self.lookup.sheet.now l.i
