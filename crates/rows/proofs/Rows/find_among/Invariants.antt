-- `find_among` answers the first row that names the entity. The loop's invariant: no row so far names it.
use mathlib.Core.Path.{◌≡◌}
use Rattle.std.specs.Prelude.{None}
use Rattle.rows.specs.Rows.{find_row}
use Rattle.rows.proofs.Rows.find_among.Given as goal

abbrev pub invariant-loop-i : goal.invariant-loop-i
invariant-loop-i l = find_row l.self.width l.self.bytes.now l.i l.entity ≡ None
