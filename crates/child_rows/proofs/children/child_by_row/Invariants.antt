-- The rows so far give no child: the children that are left are those from the loop's row on.
use Rattle.std.proofs.Common.{◌≡◌, None}
use Rattle.child_rows.specs.Children.{children_left, IsOn}
use Rattle.child_rows.proofs.children.child_by_row.Given as goal

abbrev pub invariant-loop-i : goal.invariant-loop-i
invariant-loop-i l =
    record {
      same : children_left l.sections.bytes.now l.parent l.from ≡ children_left l.sections.bytes.now l.parent l.i;
      on : IsOn l.sections.bytes.now None l.parent l.count l.i;
    }
