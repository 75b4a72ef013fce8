-- The rows so far give no child: the children that are left are those from the loop's row on.
use Rattle.std.proofs.Common.{◌≡◌, ◌-◌, Some}
use Rattle.child_rows.specs.Children.{children_left, IsOn}
use Rattle.child_rows.proofs.children.child_along.Given as goal

abbrev pub invariant-loop-row : goal.invariant-loop-row
invariant-loop-row l =
    record {
      same : children_left l.sections.bytes.now l.parent l.from ≡ children_left l.sections.bytes.now l.parent l.row;
      on : IsOn l.sections.bytes.now (Some l.links) l.parent l.count l.row;
    }

abbrev pub decreases-loop-row : goal.decreases-loop-row
decreases-loop-row l = l.count - l.row
