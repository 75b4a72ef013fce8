-- `link_rows` links every child row, from the last to the first. The loop's invariant: those from row i on are linked.
use Rattle.std.proofs.Common.{◌≡◌, ◌<◌, ◌≤◌, length}
use Rattle.child_rows.specs.Links.{LinkedFrom}
use Rattle.child_rows.proofs.link_rows.Given as goal

abbrev pub invariant-loop-i : goal.invariant-loop-i
invariant-loop-i l = (length l.links ≡ length l.initial.links) × LinkedFrom l.lookup.sheet.now l.i l.links × (0 < l.near) × (l.near ≤ 65536)
