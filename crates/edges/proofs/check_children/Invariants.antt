-- The first fault is the first among the children that are left.
use Rattle.std.proofs.Common.{◌≡◌}
use Rattle.answer.specs.Checks.{checked}
use Rattle.edges.specs.Kinds.{edges_among}
use Rattle.edges.proofs.check_children.Given as goal

abbrev pub invariant-loop-child : goal.invariant-loop-child
invariant-loop-child g l =
    checked (edges_among g.E.Edge.found g.E.Edge.target_of l.lookup.sheet.now l.fn.children)
    ≡ checked (edges_among g.E.Edge.found g.E.Edge.target_of l.lookup.sheet.now l.child-iterator)
