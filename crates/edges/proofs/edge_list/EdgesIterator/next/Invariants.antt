-- The edges that are left were left at the start.
use Rattle.std.proofs.Common.{◌≡◌, Ok, length}
use Rattle.answer.specs.Checks.{checked}
use Rattle.edges.specs.Kinds.{edges_among, found_in}
use Rattle.edges.proofs.edge_list.EdgesIterator.next.Given as goal

abbrev pub invariant-loop-child : goal.invariant-loop-child
invariant-loop-child g l =
    let now = l.self-inside in
    record {
      left : l.fn.self ≡ found_in (edges_among g.E.Edge.found g.E.Edge.target_of now.lookup.sheet.now now.children);
      sound : checked (edges_among g.E.Edge.found g.E.Edge.target_of now.lookup.sheet.now now.children) ≡ Ok tt;
    }

abbrev pub decreases-loop-child : goal.decreases-loop-child
decreases-loop-child g l = length l.self-inside.children
