-- The walk goes down by the depth left. The loop's invariant: with any depth from `deepest` on for the targets, the edges that are left and the
-- counts so far make the node's counts.
use Rattle.std.proofs.Common.{◌≡◌, ℕ, ◌+◌, ◌*◌, ◌≤◌}
use Rattle.sheet.specs.Meaning.{game_of}
use Rattle.memo.specs.Kept.{Stays}
use Rattle.path_counts.specs.Counts.{counts_at, counts_from, counts_by_edges}
use Rattle.path_counts.proofs.Counter.+count.Given as goal

abbrev pub decreases-count_node : goal.decreases-count_node
decreases-count_node l = 4 * l.left

abbrev pub decreases-count_new : goal.decreases-count_new
decreases-count_new l = 4 * l.left + 3

abbrev pub decreases-count_kind : goal.decreases-count_kind
decreases-count_kind l = 4 * l.left + 2

abbrev pub decreases-count_edges : goal.decreases-count_edges
decreases-count_edges l = 4 * l.left + 1

abbrev pub invariant-count_edges-loop-edge : goal.invariant-count_edges-loop-edge
invariant-count_edges-loop-edge l =
    let g = game_of l.fn.self.lookup.sheet.now in
    record {
      same_sheet : l.self.lookup.sheet ≡ l.fn.self.lookup.sheet;
      stays : Stays l.fn.self.memo.now l.self.memo.now;
      low : l.deepest ≤ l.left;
      left : (d : ℕ) → l.deepest ≤ d → counts_by_edges g (counts_at g d) l.entity ≡ counts_from (counts_at g d) l.entity l.total l.edge-iterator;
    }
