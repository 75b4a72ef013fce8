-- The walk goes down by the depth left. The loop's invariant: what is written, with the paths along the edges that are left behind it, is the
-- whole.
use Rattle.std.proofs.Common.{◌≡◌, ◌+◌, ◌*◌, ◌-◌}
use Rattle.sheet.specs.Meaning.{game_of}
use Rattle.text.specs.Writing.{appended, Fits}
use Rattle.paths.specs.Writing.{words_from, words_along}
use Rattle.paths.proofs.Steps.{IsSound}
use Rattle.paths.proofs.writing.+write.Given as goal

abbrev pub decreases-write_paths : goal.decreases-write_paths
decreases-write_paths l = 2 * l.left + 1

abbrev pub decreases-write_edges : goal.decreases-write_edges
decreases-write_edges l = 2 * l.left

abbrev pub invariant-write_edges-loop-edge : goal.invariant-write_edges-loop-edge
invariant-write_edges-loop-edge l =
    let g = game_of l.lookup.sheet.now in
    let rest = words_along g (l.left - 1) l.fn.labels.items l.edge-iterator in
    record {
      labels : l.labels.items ≡ l.fn.labels.items;
      sound : IsSound g (l.left - 1) l.edge-iterator;
      room : Fits l.words rest;
      left : appended l.words rest ≡ appended l.fn.words (words_from g l.left l.entity l.fn.labels.items);
    }
