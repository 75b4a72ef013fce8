-- Where the edges give the counts with each depth from `deepest` on, the node has them with one more.
use Rattle.std.proofs.Common.{◌∙◌, arith}
use Rattle.std.proofs.lemmas.Grind.{common_steps}
use Rattle.sheet.specs.Meaning.{game_of}
use Rattle.memo.proofs.KeptLaws.{answers}
use Rattle.path_counts.specs.Counts.{counts_at}
use Rattle.path_counts.proofs.Counter.+count.Goals as goal

pub count_edges-returns-clause-kept : goal.count_edges-returns-clause-kept
count_edges-returns-clause-kept t c = rw c.keep_over.ensures.kept (answers _ _ _ _ _ _ c.loop-edge.invariant.low (λ d h. c.requires.edges.step d ∙ grind (arith, common_steps, c.loop-edge.invariant.left d h)))

pub count_edges-keep_over-requires-clause-right : goal.count_edges-keep_over-requires-clause-right
count_edges-keep_over-requires-clause-right t c =
    rw (c.loop-edge.invariant.same_sheet, c.requires.node.entity)
    (answers (counts_at (game_of c.args.self.now.lookup.sheet.now)) (λ n. n) c.args.entity c.loop-edge.deepest c.args.left c.in_ok-counts.counts c.loop-edge.invariant.low (λ d h. c.requires.edges.step d ∙ grind (arith, common_steps, c.loop-edge.invariant.left d h))).is_right
