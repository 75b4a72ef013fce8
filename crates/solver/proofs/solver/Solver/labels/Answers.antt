-- One more label is written, and those of the play that is left are the next node's.
use Rattle.std.proofs.Common.{◌<◌, ◌∙◌, arith, length-set}
use Rattle.memo.proofs.KeptLaws.{stays_then}
use Rattle.solver.proofs.PlayLaws.{label_next, rest_next, label_room}
use Rattle.solver.proofs.solver.Solver.labels.Goals as goal

pub loop-next-preserved : goal.loop-next-preserved
loop-next-preserved c =
    let v = c.loop-next.invariant in
    let long = v.long in
    let written = rw c.in-Some.is at v.written in
    let room : c.loop-next.count < 64 = label_room _ c.loop-next.numbers _ _ _ written c.requires v.long in
    let follows = rw v.same_task at c.first_edge-next.ensures.actions in
    record {
      same_task = c.first_edge-next.ensures.same_task ∙ v.same_task;
      stays = stays_then _ _ _ v.stays c.first_edge-next.ensures.stays;
      room = omega arith;
      long = simp length-set long;
      written = (rw follows at written) ∙ label_next c.loop-next.numbers _ c.loop-next.count c.in-Some.edge.label (omega arith);
      unused = rest_next c.loop-next.numbers c.loop-next.count c.in-Some.edge.label (omega arith) room v.unused;
    }
