-- `index` is of the section's rows, which are noted in the section's lane.
use native.Mathlib.Omega.{arith}
use Rattle.lookup.proofs.HintLaws.{indexed}
use Rattle.lookup.proofs.Lookup.index.Goals as goal

pub invariant_of-result : goal.invariant_of-result
invariant_of-result c = record {
  narrow = c.rows_of.ensures.narrow;
  some_lane = rw c.lane_of.ensures.lanes (omega arith);
  indexed = rw (c.lane_of.ensures.lanes, c.lane_of.ensures.lane, c.rows_of.ensures.width, c.rows_of.ensures.bytes, c.sections.ensures) (indexed _ _ _ c.args.self.noted c.requires);
}
