use Rattle.std.proofs.Common.{length, arith, rules, ◌≡◌, ◌∙◌, length-set}
use lib.Ieee.{nan}
use Rattle.turns.proofs.PayoffLaws.{sums_made, sums_next}
use Rattle.turns.proofs.payoffs.Payoffs.plus.Goals as goal

pub loop-i-preserved : goal.loop-i-preserved
loop-i-preserved c =
    let long : length c.args.more.values ≡ 8 = search rules in
    let items = c.loop-i.invariant.long in
    record {
      long = simp length-set items;
      sums = c.loop-i.invariant.sums ∙ sums_next c.loop-i.x-items c.args.more.values c.loop-i.i c.add.result nan nan (omega arith) (omega arith) c.add.ensures;
    }

pub returns : goal.returns
returns c = let items = c.loop-i.invariant.long in rw (c.requires) (sums_made c.args.self.values c.args.more.values c.loop-i.x-items c.args.self.count c.loop-i.i (omega arith) c.loop-i.invariant.sums)
