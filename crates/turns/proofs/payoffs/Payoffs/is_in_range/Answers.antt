use Rattle.std.proofs.Common.{List, take, Float}
use lib.Ieee.{nan}
use Rattle.turns.specs.declared.payoffs.Payoffs.{Payoffs}
use Rattle.turns.proofs.PayoffLaws.{range_end, range_stops, range_goes}
use Rattle.turns.proofs.payoffs.Payoffs.is_in_range.Goals as goal

abbrev the_values : Payoffs → List Float
the_values p = take p.count p.values

pub returns-in-OutOfRange : goal.returns-in-OutOfRange
returns-in-OutOfRange c = range_stops _ (the_values c.args.self.now) c.loop-x.x-index nan c.loop-x.invariant c.loop-x-test.true c.in_range.result c.in_range.ensures c.in-OutOfRange.is

pub loop-x-preserved : goal.loop-x-preserved
loop-x-preserved c = range_goes _ (the_values c.args.self.now) c.loop-x.x-index nan c.loop-x.invariant c.loop-x-test.true c.in_range.result c.in_range.ensures _ c.in_default.is

pub returns : goal.returns
returns c = range_end _ (the_values c.args.self.now) c.loop-x.x-index nan c.loop-x.invariant c.loop-x-test.false
