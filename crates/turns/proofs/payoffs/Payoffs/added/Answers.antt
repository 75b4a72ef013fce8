use Rattle.std.proofs.Common.{length, rules, ◌≡◌}
use Rattle.turns.proofs.PayoffLaws.{added_refused, added_done}
use Rattle.turns.proofs.payoffs.Payoffs.added.Goals as goal

pub returns-then-payoffs-sums : goal.returns-then-payoffs-sums
returns-then-payoffs-sums c =
    let long : length c.in-Some.sums.values ≡ 8 = search rules in
    rw c.in-Some.is (added_refused _ c.in-Some.sums c.args.payoffs _ long (search rules) c.if-payoffs-sums.true)

pub returns : goal.returns
returns c =
    let long : length c.in-Some.sums.values ≡ 8 = search rules in
    rw c.in-Some.is (added_done _ c.in-Some.sums c.args.payoffs _ long (search rules) c.if-payoffs-sums.false c.weighed-products.result c.plus.result c.weighed-products.ensures.products c.plus.ensures)
