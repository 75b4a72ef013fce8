use Rattle.std.proofs.Common.{arith}
use Rattle.turns.proofs.PayoffLaws.{products_made}
use Rattle.turns.proofs.payoffs.Payoffs.weighed.Goals as goal

pub returns-clause-products : goal.returns-clause-products
returns-clause-products c = products_made _ _ _ _ _ (omega arith) c.loop-x.invariant
