use Rattle.mud_base.proofs.AddrOrder.{addr_cmp_total, same_from_tie, tie_from_same}
use Rattle.mud_base.proofs.laws.addr_order_is_total.Goals as goal

pub returns-clause-order : goal.returns-clause-order
returns-clause-order c = addr_cmp_total

pub returns-clause-ties : goal.returns-clause-ties
returns-clause-ties c = (same_from_tie c.args.a c.args.b, tie_from_same c.args.a c.args.b)
