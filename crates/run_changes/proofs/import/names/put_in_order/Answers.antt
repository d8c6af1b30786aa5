use Rattle.std.proofs.Common.{rules}
use Rattle.run_changes.proofs.ImportLaws.Orders.{sorted_by_octets}
use Rattle.run_changes.proofs.import.names.put_in_order.Goals as goal

pub returns : goal.returns
returns c = sorted_by_octets _ _ c.sort_unstable_by.ensures.permutation c.sort_unstable_by.ensures.sorted (λ a r q k. search rules)
