-- Two endpoints in one order, so that both directions of a connection have one slot.
use Rattle.std.specs.Ordering.{nat_cmp, ordering_then, match_ordering}
use Rattle.std.specs.declared.cmp.Ordering.{Ordering}
use Rattle.mud_base.specs.contracts.addr.AddrOrd.TheImpl as addr_ord
use Rattle.table_model.specs.History.{Endpoint}

abbrev pub Pair : Type 0
Pair = Endpoint × Endpoint

-- by address, and then by port
abbrev pub endpoint_cmp : Endpoint → Endpoint → Ordering
endpoint_cmp a b = ordering_then ((addr_ord.ghosts).cmp a.0 b.0) (nat_cmp a.1 b.1)

unfoldable pub pair_of : Endpoint → Endpoint → Pair
pair_of a b = match_ordering (endpoint_cmp a b) (a, b) (a, b) (b, a)
