use Rattle.std.proofs.Common.{ap, ◌∙◌}
use Rattle.table_model.specs.Expiries.{expiry_of}
use Rattle.table_model.specs.ThingCommands.{known_lease}
use Rattle.table_model.specs.ThingChanges.{known_lease_change}
use Rattle.thing_book.proofs.Carried.{carried_found}
use Rattle.thing_book.proofs.leases.lease_known.Goals as goal

pub returns-in-Some-clause-ok : goal.returns-in-Some-clause-ok
unfolding known_lease known_lease_change
returns-in-Some-clause-ok c =
    let a = c.args.lease.addr in
    let until = c.args.lease.until in
    let now = c.args.lease.now in
    carried_found (known_lease a until now c.args.things.now c.args.thing.now) (known_lease_change a until now c.args.things.now c.args.thing.now) _ c.in-Some.old c.lease_kept.result c.or_memory.result
    (c.in-Some.ensures ∙ ap (expiry_of a) c.as_slice.ensures) (c.lease_kept.ensures c.args.things.now) c.or_memory.ensures.ok
