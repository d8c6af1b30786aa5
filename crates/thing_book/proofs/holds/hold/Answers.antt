use Rattle.table_model.specs.ThingCommands.{hold_cases, hold_step}
use Rattle.thing_book.specs.RowChanges.{hold_cases_change, hold_change}
use Rattle.thing_book.proofs.Carried.{carried_found}
use Rattle.thing_book.proofs.holds.hold.Goals as goal

pub returns-in-Some-clause-ok : goal.returns-in-Some-clause-ok
unfolding hold_step hold_change
returns-in-Some-clause-ok c =
    carried_found (hold_cases c.args.things.now.rows) hold_cases_change _ c.in-Some.thing.now c.hold_thing.result c.or_memory.result c.in-Some.ensures (c.hold_thing.ensures c.args.things.now.rows) c.or_memory.ensures.ok
