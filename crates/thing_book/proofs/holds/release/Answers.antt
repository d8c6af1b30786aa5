use Rattle.table_model.specs.ThingCommands.{release_cases, release_step}
use Rattle.thing_book.specs.RowChanges.{release_cases_change, release_change}
use Rattle.thing_book.proofs.Carried.{carried_found}
use Rattle.thing_book.proofs.holds.release.Goals as goal

pub returns-in-Some-clause-ok : goal.returns-in-Some-clause-ok
unfolding release_step release_change
returns-in-Some-clause-ok c =
    carried_found (release_cases c.args.things.now.rows) release_cases_change _ c.in-Some.thing.now c.release_thing.result c.or_memory.result c.in-Some.ensures (c.release_thing.ensures c.args.things.now.rows) c.or_memory.ensures.ok
