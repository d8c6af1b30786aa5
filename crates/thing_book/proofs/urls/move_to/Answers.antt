use Rattle.table_model.specs.ThingCommands.{move_cases, move_step}
use Rattle.thing_book.specs.RowChanges.{move_cases_change, move_change}
use Rattle.thing_book.proofs.Carried.{for_found}
use Rattle.thing_book.proofs.urls.move_to.Goals as goal

pub returns-in-Some-clause-ok : goal.returns-in-Some-clause-ok
unfolding move_step move_change
returns-in-Some-clause-ok c =
    for_found (move_cases c.args.url c.args.things.now.rows) (move_cases_change c.args.url) _ c.in-Some.thing.now c.move_thing.result c.in-Some.ensures (c.move_thing.ensures.ok c.args.things.now.rows)
