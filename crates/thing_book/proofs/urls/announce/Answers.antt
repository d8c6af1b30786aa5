use Rattle.table_model.specs.ThingCommands.{url_cases, url_step}
use Rattle.thing_book.specs.RowChanges.{url_cases_change, url_change}
use Rattle.thing_book.proofs.Carried.{carried_found}
use Rattle.thing_book.proofs.urls.announce.Goals as goal

pub returns-in-Some-clause-ok : goal.returns-in-Some-clause-ok
unfolding url_step url_change
returns-in-Some-clause-ok c =
    carried_found (url_cases c.args.mac c.args.url c.args.things.now.rows) (url_cases_change c.args.mac c.args.url) _ c.in-Some.thing.now c.announce_anew.result c.or_memory.result
    c.in-Some.ensures (c.announce_anew.ensures c.args.mac c.args.things.now.rows) c.or_memory.ensures.ok
