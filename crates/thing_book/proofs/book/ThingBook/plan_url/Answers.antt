use Rattle.table_model.specs.ThingCommands.{url_step}
use Rattle.thing_book.specs.RowChanges.{url_change}
use Rattle.thing_book.proofs.PlannedLaws.{fit, plans, url_is}
use Rattle.thing_book.proofs.book.ThingBook.plan_url.Goals as goal

pub made-requires : goal.made-requires
made-requires c =
    let mac = c.args.mac in
    let url = c.args.url in
    fit (url_step mac url) (url_change mac url) (λ things sound. url_is things sound mac url c.mac_has_six_octets.ensures c.text_is_canonical.ensures) c.self.inside.things.rows c.in_ok-plan.plan c.self.invariant.sound c.in_ok-plan.ensures.ok

pub returns : goal.returns
returns c =
    let mac = c.args.mac in
    let url = c.args.url in
    plans (url_step mac url) (url_change mac url) (λ things sound. url_is things sound mac url c.mac_has_six_octets.ensures c.text_is_canonical.ensures) c.args.self.now c.self.inside.things c.made.new.things c.in_ok-plan.plan c.made.result c.or_memory.result
    c.self.view_is c.self.invariant.sound c.in_ok-plan.ensures.ok c.made.ensures.same c.made.ensures.ok c.made.ensures.room c.or_memory.ensures.ok c.or_memory.ensures.err
