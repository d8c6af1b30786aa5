use Rattle.table_model.specs.ThingCommands.{move_step}
use Rattle.thing_book.specs.RowChanges.{move_change}
use Rattle.thing_book.proofs.PlannedLaws.{fit, plans, move_is}
use Rattle.thing_book.proofs.book.ThingBook.plan_move.Goals as goal

pub made-requires : goal.made-requires
made-requires c =
    let mac = c.args.mac in
    let url = c.args.url in
    fit (move_step mac url) (move_change mac url) (λ things sound. move_is things sound mac url) c.self.inside.things.rows c.in_ok-plan.plan c.self.invariant.sound c.in_ok-plan.ensures.ok

pub returns : goal.returns
returns c =
    let mac = c.args.mac in
    let url = c.args.url in
    plans (move_step mac url) (move_change mac url) (λ things sound. move_is things sound mac url) c.args.self.now c.self.inside.things c.made.new.things c.in_ok-plan.plan c.made.result c.or_memory.result
    c.self.view_is c.self.invariant.sound c.in_ok-plan.ensures.ok c.made.ensures.same c.made.ensures.ok c.made.ensures.room c.or_memory.ensures.ok c.or_memory.ensures.err
