use Rattle.table_model.specs.ThingCommands.{hold_step}
use Rattle.thing_book.specs.RowChanges.{hold_change}
use Rattle.thing_book.proofs.PlannedLaws.{fit, plans, hold_is}
use Rattle.thing_book.proofs.book.ThingBook.plan_hold.Goals as goal

pub made-requires : goal.made-requires
made-requires c =
    let mac = c.args.mac in
    fit (hold_step mac) (hold_change mac) (λ things sound. hold_is things sound mac) c.self.inside.things.rows c.in_ok-plan.plan c.self.invariant.sound c.in_ok-plan.ensures.ok

pub returns : goal.returns
returns c =
    let mac = c.args.mac in
    plans (hold_step mac) (hold_change mac) (λ things sound. hold_is things sound mac) c.args.self.now c.self.inside.things c.made.new.things c.in_ok-plan.plan c.made.result c.or_memory.result
    c.self.view_is c.self.invariant.sound c.in_ok-plan.ensures.ok c.made.ensures.same c.made.ensures.ok c.made.ensures.room c.or_memory.ensures.ok c.or_memory.ensures.err
