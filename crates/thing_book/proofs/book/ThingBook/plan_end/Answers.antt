use Rattle.table_model.specs.ThingCommands.{end_step}
use Rattle.table_model.specs.ThingChanges.{end_change}
use Rattle.thing_book.proofs.PlannedLaws.{fit, plans, end_is}
use Rattle.thing_book.proofs.book.ThingBook.plan_end.Goals as goal

pub made-requires : goal.made-requires
made-requires c =
    let a = c.args.addr in
    fit (end_step a) (end_change a) (λ things sound. end_is things sound a) c.self.inside.things.rows c.in_ok-plan.plan c.self.invariant.sound c.in_ok-plan.ensures.ok

pub returns : goal.returns
returns c =
    let a = c.args.addr in
    plans (end_step a) (end_change a) (λ things sound. end_is things sound a) c.args.self.now c.self.inside.things c.made.new.things c.in_ok-plan.plan c.made.result c.or_memory.result
    c.self.view_is c.self.invariant.sound c.in_ok-plan.ensures.ok c.made.ensures.same c.made.ensures.ok c.made.ensures.room c.or_memory.ensures.ok c.or_memory.ensures.err
