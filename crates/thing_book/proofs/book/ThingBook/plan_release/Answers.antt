use Rattle.table_model.specs.ThingCommands.{release_step}
use Rattle.thing_book.specs.RowChanges.{release_change}
use Rattle.thing_book.proofs.PlannedLaws.{fit, plans, release_is}
use Rattle.thing_book.proofs.book.ThingBook.plan_release.Goals as goal

pub made-requires : goal.made-requires
made-requires c =
    let mac = c.args.mac in
    fit (release_step mac) (release_change mac) (λ things sound. release_is things sound mac) c.self.inside.things.rows c.in_ok-plan.plan c.self.invariant.sound c.in_ok-plan.ensures.ok

pub returns : goal.returns
returns c =
    let mac = c.args.mac in
    plans (release_step mac) (release_change mac) (λ things sound. release_is things sound mac) c.args.self.now c.self.inside.things c.made.new.things c.in_ok-plan.plan c.made.result c.or_memory.result
    c.self.view_is c.self.invariant.sound c.in_ok-plan.ensures.ok c.made.ensures.same c.made.ensures.ok c.made.ensures.room c.or_memory.ensures.ok c.or_memory.ensures.err
