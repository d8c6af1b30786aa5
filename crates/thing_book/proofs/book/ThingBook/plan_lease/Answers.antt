use Rattle.table_model.specs.ThingCommands.{lease_step}
use Rattle.table_model.specs.ThingChanges.{lease_change}
use Rattle.thing_book.proofs.PlannedLaws.{fit, plans, lease_is}
use Rattle.thing_book.proofs.book.ThingBook.plan_lease.Goals as goal

pub made-requires : goal.made-requires
made-requires c =
    let mac = c.args.mac in
    let a = c.args.addr in
    let s = c.args.seconds in
    let m = c.args.m in
    let h = c.args.heard in
    fit (lease_step mac a s m h) (lease_change mac a s m) (λ things sound. lease_is things sound mac a s m h c.addr_fits.ensures c.moment_is_kept.ensures c.ranges.seconds.fits) c.self.inside.things.rows c.in_ok-plan.plan c.self.invariant.sound c.in_ok-plan.ensures.ok

pub returns : goal.returns
returns c =
    let mac = c.args.mac in
    let a = c.args.addr in
    let s = c.args.seconds in
    let m = c.args.m in
    let h = c.args.heard in
    plans (lease_step mac a s m h) (lease_change mac a s m) (λ things sound. lease_is things sound mac a s m h c.addr_fits.ensures c.moment_is_kept.ensures c.ranges.seconds.fits)
    c.args.self.now c.self.inside.things c.made.new.things c.in_ok-plan.plan c.made.result c.or_memory.result
    c.self.view_is c.self.invariant.sound c.in_ok-plan.ensures.ok c.made.ensures.same c.made.ensures.ok c.made.ensures.room c.or_memory.ensures.ok c.or_memory.ensures.err
