use Rattle.std.proofs.Common.{refl, ap}
use Rattle.std.proofs.lemmas.Result.{err_from_is_err_and}
use Rattle.table_model.specs.Binds.{Binds}
use Rattle.table_model.specs.BindCommands.{observe_step, observe_name_step}
use Rattle.table_model.specs.BindRowChanges.{observe_change}
use Rattle.bind_book.specs.Book.{Book}
use Rattle.bind_book.proofs.NamePlans.{name_planned, name_same, name_fits, observe_known, name_refused}
use Rattle.bind_book.proofs.Plans.{is_plan, is_refusal}
use Rattle.bind_book.proofs.book.BindBook.plan_observe.Goals as goal

pub returns-in_err-word : goal.returns-in_err-word
unfolding observe_name_step
returns-in_err-word c =
    let p = err_from_is_err_and c.from_residual.result c.from_residual.ensures.1 in
    let binds : Binds = record { classes = c.self.inside.classes.rows; locals = c.self.inside.locals; names = c.self.inside.names.rows } in
    rw (p.1, p.2) (is_refusal refl (name_refused c.args.self.now binds (ap (λ (b : Book). b.binds) c.self.view_is) (observe_step c.args.name.now c.args.addr c.args.ttl c.args.now) c.in_err-word.field-0.0 c.in_err-word.ensures.err))

pub plan_names-requires : goal.plan_names-requires
plan_names-requires c =
    let name = c.args.name.now in
    let a = c.args.addr in
    let ttl = c.args.ttl in
    let now = c.args.now in
    let binds : Binds = record { classes = c.self.inside.classes.rows; locals = c.self.inside.locals; names = c.self.inside.names.rows } in
    name_fits name a ttl now c.requires.some binds (observe_change name a ttl now binds.names) (observe_step name a ttl now binds.names) c.in_ok-word.field-0 c.in-Some.rows c.in-Some.is c.self.invariant
    (observe_known name a ttl now c.requires.some binds c.self.invariant c.requires.name c.addr_fits.ensures c.moment_fits.ensures c.ranges.ttl.fits) c.in_ok-word.ensures.ok

pub returns-in_ok-plan_names-in-Some : goal.returns-in_ok-plan_names-in-Some
unfolding observe_name_step
returns-in_ok-plan_names-in-Some c =
    let name = c.args.name.now in
    let a = c.args.addr in
    let ttl = c.args.ttl in
    let now = c.args.now in
    let binds : Binds = record { classes = c.self.inside.classes.rows; locals = c.self.inside.locals; names = c.self.inside.names.rows } in
    let seen = c.in_ok-word.field-0 in
    let is = c.in_ok-plan_names-in-Some.ensures in
    is_plan is.same (name_planned name a ttl now c.requires.some c.plan_names.new.self binds c.args.self.now.binds (ap (λ (b : Book). b.binds) c.self.view_is) is.same (observe_step name a ttl now) (observe_change name a ttl now binds.names) seen c.in-Some.rows c.in_ok-plan_names-in-Some.field-0 c.in-Some.is
    c.self.invariant (observe_known name a ttl now c.requires.some binds c.self.invariant c.requires.name c.addr_fits.ensures c.moment_fits.ensures c.ranges.ttl.fits)
    c.in_ok-word.ensures.ok is.plan is.room)

pub returns-in-None : goal.returns-in-None
unfolding observe_name_step
returns-in-None c =
    let name = c.args.name.now in
    let a = c.args.addr in
    let ttl = c.args.ttl in
    let now = c.args.now in
    let binds : Binds = record { classes = c.self.inside.classes.rows; locals = c.self.inside.locals; names = c.self.inside.names.rows } in
    is_plan refl (name_same name a ttl now c.requires.some c.args.self.now binds (ap (λ (b : Book). b.binds) c.self.view_is) (observe_step name a ttl now) (observe_change name a ttl now binds.names) c.in_ok-word.field-0 c.same.result c.in-None.is
    c.self.invariant (observe_known name a ttl now c.requires.some binds c.self.invariant c.requires.name c.addr_fits.ensures c.moment_fits.ensures c.ranges.ttl.fits)
    c.in_ok-word.ensures.ok c.same.ensures)
