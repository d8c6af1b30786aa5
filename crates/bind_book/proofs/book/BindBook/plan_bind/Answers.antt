use Rattle.std.proofs.Common.{refl, subst, ap}
use Rattle.std.proofs.lemmas.Result.{err_from_is_err_and}
use Rattle.item_codec.specs.declared.word.Word.TheVariants.{Bound}
use Rattle.table_model.specs.Binds.{Binds}
use Rattle.table_model.specs.BindCommands.{is_change, bind_step, bind_class_step}
use Rattle.table_model.specs.BindRowChanges.{bind_change}
use Rattle.bind_book.specs.Book.{Book}
use Rattle.bind_book.specs.Plans.{IsBindRows}
use Rattle.bind_book.proofs.ClassPlans.{class_planned, class_same, class_fits, bind_known, class_refused}
use Rattle.bind_book.proofs.Plans.{is_plan, is_refusal}
use Rattle.bind_book.proofs.book.BindBook.plan_bind.Goals as goal

pub returns-in_err-found : goal.returns-in_err-found
unfolding bind_class_step
returns-in_err-found c =
    let p = err_from_is_err_and c.from_residual.result c.from_residual.ensures.1 in
    let binds : Binds = record { classes = c.self.inside.classes.rows; locals = c.self.inside.locals; names = c.self.inside.names.rows } in
    rw (p.1, p.2) (is_refusal refl (class_refused c.args.self.now binds (ap (λ (b : Book). b.binds) c.self.view_is) (bind_step c.args.class.now c.args.addr) c.in_err-found.field-0.0 c.in_err-found.ensures.err))

pub plan_classes-requires : goal.plan_classes-requires
plan_classes-requires c =
    let class = c.args.class.now in
    let a = c.args.addr in
    let binds : Binds = record { classes = c.self.inside.classes.rows; locals = c.self.inside.locals; names = c.self.inside.names.rows } in
    class_fits class a binds (bind_change class a binds.classes) (bind_step class a binds.classes) Bound c.in-Some.rows c.self.invariant (bind_known class a binds c.self.invariant c.requires c.addr_fits.ensures) (subst (IsBindRows class a binds.classes) c.in-Some.is c.in_ok-found.ensures.ok)

pub returns-in_ok-plan_classes-in-Some : goal.returns-in_ok-plan_classes-in-Some
unfolding bind_class_step is_change
returns-in_ok-plan_classes-in-Some c =
    let class = c.args.class.now in
    let a = c.args.addr in
    let binds : Binds = record { classes = c.self.inside.classes.rows; locals = c.self.inside.locals; names = c.self.inside.names.rows } in
    is_plan c.in_ok-plan_classes-in-Some.ensures.same (class_planned class a c.plan_classes.new.self binds c.args.self.now.binds (ap (λ (b : Book). b.binds) c.self.view_is) c.in_ok-plan_classes-in-Some.ensures.same (bind_step class a) (bind_change class a binds.classes) Bound c.in-Some.rows c.in_ok-plan_classes-in-Some.field-0
    c.self.invariant (bind_known class a binds c.self.invariant c.requires c.addr_fits.ensures) refl
    (subst (IsBindRows class a binds.classes) c.in-Some.is c.in_ok-found.ensures.ok) c.in_ok-plan_classes-in-Some.ensures.plan c.in_ok-plan_classes-in-Some.ensures.room)

pub returns-in-None : goal.returns-in-None
unfolding bind_class_step
returns-in-None c =
    let class = c.args.class.now in
    let a = c.args.addr in
    let binds : Binds = record { classes = c.self.inside.classes.rows; locals = c.self.inside.locals; names = c.self.inside.names.rows } in
    is_plan refl (class_same class a c.args.self.now binds (ap (λ (b : Book). b.binds) c.self.view_is) (bind_step class a) (bind_change class a binds.classes) c.same.result
    c.self.invariant (bind_known class a binds c.self.invariant c.requires c.addr_fits.ensures)
    (subst (IsBindRows class a binds.classes) c.in-None.is c.in_ok-found.ensures.ok) c.same.ensures)
