use Rattle.std.proofs.Common.{refl, ap}
use Rattle.std.proofs.lemmas.Result.{err_from_is_err_and}
use Rattle.item_codec.specs.declared.word.Word.TheVariants.{Unbound}
use Rattle.table_model.specs.Binds.{Binds}
use Rattle.table_model.specs.BindCommands.{is_change, unbind_step, unbind_class_step}
use Rattle.table_model.specs.BindRowChanges.{unbind_change}
use Rattle.bind_book.specs.Book.{Book}
use Rattle.bind_book.proofs.ClassPlans.{class_planned, class_fits, unbind_known, class_refused}
use Rattle.bind_book.proofs.Plans.{is_plan, is_refusal}
use Rattle.bind_book.proofs.book.BindBook.plan_unbind.Goals as goal

pub returns-in_err-rows : goal.returns-in_err-rows
unfolding unbind_class_step
returns-in_err-rows c =
    let p = err_from_is_err_and c.from_residual.result c.from_residual.ensures.1 in
    let binds : Binds = record { classes = c.self.inside.classes.rows; locals = c.self.inside.locals; names = c.self.inside.names.rows } in
    rw (p.1, p.2) (is_refusal refl (class_refused c.args.self.now binds (ap (λ (b : Book). b.binds) c.self.view_is) (unbind_step c.args.class.now c.args.addr) c.in_err-rows.field-0.0 c.in_err-rows.ensures.err))

pub plan_classes-requires : goal.plan_classes-requires
plan_classes-requires c =
    let class = c.args.class.now in
    let a = c.args.addr in
    let binds : Binds = record { classes = c.self.inside.classes.rows; locals = c.self.inside.locals; names = c.self.inside.names.rows } in
    class_fits class a binds (unbind_change class a binds.classes) (unbind_step class a binds.classes) Unbound c.in_ok-rows.rows c.self.invariant (unbind_known class a binds c.self.invariant) c.in_ok-rows.ensures.ok

pub returns : goal.returns
unfolding unbind_class_step is_change
returns c =
    let class = c.args.class.now in
    let a = c.args.addr in
    let binds : Binds = record { classes = c.self.inside.classes.rows; locals = c.self.inside.locals; names = c.self.inside.names.rows } in
    is_plan c.in_ok-plan_classes.ensures.same (class_planned class a c.plan_classes.new.self binds c.args.self.now.binds (ap (λ (b : Book). b.binds) c.self.view_is) c.in_ok-plan_classes.ensures.same (unbind_step class a) (unbind_change class a binds.classes) Unbound c.in_ok-rows.rows c.in_ok-plan_classes.field-0
    c.self.invariant (unbind_known class a binds c.self.invariant) refl
    c.in_ok-rows.ensures.ok c.in_ok-plan_classes.ensures.plan c.in_ok-plan_classes.ensures.room)
