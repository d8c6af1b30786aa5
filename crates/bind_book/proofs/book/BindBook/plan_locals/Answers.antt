use Rattle.std.proofs.Common.{List, refl, subst, ap}
use Rattle.std.proofs.lemmas.Result.{err_from_is_err_and}
use Rattle.mud_base.specs.declared.prefix.Prefix.{Prefix}
use Rattle.table_model.specs.Binds.{Binds}
use Rattle.table_model.specs.BindCommands.{locals_step, set_locals_step}
use Rattle.table_laws.proofs.SoundLocals.{sound-locals_step}
use Rattle.bind_book.specs.Book.{Book, IsRefusal}
use Rattle.bind_book.specs.Plans.{IsSetLocals}
use Rattle.bind_book.proofs.LocalPlans.{locals_planned, locals_same, locals_fit, locals_refused}
use Rattle.bind_book.proofs.Plans.{is_plan, is_refusal}
use Rattle.bind_book.proofs.book.BindBook.plan_locals.Goals as goal

pub returns-in_err-found : goal.returns-in_err-found
unfolding set_locals_step
returns-in_err-found c =
    let p = err_from_is_err_and c.from_residual.result c.from_residual.ensures.1 in
    let prefixes : List Prefix = c.args.prefixes.now in
    let binds : Binds = record { classes = c.self.inside.classes.rows; locals = c.self.inside.locals; names = c.self.inside.names.rows } in
    rw (p.1, p.2) (is_refusal refl (locals_refused c.args.self.now binds (ap (λ (b : Book). b.binds) c.self.view_is) prefixes c.in_err-found.field-0.0
    (subst (λ (locals : List Prefix). IsRefusal (locals_step prefixes locals) c.in_err-found.field-0.0) c.as_slice.ensures c.in_err-found.ensures.err)))

pub of_locals-requires : goal.of_locals-requires
of_locals-requires c =
    let prefixes : List Prefix = c.args.prefixes.now in
    let locals : List Prefix = c.self.inside.locals in
    locals_fit prefixes (locals_step prefixes locals) c.in_ok-found.found c.in-Some.locals c.in-Some.is (sound-locals_step prefixes locals c.prefixes_fit.ensures c.self.invariant.locals)
    (subst (λ (ps : List Prefix). IsSetLocals prefixes ps c.in_ok-found.found) c.as_slice.ensures c.in_ok-found.ensures.ok)

pub returns : goal.returns
unfolding set_locals_step
returns c =
    let prefixes : List Prefix = c.args.prefixes.now in
    let binds : Binds = record { classes = c.self.inside.classes.rows; locals = c.self.inside.locals; names = c.self.inside.names.rows } in
    is_plan refl (locals_planned prefixes c.args.self.now binds (ap (λ (b : Book). b.binds) c.self.view_is) c.in_ok-found.found c.in-Some.locals c.in_ok-of_locals.field-0 c.in-Some.is c.self.invariant c.prefixes_fit.ensures
    (subst (λ (ps : List Prefix). IsSetLocals prefixes ps c.in_ok-found.found) c.as_slice.ensures c.in_ok-found.ensures.ok) c.in_ok-of_locals.ensures)

pub returns-in_default : goal.returns-in_default
unfolding set_locals_step
returns-in_default c =
    let prefixes : List Prefix = c.args.prefixes.now in
    let binds : Binds = record { classes = c.self.inside.classes.rows; locals = c.self.inside.locals; names = c.self.inside.names.rows } in
    is_plan refl (locals_same prefixes c.args.self.now binds (ap (λ (b : Book). b.binds) c.self.view_is) c.in_ok-found.found c.same.result c.in_default.is c.self.invariant c.prefixes_fit.ensures
    (subst (λ (ps : List Prefix). IsSetLocals prefixes ps c.in_ok-found.found) c.as_slice.ensures c.in_ok-found.ensures.ok) c.same.ensures)
