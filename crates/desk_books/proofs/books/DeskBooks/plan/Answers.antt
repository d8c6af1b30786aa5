use Rattle.std.proofs.Common.{ℕ, ◌-◌, Option, ap, subst, ◌∙◌}
use Rattle.std.specs.Prelude.{IsOkAnd}
use Rattle.std.proofs.lemmas.Result.{on_ok_weaker}
use Rattle.desk_model.specs.Commands.{DeskAfter, command_step}
use Rattle.desk_books.specs.declared.lists.Lists.{Lists}
use Rattle.desk_books.specs.Books.{Books, desk_of, books_with}
use Rattle.desk_books.specs.Changes.{PlannedChange, change_of}
use Rattle.desk_books.specs.Planned.{IsPlanned, IsPaid, IsRead}
use Rattle.desk_books.specs.RowPlans.{IsRowPlan, IsRowsRead}
use Rattle.desk_books.proofs.Whole.{kept_itself, kept_after, planned_after, paid_after, read_after, planned_rows, made_rows, made_change}
use Rattle.desk_books.proofs.books.DeskBooks.plan.Goals as goal

pub invariant_of-self : goal.invariant_of-self
invariant_of-self g c =
    let stamp : Option ℕ = c.self.inside.stamp in
    kept_after c.self.inside.lists c.plan.new.self c.self.inside.compiled c.self.inside.compiled stamp (c.plan.ensures.same stamp) (kept_itself c.self.inside.compiled) c.self.invariant

pub returns-in_err-change-clause-same : goal.returns-in_err-change-clause-same
returns-in_err-change-clause-same g c = c.plan.ensures.same c.self.inside.stamp ∙ ap (λ (b : Books). desk_of b) c.self.view_is

pub invariant_of-self-in-Err : goal.invariant_of-self-in-Err
invariant_of-self-in-Err g c =
    let old : Lists = c.self.inside.lists in
    let new : Lists = c.plan.new.self in
    let stamp : Option ℕ = c.self.inside.stamp in
    kept_after old new c.self.inside.compiled c.row_plan-rows.new.compiled stamp (c.plan.ensures.same stamp) c.row_plan-rows.ensures.kept c.self.invariant

pub returns-in-Err-clause-same : goal.returns-in-Err-clause-same
returns-in-Err-clause-same g c = c.plan.ensures.same c.self.inside.stamp ∙ ap (λ (b : Books). desk_of b) c.self.view_is

pub returns-in-Err-clause-steps : goal.returns-in-Err-clause-steps
returns-in-Err-clause-steps g c =
    let old : Lists = c.self.inside.lists in
    let new : Lists = c.plan.new.self in
    let stamp : Option ℕ = c.self.inside.stamp in
    let steps : ℕ = c.row_plan-rows.new.steps - c.args.steps.now in
    subst (λ (b : Books). IsPaid (command_step (desk_of b) c.args.now c.args.command) b steps) c.self.view_is
    (paid_after old new c.self.inside.compiled c.row_plan-rows.new.compiled stamp (c.plan.ensures.same stamp) c.row_plan-rows.ensures.kept c.args.now steps c.args.command c.in_ok-change.change (c.in_ok-change.ensures.planned stamp) c.row_plan-rows.ensures.steps)

pub invariant_of-self-2 : goal.invariant_of-self-2
invariant_of-self-2 g c =
    let old : Lists = c.self.inside.lists in
    let new : Lists = c.plan.new.self in
    let stamp : Option ℕ = c.self.inside.stamp in
    kept_after old new c.self.inside.compiled c.row_plan-rows.new.compiled stamp (c.plan.ensures.same stamp) c.row_plan-rows.ensures.kept c.self.invariant

pub returns-clause-same : goal.returns-clause-same
returns-clause-same g c = c.plan.ensures.same c.self.inside.stamp ∙ ap (λ (b : Books). desk_of b) c.self.view_is

pub returns-clause-ok : goal.returns-clause-ok
returns-clause-ok g c =
    let old : Lists = c.self.inside.lists in
    let new : Lists = c.plan.new.self in
    let stamp : Option ℕ = c.self.inside.stamp in
    let after : Books = books_with new c.row_plan-rows.new.compiled stamp in
    let change : PlannedChange = change_of c.args.now stamp c.in_ok-change.change c.in-Ok.rows in
    let rows = planned_rows c.row_plan-rows.result c.in-Ok.rows (IsRowPlan c.in_ok-change.change new.files.files c.row_plan-rows.new.compiled) c.in-Ok.ensures.ok c.row_plan-rows.ensures.ok in
    let planned = planned_after old new c.self.inside.compiled c.row_plan-rows.new.compiled stamp (c.plan.ensures.same stamp) c.row_plan-rows.ensures.kept c.self.invariant c.args.now c.moment_fits.ensures c.args.command c.in_ok-change.change c.in-Ok.rows (c.in_ok-change.ensures.planned stamp) rows in
    made_change c.made.result c.or_memory-2.result change (λ (x : PlannedChange). IsOkAnd (command_step (desk_of c.args.self.now) c.args.now c.args.command) (λ (step : DeskAfter). IsPlanned step after x)) c.or_memory-2.ensures.ok c.made.ensures
    (subst (λ (b : Books). IsOkAnd (command_step (desk_of b) c.args.now c.args.command) (λ (step : DeskAfter). IsPlanned step after change)) c.self.view_is planned)

pub returns-clause-steps : goal.returns-clause-steps
returns-clause-steps g c =
    let old : Lists = c.self.inside.lists in
    let new : Lists = c.plan.new.self in
    let stamp : Option ℕ = c.self.inside.stamp in
    let steps : ℕ = c.row_plan-rows.new.steps - c.args.steps.now in
    subst (λ (b : Books). IsPaid (command_step (desk_of b) c.args.now c.args.command) b steps) c.self.view_is
    (paid_after old new c.self.inside.compiled c.row_plan-rows.new.compiled stamp (c.plan.ensures.same stamp) c.row_plan-rows.ensures.kept c.args.now steps c.args.command c.in_ok-change.change (c.in_ok-change.ensures.planned stamp) c.row_plan-rows.ensures.steps)

pub returns-clause-read : goal.returns-clause-read
returns-clause-read g c =
    let old : Lists = c.self.inside.lists in
    let new : Lists = c.plan.new.self in
    let stamp : Option ℕ = c.self.inside.stamp in
    let steps : ℕ = c.row_plan-rows.new.steps - c.args.steps.now in
    on_ok_weaker c.or_memory-2.result
    (λ (rows : IsRowsRead c.in_ok-change.change new.files.files c.self.inside.compiled steps).
    subst (λ (b : Books). IsRead (command_step (desk_of b) c.args.now c.args.command) b steps) c.self.view_is
    (read_after old new c.self.inside.compiled c.row_plan-rows.new.compiled stamp (c.plan.ensures.same stamp) c.row_plan-rows.ensures.kept c.args.now steps c.args.command c.in_ok-change.change (c.in_ok-change.ensures.planned stamp) rows))
    (made_rows c.row_plan-rows.result c.in-Ok.rows c.or_memory-2.result (IsRowsRead c.in_ok-change.change new.files.files c.self.inside.compiled steps) c.in-Ok.ensures.ok c.row_plan-rows.ensures.read)
