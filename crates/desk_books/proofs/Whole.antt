-- A plan of the whole desk: in its book, and in the rows.
use Rattle.std.proofs.Common.{◌≡◌, ℕ, ◌≤◌, Option, Result, Ok, Err, refl, sym, ap, subst, ◌∙◌, inr}
use Rattle.std.specs.Prelude.{IsOkAnd, IfOk, OnOk}
use Rattle.mud_base.specs.declared.memory.Memory.{Memory}
use Rattle.desk_model.specs.declared.reply.Refusal.{Refusal}
use Rattle.acl_compile.specs.Compiled.{CompiledState}
use Rattle.acl_compile.specs.Plans.{Plan, Fits, IsKept}
use Rattle.table_model.specs.Tables.{binds_of, with_binds}
use Rattle.table_model.specs.Things.{IsSoundThings}
use Rattle.table_model.specs.Binds.{IsSoundClasses, IsSoundLocals, IsSoundNames}
use Rattle.usage_tables.specs.Files.{IsSoundFiles}
use Rattle.usage_tables.specs.Limits.{last_moment}
use Rattle.desk_model.specs.declared.command.Command.{Command}
use Rattle.desk_model.specs.DeskTables.{DeskTables, IsSound, IsStamp, with_things, with_files, with_desk_binds}
use Rattle.desk_model.specs.Commands.{DeskStep, command_step}
use Rattle.desk_books.specs.CompiledDesk.{IsCompiledOf}
use Rattle.desk_books.specs.declared.change.BookChange.{BookChange}
use Rattle.desk_books.specs.declared.change.BookChange.TheVariants as which
use Rattle.desk_books.specs.declared.lists.Lists.{Lists}
use Rattle.thing_book.specs.Planned.{Things}
use Rattle.file_cache.specs.Changes.{Files}
use Rattle.bind_book.specs.Book.{Book}
use Rattle.desk_books.specs.Books.{Books, desk_in, desk_of, desk_with, books_with, AreKept}
use Rattle.desk_books.specs.Changes.{PlannedChange, change_of, with_change, with_stamp, desk_after}
use Rattle.desk_books.specs.Planned.{CanCommit, IsCommitted, IsReady, IsPlanned, IsPaid, PaysFor, IsRead, ReadsFor}
use Rattle.desk_books.specs.InBooks.{IsPlanIn}
use Rattle.desk_books.specs.RowPlans.{IsRowPlan, IsRowsPaid, IsRowsRead}
use Rattle.desk_books.proofs.Desks.{compiled_kept}
use Rattle.desk_books.proofs.Planning.{things_planned, files_planned, binds_planned}
use Rattle.desk_books.proofs.Paid.{things_paid, files_paid, binds_paid, things_read, files_read, binds_read}

abbrev Planned : DeskStep → Books → PlannedChange → Type 0
Planned step books change = IsOkAnd step (λ after. IsPlanned after books change)

abbrev Paid : DeskStep → Books → ℕ → Type 0
Paid step books steps = IsOkAnd step (λ after. PaysFor after.outcome.url books.compiled (desk_of books) after.desk steps)

planned : (lists : Lists) (compiled : CompiledState) (stamp : Option ℕ) → AreKept (books_with lists compiled stamp) → (now : ℕ) → now ≤ last_moment → (step : DeskStep) (change : BookChange) (plan : Plan) → IsPlanIn (desk_with lists stamp) now step lists change → IsRowPlan change lists.files.files compiled plan → Planned step (books_with lists compiled stamp) (change_of now stamp change plan)
planned lists compiled stamp kept now late step (which.Things change) plan p m = subst (λ (s : DeskStep). Planned s (books_with lists compiled stamp) (change_of now stamp (which.Things change) plan)) (sym p.step_is) (things_planned (books_with lists compiled stamp) kept now late p.in_book change plan p.planned m)
planned lists compiled stamp kept now late step (which.Files change) plan p m = subst (λ (s : DeskStep). Planned s (books_with lists compiled stamp) (change_of now stamp (which.Files change) plan)) (sym p.step_is) (files_planned (books_with lists compiled stamp) kept now late p.in_book change plan p.planned m)
planned lists compiled stamp kept now late step (which.Binds change) plan p m = subst (λ (s : DeskStep). Planned s (books_with lists compiled stamp) (change_of now stamp (which.Binds change) plan)) (sym p.step_is) (binds_planned (books_with lists compiled stamp) kept now late p.in_book change plan p.planned m)

paid : (lists : Lists) (compiled : CompiledState) (stamp : Option ℕ) (now steps : ℕ) (step : DeskStep) (change : BookChange) → IsPlanIn (desk_with lists stamp) now step lists change → IsRowsPaid change lists.files.files compiled steps → Paid step (books_with lists compiled stamp) steps
paid lists compiled stamp now steps step (which.Things change) p m = subst (λ (s : DeskStep). Paid s (books_with lists compiled stamp) steps) (sym p.step_is) (things_paid (books_with lists compiled stamp) now steps p.in_book change p.planned m)
paid lists compiled stamp now steps step (which.Files change) p m = subst (λ (s : DeskStep). Paid s (books_with lists compiled stamp) steps) (sym p.step_is) (files_paid (books_with lists compiled stamp) now steps p.in_book change p.planned m)
paid lists compiled stamp now steps step (which.Binds change) p m = subst (λ (s : DeskStep). Paid s (books_with lists compiled stamp) steps) (sym p.step_is) (binds_paid (books_with lists compiled stamp) now steps p.in_book change p.planned m)

abbrev Read : DeskStep → Books → ℕ → Type 0
Read step books steps = IsOkAnd step (λ after. ReadsFor after.outcome.url books.compiled (desk_of books) after.desk steps)

read : (lists : Lists) (compiled : CompiledState) (stamp : Option ℕ) (now steps : ℕ) (step : DeskStep) (change : BookChange) → IsPlanIn (desk_with lists stamp) now step lists change → IsRowsRead change lists.files.files compiled steps → Read step (books_with lists compiled stamp) steps
read lists compiled stamp now steps step (which.Things change) p m = subst (λ (s : DeskStep). Read s (books_with lists compiled stamp) steps) (sym p.step_is) (things_read (books_with lists compiled stamp) now steps p.in_book change p.planned m)
read lists compiled stamp now steps step (which.Files change) p m = subst (λ (s : DeskStep). Read s (books_with lists compiled stamp) steps) (sym p.step_is) (files_read (books_with lists compiled stamp) now steps p.in_book change p.planned m)
read lists compiled stamp now steps step (which.Binds change) p m = subst (λ (s : DeskStep). Read s (books_with lists compiled stamp) steps) (sym p.step_is) (binds_read (books_with lists compiled stamp) now steps p.in_book change p.planned m)

-- ---- Results

pub planned_rows : (result : Result Plan Memory) (plan : Plan) (P : Plan → Type 0) → result ≡ Ok plan → IfOk result P → P plan
planned_rows result plan P is holds = let good : Result Plan Memory = Ok plan in let at : IfOk good P = subst (λ (r : Result Plan Memory). IfOk r P) is holds in at

pub made_change : (made : Result PlannedChange Memory) (result : Result PlannedChange Refusal) (change : PlannedChange) (P : PlannedChange → Type 0) → IfOk result (λ value. made ≡ Ok value) → IfOk made (λ value. value ≡ change) → P change → IfOk result P
made_change made (Ok value) change P from is holds = let same : value ≡ change = subst (λ (r : Result PlannedChange Memory). IfOk r (λ v. v ≡ change)) from is in subst P (sym same) holds
made_change made (Err refusal) change P from is holds = tt

-- what holds where the rows are planned, holds wherever the change is made of them
pub made_rows : (rows : Result Plan Memory) (plan : Plan) (made : Result PlannedChange Refusal) (P : Type 0) → rows ≡ Ok plan → OnOk rows P → OnOk made P
made_rows rows plan (Ok change) P is holds = let good : Result Plan Memory = Ok plan in let at : OnOk good P = subst (λ (r : Result Plan Memory). OnOk r P) is holds in at
made_rows rows plan (Err refusal) P is holds = tt

-- ---- From before to after

pub kept_itself : (compiled : CompiledState) → IsKept compiled compiled
kept_itself compiled = record { slots = refl; bindings = refl; rows = refl }

module _ (old new : Lists) (compiled compiled' : CompiledState) (stamp : Option ℕ) (same : desk_with new stamp ≡ desk_with old stamp) (more : IsKept compiled compiled') where
  pub kept_after : AreKept (books_with old compiled stamp) → AreKept (books_with new compiled' stamp)
  kept_after kept = record {
    sound = subst IsSound (sym same) kept.sound;
    compiled = subst (λ (d : DeskTables). IsCompiledOf d compiled') (sym same) (compiled_kept (desk_with old stamp) compiled compiled' more kept.compiled);
  }

  pub planned_after : AreKept (books_with old compiled stamp) → (now : ℕ) → now ≤ last_moment → (command : Command) (change : BookChange) (plan : Plan) → IsPlanIn (desk_with old stamp) now (command_step (desk_with old stamp) now command) new change → IsRowPlan change new.files.files compiled' plan
      → IsOkAnd (command_step (desk_of (books_with old compiled stamp)) now command) (λ after. IsPlanned after (books_with new compiled' stamp) (change_of now stamp change plan))
  planned_after kept now late command change plan p m =
      let here : IsPlanIn (desk_with new stamp) now (command_step (desk_with old stamp) now command) new change = subst (λ (d : DeskTables). IsPlanIn d now (command_step (desk_with old stamp) now command) new change) (sym same) p in
      planned new compiled' stamp (kept_after kept) now late (command_step (desk_with old stamp) now command) change plan here m

  pub paid_after : (now steps : ℕ) (command : Command) (change : BookChange) → IsPlanIn (desk_with old stamp) now (command_step (desk_with old stamp) now command) new change → IsRowsPaid change new.files.files compiled steps
      → IsPaid (command_step (desk_of (books_with old compiled stamp)) now command) (books_with old compiled stamp) steps
  paid_after now steps command change p m =
      let step : DeskStep = command_step (desk_with old stamp) now command in
      let here : IsPlanIn (desk_with new stamp) now step new change = subst (λ (d : DeskTables). IsPlanIn d now step new change) (sym same) p in
      let all : Paid step (books_with new compiled stamp) steps = paid new compiled stamp now steps step change here m in
      inr (subst (λ (d : DeskTables). IsOkAnd step (λ after. PaysFor after.outcome.url compiled d after.desk steps)) same all)

  pub read_after : (now steps : ℕ) (command : Command) (change : BookChange) → IsPlanIn (desk_with old stamp) now (command_step (desk_with old stamp) now command) new change → IsRowsRead change new.files.files compiled steps
      → IsRead (command_step (desk_of (books_with old compiled stamp)) now command) (books_with old compiled stamp) steps
  read_after now steps command change p m =
      let step : DeskStep = command_step (desk_with old stamp) now command in
      let here : IsPlanIn (desk_with new stamp) now step new change = subst (λ (d : DeskTables). IsPlanIn d now step new change) (sym same) p in
      let all : Read step (books_with new compiled stamp) steps = read new compiled stamp now steps step change here m in
      subst (λ (d : DeskTables). IsOkAnd step (λ after. ReadsFor after.outcome.url compiled d after.desk steps)) same all

-- ---- A commit

stamped_change : (change : BookChange) (lists : Lists) (stamp stamp' : Option ℕ) → with_change change (desk_with lists stamp') ≡ with_stamp stamp' (with_change change (desk_with lists stamp))
unfolding with_change with_stamp with_things with_files with_desk_binds binds_of with_binds
stamped_change (which.Things change) lists stamp stamp' = refl
stamped_change (which.Files change) lists stamp stamp' = refl
stamped_change (which.Binds change) lists stamp stamp' = refl

module _ (books : Books) (old : Lists) (compiled : CompiledState) (stamp : Option ℕ) (view : books ≡ books_with old compiled stamp) (change : PlannedChange) (ready : IsReady books change) where
  pub can_commit : CanCommit change.change old.things old.files old.binds
  can_commit = subst (λ (b : Books). CanCommit change.change b.things b.files b.binds) view ready.lists

  pub fits : Fits change.rows compiled
  fits = subst (λ (b : Books). Fits change.rows b.compiled) view ready.fits

  module _ (new : Lists) (compiled' : CompiledState) (made : (s : Option ℕ) → desk_with new s ≡ with_change change.change (desk_with old s)) (done : IsCommitted change.rows compiled compiled') where
    pub committed_desk : desk_with new change.stamp ≡ desk_after change (desk_of books)
    unfolding desk_after
    committed_desk = made change.stamp ∙ stamped_change change.change old stamp change.stamp ∙ sym (ap (λ (b : Books). with_stamp change.stamp (with_change change.change (desk_of b))) view)

    pub committed_kept : AreKept (books_with new compiled' change.stamp)
    committed_kept = record {
      sound = subst IsSound (sym committed_desk) ready.sound;
      compiled = subst (λ (d : DeskTables). IsCompiledOf d compiled') (sym committed_desk) (ready.compiled compiled' (subst (λ (b : Books). IsCommitted change.rows b.compiled compiled') (sym view) done));
    }

-- ---- From the lists

pub kept_of : (things : Things) (files : Files) (binds : Book) (compiled : CompiledState) → IsSoundThings things.things → IsSoundFiles files.files → IsSoundClasses binds.binds.classes → IsSoundLocals binds.binds.locals → IsSoundNames binds.binds.names
    → ((desk : DeskTables) → IsSound desk → desk.tables.things ≡ things.things → desk.tables.classes ≡ binds.binds.classes → desk.tables.names ≡ binds.binds.names → desk.files ≡ files.files → IsCompiledOf desk compiled)
    → (stamp : Option ℕ) → IsStamp stamp → AreKept (record { things = things; files = files; binds = binds; compiled = compiled; stamp = stamp })
kept_of things files binds compiled things_sound files_sound classes locals names of stamp late =
    let desk : DeskTables = desk_in things files binds stamp in
    let sound : IsSound desk = record { tables = record { things = things_sound; classes = classes; locals = locals; names = names }; files = files_sound; stamp = late } in
    record { sound = sound; compiled = of desk sound refl refl refl refl }

-- ---- What a caller has of a plan
