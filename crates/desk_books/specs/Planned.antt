-- When a planned change is the step of a command, and what its commit needs.
use Rattle.std.specs.Prelude.{◌≡◌, ℕ, ◌+◌, ◌≤◌, Bool, true, false, List, [], length, Option, Some, None, IsOkAnd, ◌⊎◌}
use Rattle.mud_world.specs.declared.item.Put.{Put}
use Rattle.acl_model.specs.declared.binding.Binding.{Binding}
use Rattle.acl_model.specs.Changes.{IsBindingChange}
use Rattle.acl_rows.specs.Rows.{rows_of}
use Rattle.acl_compile.specs.Compiled.{CompiledState}
use Rattle.acl_compile.specs.Plans.{Plan, Fits, slots_after, bindings_after}
use Rattle.table_model.specs.Binds.{IsSoundBinds}
use Rattle.usage_tables.specs.Files.{IsSoundFiles}
use Rattle.usage_tables.specs.FileEdits.{edited, room_for}
use Rattle.bind_book.specs.Plans.{changed_binds, HasRoomFor}
use Rattle.thing_book.specs.Planned as thing
use Rattle.file_cache.specs.Changes.{Files}
use Rattle.bind_book.specs.Book.{Book}
use Rattle.desk_model.specs.DeskTables.{DeskTables, IsSound}
use Rattle.desk_model.specs.Commands.{DeskAfter, DeskStep}
use Rattle.desk_model.specs.Items.{IsKeptBy}
use Rattle.desk_model.specs.Verdicts.{policy_at, desk_bindings}
use Rattle.desk_books.specs.CompiledDesk.{IsCompiledOf}
use Rattle.desk_books.specs.declared.change.BookChange.{BookChange}
use Rattle.desk_books.specs.declared.change.BookChange.TheVariants as which
use Rattle.desk_books.specs.Books.{Books, desk_of}
use Rattle.desk_books.specs.RowPlans.{IsPaidByBindings, IsPaidByPolicy, binding_reads, AreRead}
use Rattle.desk_books.specs.Changes.{PlannedChange, desk_after}

-- ---- What a commit needs

-- the book of the change has room for what is put in, and its lists are sound afterwards
abbrev pub CanCommit : BookChange → thing.Things → Files → Book → Type 0
CanCommit (which.Things change) things files binds = thing.IsReady things change
CanCommit (which.Files change) things files binds = (room_for change.edit ≤ files.room) × IsSoundFiles (edited change.edit change.url files.files)
CanCommit (which.Binds change) things files binds = HasRoomFor change.rows binds × IsSoundBinds (changed_binds change.rows binds.binds)

-- what is compiled has the policies and bindings of the plan, and the rows of these
pub record IsCommitted (plan : Plan) (before after : CompiledState) : Type 0 where
  pub slots : after.slots ≡ slots_after plan before
  pub bindings : after.bindings ≡ bindings_after plan before
  pub rows : after.rows ≡ rows_of after.slots after.bindings

-- The change was planned for just these books: there is room, and the desk afterwards is sound and is the one that is compiled.
pub record IsReady (books : Books) (change : PlannedChange) : Type 0 where
  pub lists : CanCommit change.change books.things books.files books.binds
  pub fits : Fits change.rows books.compiled
  pub sound : IsSound (desk_after change (desk_of books))
  pub compiled : (after : CompiledState) → IsCommitted change.rows books.compiled after → IsCompiledOf (desk_after change (desk_of books)) after

-- ---- When a change is that of a step

-- where a list changes the batch makes of the items of the desk before those of the desk after, and else it is empty
abbrev pub IsBatchOf : Bool → DeskTables → DeskTables → List Put → Type 0
IsBatchOf true before after batch = IsKeptBy before after batch
IsBatchOf false before after batch = batch ≡ []

-- of the compiled bindings no more are edited than go and come between the desks
pub record HasFewEdits (before after : DeskTables) (plan : Plan) : Type 0 where
  pub gone : List Binding
  pub come : List Binding
  pub change : IsBindingChange (desk_bindings before) (desk_bindings after) gone come
  pub few : length plan.bindings ≤ length gone + length come

-- The change answers what the step answers, leads to the desk after it, and is kept by its batch; it can be committed.
pub record IsPlanned (after : DeskAfter) (books : Books) (change : PlannedChange) : Type 0 where
  pub outcome : change.outcome ≡ after.outcome
  pub leads : desk_after change (desk_of books) ≡ after.desk
  pub batch : IsBatchOf after.changes (desk_of books) after.desk change.batch
  pub ready : IsReady books change
  pub edits : HasFewEdits (desk_of books) after.desk change.rows

-- ---- The steps of a plan

-- No more than those of a change of bindings, of the bindings that go and come between the desks: where no entry has more than
-- `s` member selectors, and the bindings with those that come, and the rows, can be counted with `b` and `k` binary digits.
pub record PaysForBindings (compiled : CompiledState) (before after : DeskTables) (steps : ℕ) : Type 0 where
  pub gone : List Binding
  pub come : List Binding
  pub change : IsBindingChange (desk_bindings before) (desk_bindings after) gone come
  pub most : IsPaidByBindings gone come compiled steps

-- no more than those of a change of the policy of a URL, to that after the step
abbrev pub PaysForPolicy : CompiledState → List ℕ → DeskTables → ℕ → Type 0
PaysForPolicy compiled url after steps = IsPaidByPolicy url (policy_at after url) compiled steps

-- of a command on files there is a URL
abbrev pub PaysFor : Option (List ℕ) → CompiledState → DeskTables → DeskTables → ℕ → Type 0
PaysFor None compiled before after steps = PaysForBindings compiled before after steps
PaysFor (Some url) compiled before after steps = PaysForPolicy compiled url after steps

-- no step, which alone is so where the command is refused, or no more than these
abbrev pub IsPaid : DeskStep → Books → ℕ → Type 0
IsPaid step books steps = (steps ≡ 0) ⊎ IsOkAnd step (λ after. PaysFor after.outcome.url books.compiled (desk_of books) after.desk steps)

-- ---- The steps that a plan takes at least

-- those of the bindings that go and come between the desks
pub record ReadsBindings (compiled : CompiledState) (before after : DeskTables) (steps : ℕ) : Type 0 where
  pub gone : List Binding
  pub come : List Binding
  pub change : IsBindingChange (desk_bindings before) (desk_bindings after) gone come
  pub least : binding_reads gone come compiled ≤ steps

-- those of a policy that comes or goes
abbrev pub ReadsPolicy : CompiledState → List ℕ → DeskTables → DeskTables → ℕ → Type 0
ReadsPolicy compiled url before after steps = (policy_at before url ≡ policy_at after url) ⊎ AreRead url (policy_at after url) compiled steps

-- of a command on files there is a URL
abbrev pub ReadsFor : Option (List ℕ) → CompiledState → DeskTables → DeskTables → ℕ → Type 0
ReadsFor None compiled before after steps = ReadsBindings compiled before after steps
ReadsFor (Some url) compiled before after steps = ReadsPolicy compiled url before after steps

-- no fewer steps than these
abbrev pub IsRead : DeskStep → Books → ℕ → Type 0
IsRead step books steps = IsOkAnd step (λ after. ReadsFor after.outcome.url books.compiled (desk_of books) after.desk steps)
