-- A command that was planned in its book: the change is the book's step, of which the step of the desk is made.
use Rattle.std.specs.Prelude.{◌≡◌, ℕ, false, Result, Ok, Err}
use Rattle.table_model.specs.ThingCommands.{ThingStep}
use Rattle.table_model.specs.BindCommands.{BindStep}
use Rattle.usage_tables.specs.FileCommands.{FileStep}
use Rattle.thing_book.specs.Planned as thing
use Rattle.file_cache.specs.Planned as file
use Rattle.bind_book.specs.Plans as bind
use Rattle.thing_book.specs.Planned.{PlannedThings}
use Rattle.file_cache.specs.Changes.{PlannedFile}
use Rattle.bind_book.specs.Plans.{Plan}
use Rattle.desk_model.specs.declared.reply.Refusal.{Refusal}
use Rattle.desk_model.specs.Refusals.{is_want_of_memory}
use Rattle.desk_model.specs.DeskTables.{DeskTables}
use Rattle.desk_model.specs.Commands.{DeskStep, by_things, by_files, by_binds}
use Rattle.desk_books.specs.declared.change.BookChange.{BookChange}
use Rattle.desk_books.specs.declared.change.BookChange.TheVariants.{Things, Files, Binds}
use Rattle.desk_books.specs.declared.lists.Lists.{Lists}

pub record IsThingPlan (desk : DeskTables) (now : ℕ) (step : DeskStep) (lists : Lists) (change : PlannedThings) : Type 0 where
  pub in_book : ThingStep
  pub step_is : step ≡ by_things desk now in_book
  pub planned : thing.IsPlanOf in_book lists.things change

pub record IsFilePlan (desk : DeskTables) (now : ℕ) (step : DeskStep) (lists : Lists) (change : PlannedFile) : Type 0 where
  pub in_book : FileStep
  pub step_is : step ≡ by_files desk now in_book
  pub planned : file.IsPlanOf in_book lists.files change

pub record IsBindPlan (desk : DeskTables) (now : ℕ) (step : DeskStep) (lists : Lists) (change : Plan) : Type 0 where
  pub in_book : BindStep
  pub step_is : step ≡ by_binds desk now in_book
  pub planned : bind.IsPlanOf in_book lists.binds change

abbrev pub IsPlanIn : DeskTables → ℕ → DeskStep → Lists → BookChange → Type 0
IsPlanIn desk now step lists (Things change) = IsThingPlan desk now step lists change
IsPlanIn desk now step lists (Files change) = IsFilePlan desk now step lists change
IsPlanIn desk now step lists (Binds change) = IsBindPlan desk now step lists change

-- the command is planned in its book, or refused so, but for want of memory
abbrev pub IsAnswerIn : DeskTables → ℕ → DeskStep → Lists → Result BookChange Refusal → Type 0
IsAnswerIn desk now step lists (Ok change) = IsPlanIn desk now step lists change
IsAnswerIn desk now step lists (Err refusal) = is_want_of_memory refusal ≡ false → step ≡ Err refusal
