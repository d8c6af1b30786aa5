-- The answers of the books are those of the desk.
use Rattle.std.proofs.Common.{◌≡◌, ◌≢◌, ℕ, false, Result, Err, sym, ap, subst, ◌∙◌}
use Rattle.std.proofs.lemmas.Bool.{false≢true}
use Rattle.table_model.specs.declared.thing_fault.ThingFault.{ThingFault}
use Rattle.table_model.specs.declared.thing_fault.ThingFault.TheVariants as thing_fault
use Rattle.table_model.specs.declared.bind_fault.BindFault.{BindFault}
use Rattle.table_model.specs.declared.bind_fault.BindFault.TheVariants as bind_fault
use Rattle.usage_tables.specs.declared.cache_fault.CacheFault.{CacheFault}
use Rattle.usage_tables.specs.declared.cache_fault.CacheFault.TheVariants as cache_fault
use Rattle.table_model.specs.ThingCommands.{ThingStep}
use Rattle.table_model.specs.BindCommands.{BindStep}
use Rattle.usage_tables.specs.FileCommands.{FileStep}
use Rattle.desk_model.specs.declared.reply.Refusal.TheVariants.{Things, Files, Binds}
use Rattle.desk_model.specs.declared.reply.Refusal.{Refusal}
use Rattle.desk_model.specs.declared.command.Command.{Command}
use Rattle.desk_model.specs.Refusals.{is_want_of_memory}
use Rattle.desk_books.specs.declared.change.BookChange.{BookChange}
use Rattle.desk_books.specs.declared.lists.Lists.{Lists}
use Rattle.desk_books.specs.InBooks.{IsAnswerIn}
use Rattle.desk_model.specs.DeskTables.{DeskTables}
use Rattle.desk_model.specs.Commands.{command_step, by_things, by_files, by_binds}
use Rattle.thing_book.specs.Planned as thing
use Rattle.file_cache.specs.Planned as file
use Rattle.bind_book.specs.Book as bind

-- a refusal that isn't for want of memory is that of the step
pub thing_refused : (desk : DeskTables) (now : ℕ) (step : ThingStep) (fault : ThingFault) → thing.IsRefusal step fault → is_want_of_memory (Things fault) ≡ false → by_things desk now step ≡ Err (Things fault)
unfolding is_want_of_memory by_things
thing_refused desk now step fault answer spoken =
    let other : fault ≢ thing_fault.Memory = λ e. false≢true (sym spoken ∙ ap (λ (f : ThingFault). is_want_of_memory (Things f)) e) in
    ap (λ (s : ThingStep). by_things desk now s) (answer other)

pub file_refused : (desk : DeskTables) (now : ℕ) (step : FileStep) (fault : CacheFault) → file.IsRefusal step fault → is_want_of_memory (Files fault) ≡ false → by_files desk now step ≡ Err (Files fault)
unfolding is_want_of_memory by_files
file_refused desk now step fault answer spoken =
    let other : fault ≢ cache_fault.Memory = λ e. false≢true (sym spoken ∙ ap (λ (f : CacheFault). is_want_of_memory (Files f)) e) in
    ap (λ (s : FileStep). by_files desk now s) (answer other)

pub bind_refused : (desk : DeskTables) (now : ℕ) (step : BindStep) (fault : BindFault) → bind.IsRefusal step fault → is_want_of_memory (Binds fault) ≡ false → by_binds desk now step ≡ Err (Binds fault)
unfolding is_want_of_memory by_binds
bind_refused desk now step fault answer spoken =
    let other : fault ≢ bind_fault.Memory = λ e. false≢true (sym spoken ∙ ap (λ (f : BindFault). is_want_of_memory (Binds f)) e) in
    ap (λ (s : BindStep). by_binds desk now s) (answer other)

-- the command is one of these
pub answer_of : (desk : DeskTables) (now : ℕ) (command command' : Command) (lists : Lists) (result : Result BookChange Refusal) → command ≡ command' → IsAnswerIn desk now (command_step desk now command') lists result → IsAnswerIn desk now (command_step desk now command) lists result
answer_of desk now command command' lists result is answer = subst (λ (c : Command). IsAnswerIn desk now (command_step desk now c) lists result) (sym is) answer
