-- The steps of a command: those of one plan, and of one commit where it is done; and what stays where it isn't.
use Rattle.std.proofs.Common.{◌≡◌, ℕ, ◌+◌, ◌-◌, ◌≤◌, Bool, true, false, List, length, Option, Some, None, Ok, Err, refl, sym, subst, inl, inr, arith}
use Rattle.std.specs.Prelude.{max, IsOkAnd, if◌then◌else◌}
use Rattle.acl_model.specs.Changes.{IsBindingChange}
use Rattle.acl_rows.specs.declared.row.Row.{Row}
use Rattle.acl_changes.specs.Patch.{rows_apart}
use Rattle.acl_compile.specs.Compiled.{CompiledState}
use Rattle.acl_compile.specs.Plans.{IsKept}
use Rattle.desk_model.specs.declared.command.Command.{Command}
use Rattle.desk_model.specs.declared.reply.Reply.{Reply}
use Rattle.desk_model.specs.declared.reply.Reply.TheVariants.{Done, Refused, Keeper, Memory}
use Rattle.desk_model.specs.declared.reply.Refusal.{Refusal}
use Rattle.desk_model.specs.Refusals.{is_want_of_memory, reply_of}
use Rattle.desk_model.specs.DeskTables.{DeskTables}
use Rattle.desk_model.specs.Commands.{DeskStep, command_step}
use Rattle.desk_model.specs.Verdicts.{desk_bindings}
use Rattle.desk_books.specs.Books.{Books, desk_of}
use Rattle.desk_books.specs.Changes.{PlannedChange, desk_after}
use Rattle.desk_books.specs.Planned.{IsPlanned, IsPaid, IsRead, ReadsFor, HasFewEdits}
use Rattle.mud_desk.specs.DeskState.{DeskState, tables_of}
use Rattle.mud_desk.specs.Answers.{StaysUnlessDone, PaysForCommit, IsPaidOnce, IsReadOnce}

-- what stays, stays whatever is replied
pub undone : (reply : Reply) (before after : CompiledState) → IsKept before after → StaysUnlessDone reply before after
undone (Done outcome) before after kept = tt
undone (Refused refusal) before after kept = kept
undone Keeper before after kept = kept
undone Memory before after kept = kept

step_edits : (books : Books) (change : PlannedChange) (step : DeskStep) → IsOkAnd step (λ s. IsPlanned s books change) → HasFewEdits (desk_of books) (desk_after change (desk_of books)) change.rows
step_edits books change (Ok s) planned = subst (λ (desk : DeskTables). HasFewEdits (desk_of books) desk change.rows) (sym planned.leads) planned.edits
step_edits books change (Err refusal) planned = absurd planned

-- what a commit takes, by its own count
commit_paid : (before mid after : Books) (change : PlannedChange) → desk_of mid ≡ desk_of before → mid.compiled.rows ≡ before.compiled.rows → desk_of after ≡ desk_after change (desk_of mid)
    → HasFewEdits (desk_of mid) (desk_after change (desk_of mid)) change.rows → length change.rows.rows ≤ rows_apart mid.compiled.rows after.compiled.rows
    → PaysForCommit before after (length change.rows.rows + length change.rows.bindings)
commit_paid before mid after change same rows desk edits most = record {
  gone = edits.gone;
  come = edits.come;
  change = subst (λ (d : DeskTables). IsBindingChange (desk_bindings d) (desk_bindings (desk_of after)) edits.gone edits.come) same
      (subst (λ (d : DeskTables). IsBindingChange (desk_bindings (desk_of mid)) (desk_bindings d) edits.gone edits.come) (sym desk) edits.change);
  most =
      let few = edits.few in
      let apart : length change.rows.rows ≤ rows_apart before.compiled.rows after.compiled.rows = subst (λ (rs : List Row). length change.rows.rows ≤ rows_apart rs after.compiled.rows) rows most in
      omega (arith, few, apart);
}

-- ---- At least

-- in more steps too
reads_more : (url : Option (List ℕ)) (compiled : CompiledState) (before after : DeskTables) (m n : ℕ) → m ≤ n → ReadsFor url compiled before after m → ReadsFor url compiled before after n
reads_more None compiled before after m n le read = record { gone = read.gone; come = read.come; change = read.change; least = omega (arith, read.least, le) }
reads_more (Some url) compiled before after m n le (inl same) = inl same
reads_more (Some url) compiled before after m n le (inr read) = inr (omega (arith, read, le))

read_more : (step : DeskStep) (books : Books) (m n : ℕ) → m ≤ n → IsRead step books m → IsRead step books n
read_more (Ok after) books m n le read = reads_more after.outcome.url books.compiled (desk_of books) after.desk m n le read
read_more (Err refusal) books m n le read = absurd read

-- those of the plan, where those of the commit come behind them
pub read_done : (command : Command) (books : Books) (desk : DeskTables) (n m : ℕ) → n ≡ m → (a b c : ℕ) → b ≤ c → IsRead (command_step desk n command) books (b - a) → IsRead (command_step desk m command) books (c - a)
read_done command books desk n m is a b c le read =
    let more : b - a ≤ c - a = omega (arith, le) in
    subst (λ k. IsRead (command_step desk k command) books (c - a)) is (read_more (command_step desk n command) books (b - a) (c - a) more read)

pub unread : (refusal : Refusal) (step : DeskStep) (books : Books) (steps : ℕ) → IsReadOnce (reply_of refusal) step books steps
unfolding reply_of
unread refusal step books steps = by (is_want_of_memory refusal)
  where
    by : (b : Bool) → IsReadOnce (if b then Memory else Refused refusal) step books steps
    by true = tt
    by false = tt

module _ (before mid : DeskState) (command : Command) (n now : ℕ) (is : n ≡ max before.moment now) (same : tables_of mid ≡ tables_of before) (rows : mid.books.compiled.rows ≡ before.books.compiled.rows) where
  pub paid : (after : DeskState) (change : PlannedChange) → IsOkAnd (command_step (tables_of before) n command) (λ s. IsPlanned s mid.books change)
      → tables_of after ≡ desk_after change (tables_of mid) → (a b c : ℕ) → IsPaid (command_step (tables_of before) n command) before.books (b - a)
      → c ≡ b + length change.rows.rows + length change.rows.bindings → length change.rows.rows ≤ rows_apart mid.books.compiled.rows after.books.compiled.rows
      → IsPaidOnce (command_step (tables_of before) (max before.moment now) command) before.books after.books a c
  unfolding tables_of
  paid after change planned desk a b c plan counted most =
      subst (λ k. IsPaidOnce (command_step (tables_of before) k command) before.books after.books a c) is
      (record {
        planned = b - a;
        committed = length change.rows.rows + length change.rows.bindings;
        most = omega (arith, counted);
        plan = plan;
        commit = inr (commit_paid before.books mid.books after.books change same rows desk (step_edits mid.books change (command_step (tables_of before) n command) planned) most);
      })

  pub planned_only : (a b : ℕ) → IsPaid (command_step (tables_of before) n command) before.books (b - a)
      → IsPaidOnce (command_step (tables_of before) (max before.moment now) command) before.books mid.books a b
  planned_only a b plan =
      subst (λ k. IsPaidOnce (command_step (tables_of before) k command) before.books mid.books a b) is
      (record { planned = b - a; committed = 0; most = omega arith; plan = plan; commit = inl refl })
