-- What a command answers, and the steps that it takes; and why a desk can't be opened.
use Rattle.std.specs.Prelude.{◌≡◌, ℕ, ◌+◌, ◌≤◌, Bool, true, false, List, length, ◌⊎◌}
use Rattle.acl_model.specs.declared.binding.Binding.{Binding}
use Rattle.acl_model.specs.Changes.{IsBindingChange}
use Rattle.acl_changes.specs.Patch.{rows_apart}
use Rattle.acl_compile.specs.Compiled.{CompiledState}
use Rattle.acl_compile.specs.Plans.{IsKept}
use Rattle.desk_model.specs.declared.reply.Reply.{Reply}
use Rattle.desk_model.specs.declared.reply.Reply.TheVariants.{Done, Refused, Keeper, Memory}
use Rattle.desk_model.specs.Commands.{DeskStep}
use Rattle.desk_model.specs.Verdicts.{desk_bindings}
use Rattle.mud_desk.specs.declared.items.fault.OpenFault.{OpenFault}
use Rattle.mud_desk.specs.declared.items.fault.OpenFault.TheVariants as opening
use Rattle.mud_desk.specs.Items.Opening.{IsPartlyAnew}
use Rattle.mud_world.specs.declared.item.Item.{Item}
use Rattle.desk_model.specs.Keeping.{KeepsSame}
use Rattle.desk_books.specs.Books.{Books, desk_of}
use Rattle.desk_books.specs.Planned.{IsPaid, IsRead}

-- the policies, bindings and rows are as before, but where the command was carried out
abbrev pub StaysUnlessDone : Reply → CompiledState → CompiledState → Type 0
StaysUnlessDone (Done outcome) before after = Unit {0}
StaysUnlessDone (Refused refusal) before after = IsKept before after
StaysUnlessDone Keeper before after = IsKept before after
StaysUnlessDone Memory before after = IsKept before after

-- the fault is that the keeper failed
abbrev pub is_fault_of_keeper : OpenFault → Bool
is_fault_of_keeper opening.Keeper = true
is_fault_of_keeper opening.Memory = false
is_fault_of_keeper (opening.BadItem kind key) = false

-- What a refusal leaves of the items: all of them where an item is named. Else all of them, or those of the same desk: where the
-- keeper failed, with some of its Things put anew.
abbrev pub IsLeft : List Item → List Item → OpenFault → Type 0
IsLeft before now (opening.BadItem kind key) = now ≡ before
IsLeft before now opening.Keeper = (now ≡ before) ⊎ IsPartlyAnew before now
IsLeft before now opening.Memory = KeepsSame before now

-- one step for each compiled row that is only before or only after, and for each binding that goes or comes
pub record PaysForCommit (before after : Books) (steps : ℕ) : Type 0 where
  pub gone : List Binding
  pub come : List Binding
  pub change : IsBindingChange (desk_bindings (desk_of before)) (desk_bindings (desk_of after)) gone come
  pub most : steps ≤ rows_apart before.compiled.rows after.compiled.rows + (length gone + length come)

-- the steps between two counts are no more than those of one plan and of one commit at most, whatever the reply
pub record IsPaidOnce (step : DeskStep) (before after : Books) (begun ended : ℕ) : Type 0 where
  pub planned : ℕ
  pub committed : ℕ
  pub most : ended ≤ begun + (planned + committed)
  pub plan : IsPaid step before planned
  pub commit : (committed ≡ 0) ⊎ PaysForCommit before after committed

-- a command that is done takes no fewer steps than its plan reads
abbrev pub IsReadOnce : Reply → DeskStep → Books → ℕ → Type 0
IsReadOnce (Done outcome) step before steps = IsRead step before steps
IsReadOnce (Refused refusal) step before steps = Unit {0}
IsReadOnce Keeper step before steps = Unit {0}
IsReadOnce Memory step before steps = Unit {0}
