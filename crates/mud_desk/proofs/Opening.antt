-- What an opening leaves of the items, and the session that begins.
use Rattle.std.proofs.Common.{◌≡◌, List, inl, inr, sym, ap, subst, ◌∙◌}
use Rattle.mud_world.specs.declared.item.Item.{Item}
use Rattle.desk_model.specs.DeskTables.{DeskTables, IsSound}
use Rattle.desk_model.specs.Items.{items_of}
use Rattle.desk_model.specs.Keeping.{KeepsDesk}
use Rattle.desk_model.specs.Sessions.{Session, opened}
use Rattle.desk_model.proofs.Keeping.{keeps_own}
use Rattle.mud_desk.specs.declared.items.fault.OpenFault.{OpenFault}
use Rattle.mud_desk.specs.declared.items.fault.OpenFault.TheVariants as opening
use Rattle.mud_desk.specs.Items.Opening.{Leaves}
use Rattle.mud_desk.specs.Answers.{IsLeft}
use Rattle.mud_desk.specs.DeskState.{DeskState, tables_of, session_of}

-- what was read and is kept now are the same lists
pub left_kept : (before now : List Item) (desk : DeskTables) → IsSound desk → KeepsDesk before desk → now ≡ items_of desk → IsLeft before now opening.Memory
left_kept before now desk sound keeps kept = inr (desk, keeps, subst (λ items. KeepsDesk items desk) (sym kept) (keeps_own desk sound))

-- what a refusal of the reading leaves, one of the opening may leave
pub left_of : (before now : List Item) (fault : OpenFault) → Leaves before now fault → IsLeft before now fault
left_of before now opening.Keeper left = left
left_of before now opening.Memory left = elim left [
  | inl same ↦ inl same
  | inr anew ↦ inr (anew.desk, anew.keeps, anew.still)
]
left_of before now (opening.BadItem kind key) left = left

-- a session that begins with a desk has its tables
pub begun_tables : (desk : DeskTables) (state : DeskState) → session_of state ≡ opened desk → desk ≡ tables_of state
unfolding session_of opened
begun_tables desk state begun = sym (ap (λ (s : Session). s.desk) begun)

pub begun_own : (desk : DeskTables) (state : DeskState) → session_of state ≡ opened desk → session_of state ≡ opened (tables_of state)
begun_own desk state begun = begun ∙ ap opened (begun_tables desk state begun)
