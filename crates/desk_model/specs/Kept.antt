-- A desk and its keeper. The first argument is the members of the keeper's trait.
use Rattle.std.specs.Prelude.{◌≡◌, ◌⊎◌, ℕ, List, IsOkAnd}
use Rattle.mud_world.specs.declared.item.Item.{Item}
use Rattle.mud_world.specs.declared.keeper.Keeper.{Ghosts}
use Rattle.mud_world.specs.Kept.{Tells, kept_items, IsOpen}
use Rattle.desk_model.specs.declared.command.Command.{Command}
use Rattle.desk_model.specs.Commands.{DeskStep, command_step}
use Rattle.desk_model.specs.DeskTables.{DeskTables}
use Rattle.desk_model.specs.Items.{items_of}

-- the items of the desk that the step leads to
abbrev pub AreItemsAfter : DeskStep → List Item → Type 0
AreItemsAfter step list = IsOkAnd step (λ after. list ≡ items_of after.desk)

-- the items of this desk, or of the desk behind one command more
abbrev pub IsOrAfter : DeskTables → List Item → Type 0
IsOrAfter desk list = (list ≡ items_of desk) ⊎ ((now : ℕ) × (command : Command) × AreItemsAfter (command_step desk now command) list)

module _ {K : Type 0} (members : Ghosts K) where
  -- The keeper is open, and the items that it tells are those of the desk. A crash leaves these or, where one more command wasn't
  -- kept, those behind it, whole: also where a failure shut the keeper, which then tells nothing.
  pub record IsKept (keeper : K) (desk : DeskTables) : Type 0 where
    pub is_open : IsOpen members keeper
    pub items : Tells members keeper → kept_items members keeper ≡ items_of desk
    pub crash : (list : List Item) → members.left keeper list → IsOrAfter desk list
