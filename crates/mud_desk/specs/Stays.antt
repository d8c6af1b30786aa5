-- What a call over a desk leaves of its keeper. The first argument is the members of the keeper's trait.
use Rattle.mud_world.specs.declared.keeper.Keeper.{Ghosts}
use Rattle.mud_world.specs.Kept.{Tells}
use Rattle.desk_model.specs.Kept.{IsKept}
use Rattle.mud_desk.specs.DeskState.{tables_of}
use Rattle.mud_desk.specs.declared.desk.Desk.{Desk}

module _ {K : Type 0} (members : Ghosts K) where
  -- The desk's lists are kept, and where its keeper tells now it told before.
  pub record StaysKept (before after : Desk K) : Type 0 where
    pub kept : IsKept members after.keeper (tables_of after.state)
    pub told : Tells members after.keeper → Tells members before.keeper
