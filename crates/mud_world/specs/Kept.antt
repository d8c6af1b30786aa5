-- What a keeper tells. The first argument is the members of its trait, `⟦<K as Keeper>⟧` in a clause.
use Rattle.std.specs.Prelude.{◌≡◌, ℕ, List, IsTrue}
use Rattle.mud_world.specs.declared.item.Item.{Item}
use Rattle.mud_world.specs.declared.keeper.Keeper.{Ghosts}

module _ {K : Type 0} (members : Ghosts K) where
  -- how often the keeper has failed
  abbrev pub faults_of : K → ℕ
  faults_of keeper = members.faults keeper

  -- the keeper tells its items now
  abbrev pub Tells : K → Type 0
  Tells keeper = members.tells keeper

  -- its items, where it tells them
  abbrev pub kept_items : K → List Item
  kept_items keeper = members.items keeper

  -- an `open` has answered Ok
  abbrev pub IsOpen : K → Type 0
  IsOpen keeper = IsTrue (members.opened keeper)

  -- where a crash leaves anything at this moment, the keeper tells its items, and they are what it leaves
  abbrev pub Rests : K → Type 0
  Rests keeper = (list : List Item) → members.left keeper list → members.tells keeper × (list ≡ members.items keeper)
