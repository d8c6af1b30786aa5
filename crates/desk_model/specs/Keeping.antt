-- The desk that items keep, and the first of them that is no record.
use Rattle.std.specs.Prelude.{◌≡◌, ◌⊎◌, false, List, [], ◌∷◌, ◌++◌}
use Rattle.mud_world.specs.declared.item.Item.{Item}
use Rattle.table_model.specs.declared.thing.Thing.{Thing}
use Rattle.table_model.specs.Things.{IsKeptThing}
use Rattle.table_model.specs.ThingItems.{thing_item, first_thing_item}
use Rattle.desk_model.specs.DeskTables.{DeskTables, IsSound}
use Rattle.desk_model.specs.Items.{items_of}

-- version 1 keeps by this item a Thing that isn't held, which version 2 keeps by that one
pub record IsFirstVersion (item own : Item) : Type 0 where
  pub thing : Thing
  pub kept : IsKeptThing thing
  pub unheld : thing.held ≡ false
  pub first : item ≡ first_thing_item thing
  pub second : own ≡ thing_item thing

-- the items are those, in their order, but that some of the Things may be kept in version 1
abbrev pub AreVersionsOf : List Item → List Item → Type 0
AreVersionsOf [] [] = Unit {0}
AreVersionsOf [] (own ∷ owns) = ⊥
AreVersionsOf (item ∷ items) [] = ⊥
AreVersionsOf (item ∷ items) (own ∷ owns) = ((item ≡ own) ⊎ IsFirstVersion item own) × AreVersionsOf items owns

-- The desk is kept by the items: it is sound, and they are its items.
pub record KeepsDesk (items : List Item) (desk : DeskTables) : Type 0 where
  pub sound : IsSound desk
  pub own : AreVersionsOf items (items_of desk)

-- The item is the first that is no record: the items before it keep a desk, and with it they keep none.
pub record IsFirstBad (items : List Item) (item : Item) : Type 0 where
  pub before : List Item
  pub behind : List Item
  pub splits : items ≡ before ++ item ∷ behind
  pub good : (desk : DeskTables) × KeepsDesk before desk
  pub bad : (desk : DeskTables) → ¬ (KeepsDesk (before ++ item ∷ []) desk)

-- the items are as before, or keep the same desk
abbrev pub KeepsSame : List Item → List Item → Type 0
KeepsSame before after = (after ≡ before) ⊎ ((desk : DeskTables) × KeepsDesk before desk × KeepsDesk after desk)
