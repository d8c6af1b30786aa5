-- Opening a keeper: why it can't be done, and what it leaves.
use Rattle.std.specs.Prelude.{◌≡◌, ℕ, Bool, true, false, List, ◌∷◌, ◌++◌, take, drop, ◌⊎◌, Result, Ok, Err}
use Rattle.mud_base.specs.Numbers.{IsOctets}
use Rattle.mud_world.specs.declared.item.Item.{Item}
use Rattle.mud_world.specs.declared.fault.KeepFault.{KeepFault}
use Rattle.mud_world.specs.declared.fault.KeepFault.TheVariants as keep
use Rattle.mud_world.specs.Items.{IsOrdered}
use Rattle.table_model.specs.ThingItems.{in_second}
use Rattle.desk_model.specs.DeskTables.{DeskTables}
use Rattle.desk_model.specs.Items.{in_second_version}
use Rattle.desk_model.specs.Keeping.{KeepsDesk, IsFirstBad}
use Rattle.mud_desk.specs.declared.items.fault.OpenFault.{OpenFault}
use Rattle.mud_desk.specs.declared.items.fault.OpenFault.TheVariants.{Keeper, Memory, BadItem}

-- ---- Faults

abbrev pub number_of_open_fault : OpenFault → ℕ
number_of_open_fault Keeper = 1
number_of_open_fault Memory = 2
number_of_open_fault (BadItem kind key) = 3

-- what a call of the keeper answered
abbrev pub open_fault : KeepFault → OpenFault
open_fault keep.Failed = Keeper
open_fault keep.Memory = Memory

-- whether the keeper itself failed
abbrev pub has_keeper_failed : {A : Type 0} → Result A OpenFault → Bool
has_keeper_failed (Ok a) = false
has_keeper_failed (Err Keeper) = true
has_keeper_failed (Err Memory) = false
has_keeper_failed (Err (BadItem kind key)) = false

-- the fault isn't that of an item
abbrev pub IsOfCall : OpenFault → Type 0
IsOfCall Keeper = Unit {0}
IsOfCall Memory = Unit {0}
IsOfCall (BadItem kind key) = ⊥

-- the first item that is no record has this kind and key
pub record IsBadItem (items : List Item) (kind : ℕ) (key : List ℕ) : Type 0 where
  pub item : Item
  pub bad : IsFirstBad items item
  pub kind_is : item.kind ≡ kind
  pub key_is : item.key ≡ key

-- an item is named exactly where it is the first of these that is no record
abbrev pub IsFaultOf : List Item → OpenFault → Type 0
IsFaultOf items Keeper = Unit {0}
IsFaultOf items Memory = Unit {0}
IsFaultOf items (BadItem kind key) = IsBadItem items kind key

-- ---- Things put anew

-- the items, of which the first so many are put anew in version 2
pub record IsAnew (before now : List Item) : Type 0 where
  pub count : ℕ
  pub items : now ≡ in_second_version (take count before) ++ drop count before

-- all items were records, and some of them are put anew, which are those of the same desk
pub record IsPartlyAnew (before now : List Item) : Type 0 where
  pub anew : IsAnew before now
  pub desk : DeskTables
  pub keeps : KeepsDesk before desk
  pub still : KeepsDesk now desk

-- what a failure leaves of the items: all of them where an item is named, and also else until Things are put anew
abbrev pub Leaves : List Item → List Item → OpenFault → Type 0
Leaves before now (BadItem kind key) = now ≡ before
Leaves before now Keeper = (now ≡ before) ⊎ IsPartlyAnew before now
Leaves before now Memory = (now ≡ before) ⊎ IsPartlyAnew before now

-- ---- One item

-- the body of the item has octets
abbrev pub HasOctets : Item → Type 0
HasOctets item = IsOctets item.body

-- the item is put anew in its place, and the others stay
pub record PutsAnew (item : Item) (before now : List Item) : Type 0 where
  pub there : (xs ys : List Item) → IsOrdered before → before ≡ xs ++ item ∷ ys → now ≡ xs ++ in_second item ∷ ys
