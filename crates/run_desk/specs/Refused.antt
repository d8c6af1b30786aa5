-- What a run writes whose store can't be opened, and its status.
use Rattle.std.specs.Prelude.{◌≡◌, ℕ, ◌==◌, ◌⊎◌, List, [], ◌∷◌, ◌++◌, length, codes, if◌then◌else◌}
use Rattle.hex.specs.Hex.{encode_lower}
use Rattle.mud_world.specs.declared.item.Item.{Item}
use Rattle.mud_world.specs.Door.{DoorState, put_out}
use Rattle.text_values.specs.Numbers.{number_text}
use Rattle.mud_desk.specs.declared.items.fault.OpenFault.{OpenFault}
use Rattle.mud_desk.specs.declared.items.fault.OpenFault.TheVariants as open_fault
use Rattle.desk_model.specs.DeskTables.{DeskTables}
use Rattle.desk_model.specs.Keeping.{IsFirstBad, KeepsDesk}
use Rattle.run_common.specs.Output.{WroteFirst}
use Rattle.run_common.specs.Status.{Is, IsOneOf}
use Rattle.run_common.specs.declared.status.Status.{Status}
use Rattle.run_common.specs.declared.status.Status.TheVariants.{DoorFailed, NoMemory, BadItem, KeeperFailed}

-- the kind and the key of an item that is no record
unfoldable pub bad_item_line : ℕ → List ℕ → List ℕ
bad_item_line kind key = codes "fault item" ++ number_text kind ++ key_part key ++ codes "\n"
  where
    -- a space and the key of an item in lower-case hex digits, where it isn't empty
    key_part : List ℕ → List ℕ
    key_part key = if length key == 0 then [] else codes " " ++ encode_lower key

-- what is written where the store can't be opened
abbrev pub refusal_text : OpenFault → List ℕ
refusal_text open_fault.Keeper = []
refusal_text open_fault.Memory = []
refusal_text (open_fault.BadItem kind key) = bad_item_line kind key

-- The status is 7 where the keeper failed, and 5 without memory. Where an item is no record it is 6, or 4 or 5 where its line
-- isn't written whole.
abbrev pub IsRefusal : OpenFault → ℕ → Type 0
IsRefusal open_fault.Keeper status = Is KeeperFailed status
IsRefusal open_fault.Memory status = Is NoMemory status
IsRefusal (open_fault.BadItem kind key) status = IsOneOf (BadItem ∷ DoorFailed ∷ NoMemory ∷ []) status

-- ---- What was written, by the items of the store

-- the statuses of a run whose store is refused
abbrev pub each_refusal : List Status
each_refusal = DoorFailed ∷ NoMemory ∷ BadItem ∷ KeeperFailed ∷ []

-- of the line of the first item that is no record, so much was written
pub record WritesBad (items : List Item) (wrote : List ℕ → Type 0) : Type 0 where
  pub item : Item
  pub bad : IsFirstBad items item
  pub line : wrote (bad_item_line item.kind item.key)

-- What is written where the store is refused, whose items are these. With 4 and 6 one of them is no record: its line was written
-- whole with 6, and a first part of it with 4, and so it may be with 5. Else nothing was written. Nothing is read.
pub record RefusesStore (items : List Item) (old new : DoorState) (status : ℕ) : Type 0 where
  pub statuses : IsOneOf each_refusal status
  pub done : Is BadItem status → WritesBad items (λ line. new ≡ put_out line old)
  pub part : Is DoorFailed status → WritesBad items (λ line. WroteFirst line old new)
  pub wanting : Is NoMemory status → (new ≡ old) ⊎ WritesBad items (λ line. WroteFirst line old new)
  pub none : Is KeeperFailed status → new ≡ old

-- What is done by the desk that these items keep. Or the store is refused, and that is said.
abbrev pub ByStore : List Item → (DeskTables → Type 0) → Type 0 → Type 0
ByStore items by refused = ((desk : DeskTables) × KeepsDesk items desk × by desk) ⊎ refused
