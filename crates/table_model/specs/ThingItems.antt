-- The items in which Things are kept, and when an item is one.
use Rattle.std.specs.Prelude.{◌≡◌, ℕ, Bool, true, false, not, ◌&&◌, ◌==◌, nat_lt, List, [], ◌∷◌, ◌++◌, length, map, Option, Some, None, if◌then◌else◌, ◌⊎◌}
use Rattle.std.specs.List.{list_any}
use Rattle.base_rows.specs.Sortable.{comes_last}
use Rattle.mud_world.specs.declared.item.Item.{Item}
use Rattle.item_codec.specs.Kinds.{thing_kind}
use Rattle.item_codec.specs.Spelling.{number, string, version_of}
use Rattle.item_codec.specs.Records.{Reading, ◌>>=◌, number_in, string_in, version_to_in, end_in, optional, optional_in, elements, elements_in}
use Rattle.table_model.specs.declared.thing.Thing.{Thing}
use Rattle.table_model.specs.Limits.{most}
use Rattle.table_model.specs.Things.{mac_of, holds, is_sound_thing, IsKeptThing}
use Rattle.table_model.specs.ItemFields.{expiring, expiring_in}

-- ---- The item of a Thing: its key is the hardware address, and its body is of the version 2 or 1

-- what both versions say: the URL, the URL that waits or none, and the leases
unfoldable pub thing_fields : Thing → List ℕ
thing_fields thing = string thing.url ++ (optional string thing.pending ++ elements expiring thing.leases)

unfoldable pub hold_octet : Bool → List ℕ
hold_octet true = number 1 1
hold_octet false = number 1 0

-- version 2 ends with one octet more: 1 where the Thing is held, and else 0
unfoldable pub thing_body : Thing → List ℕ
thing_body thing = version_of 2 ++ (thing_fields thing ++ hold_octet thing.held)

unfoldable pub thing_item : Thing → Item
thing_item thing = record { kind = thing_kind; key = thing.mac.0; body = thing_body thing }

unfoldable pub thing_items : List Thing → List Item
thing_items things = map thing_item things

-- version 1 says that the Thing isn't held
unfoldable pub first_thing_item : Thing → Item
first_thing_item thing = record { kind = thing_kind; key = thing.mac.0; body = version_of 1 ++ thing_fields thing }

-- ---- Reading one

-- whether it is held, by the version of its body
unfoldable pub hold_in : ℕ → Reading Bool
hold_in version octets =
    if version == 1 then Some (false, octets) else (do
      flag ← number_in 1 octets
      if flag.0 == 0 then Some (false, flag.1) else (if flag.0 == 1 then Some (true, flag.1) else None))

-- the Thing of a key and a body, where the body has the form of its version, with nothing left
unfoldable pub thing_of : List ℕ → List ℕ → Option Thing
thing_of key body = do
  version ← version_to_in 2 body
  url ← string_in version.1
  pending ← optional_in string_in url.1
  leases ← elements_in expiring_in pending.1
  held ← hold_in version.0 leases.1
  ended ← end_in held.1
  Some (record { mac = record { 0 = key }; url = url.0; pending = pending.0; leases = leases.0; held = held.0 })

-- the Thing of an item: the URLs are canonical, the URL that waits is another one, and there are at most four leases in
-- the order of their addresses, each address once, with expiries that are for ever or below 2^40
unfoldable pub thing_in : Item → Option Thing
thing_in item =
    if item.kind == thing_kind && length item.key == 6 then (do
      thing ← thing_of item.key item.body
      if_sound_thing thing) else None
  where
    if_sound_thing : Thing → Option Thing
    if_sound_thing thing = if is_sound_thing thing then Some thing else None

-- the item in which version 2 says what an item of either version says, where it says a Thing
unfoldable pub item_anew : Item → Option Thing → Item
item_anew item (Some thing) = thing_item thing
item_anew item None = item

unfoldable pub in_second : Item → Item
in_second item = item_anew item (thing_in item)

-- ---- Reading them one after the other

-- the Thing may stand behind these: its hardware address is greater, there is room, and none of them has one of its
-- addresses
unfoldable pub may_follow : List Thing → Thing → Bool
may_follow things thing = comes_last mac_of thing things && nat_lt (length things) most.things && not (is_taken things thing)
  where
    -- one of these Things has a lease of the address of the row
    is_taken : List Thing → Thing → Bool
    is_taken things thing = list_any (λ r. list_any (holds r.0) things) thing.leases

-- the Things with that of the item, where it is one that may stand behind them
unfoldable pub with_thing_item : List Thing → Item → Option (List Thing)
with_thing_item things item = do
  thing ← thing_in item
  if may_follow things thing then Some (things ++ thing ∷ []) else None

-- ---- What has a spelling

-- the item is that of the Thing, or that in which version 1 keeps one that isn't held
pub record IsThingItem (item : Item) (thing : Thing) : Type 0 where
  pub same : (item ≡ thing_item thing) ⊎ ((item ≡ first_thing_item thing) × (thing.held ≡ false))
  pub kept : IsKeptThing thing
