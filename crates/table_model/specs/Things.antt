-- The list of Things, in the order of their hardware addresses.
use Rattle.std.specs.Prelude.{◌≡◌, ℕ, ◌≤◌, Bool, true, false, not, ◌&&◌, nat_le, IsTrue, List, [], length, map, bytes_eq, Option, Some, None}
use Rattle.std.specs.List.{AllByRecursion}
use Rattle.base_rows.specs.Sortable.{row_at, set_row, without_row, SortKeysAscend}
use Rattle.mud_base.specs.declared.addr.Addr.{Addr}
use Rattle.mud_base.specs.declared.addr.Mac.{Mac}
use Rattle.mud_url.specs.Url.{is_canonical}
use Rattle.table_model.specs.declared.thing.Thing.{Thing}
use Rattle.table_model.specs.Limits.{most}
use Rattle.table_model.specs.Fits.{FitsThing}
use Rattle.table_model.specs.Expiries.{Expiries, has_address, without_address, are_ascending, have_expiries}

-- Things are kept by their hardware addresses
unfoldable pub mac_of : Thing → List ℕ
mac_of thing = thing.mac.0

unfoldable pub thing_at : Mac → List Thing → Option Thing
thing_at mac things = row_at mac_of mac.0 things

-- the Things with this one, in place of the one of its hardware address
unfoldable pub set_thing : Thing → List Thing → List Thing
set_thing thing things = set_row mac_of thing things

unfoldable pub without_thing : Mac → List Thing → List Thing
without_thing mac things = without_row mac_of mac.0 things

-- a Thing that has announced a URL, and no more
unfoldable pub new_thing : Mac → List ℕ → Thing
new_thing mac url = record { mac = mac; url = url; pending = None; leases = []; held = false }

-- ---- Leases

unfoldable pub holds : Addr → Thing → Bool
holds a thing = has_address a thing.leases

unfoldable pub with_leases : Expiries → Thing → Thing
with_leases leases thing = record thing { leases = leases }

-- the Thing without a lease of the address
unfoldable pub released : Addr → Thing → Thing
released a thing = with_leases (without_address a thing.leases) thing

-- the address leaves whichever Thing has it
unfoldable pub without_lease : Addr → List Thing → List Thing
without_lease a things = map (released a) things

-- ---- What holds of every such list

-- the URL that waits is one, and another than the Thing's
unfoldable pub may_wait : List ℕ → Option (List ℕ) → Bool
may_wait url None = true
may_wait url (Some pending) = is_canonical pending && not (bytes_eq pending url)

unfoldable pub is_sound_thing : Thing → Bool
is_sound_thing thing = is_canonical thing.url && may_wait thing.url thing.pending && are_leases thing.leases
  where
    -- the leases of one Thing
    are_leases : Expiries → Bool
    are_leases rows = are_ascending rows && have_expiries rows && nat_le (length rows) most.leases

-- a Thing that can be kept: it is sound, and fits the fields of its item
pub record IsKeptThing (thing : Thing) : Type 0 where
  pub sound : IsTrue (is_sound_thing thing)
  pub fits : FitsThing thing

-- an address is in the leases of one Thing: two that have it stand at one sort key
abbrev pub IsAlone : List Thing → Type 0
IsAlone things = (a : Addr) (p q : List ℕ) (t u : Thing) → row_at mac_of p things ≡ Some t → row_at mac_of q things ≡ Some u → IsTrue (holds a t) → IsTrue (holds a u) → p ≡ q

pub record IsSoundThings (things : List Thing) : Type 0 where
  pub ascend : SortKeysAscend mac_of things
  pub each : AllByRecursion IsKeptThing things
  pub few : length things ≤ most.things
  pub alone : IsAlone things
