-- What each command on Things answers, and the Things after it. The cases of a step stand in order: the first that holds
-- is the step. What a case doesn't name stays as it is, and a refusal changes nothing.
use Rattle.std.specs.Prelude.{◌≡◌, ℕ, ◌+◌, Bool, true, false, nat_le, ◌==◌, List, length, bytes_eq, Option, Some, None, Result, Ok, Err, if◌then◌else◌}
use Rattle.std.specs.List.{list_any}
use Rattle.mud_base.specs.declared.addr.Addr.{Addr}
use Rattle.mud_base.specs.declared.addr.Mac.{Mac}
use Rattle.item_codec.specs.declared.word.Word as outcome
use Rattle.item_codec.specs.declared.word.Word.TheVariants.{New, Same, Pending, Moved, Removed, Held, Released, Stranger, Renewed, Ended}
use Rattle.table_model.specs.declared.thing.Thing.{Thing}
use Rattle.table_model.specs.declared.thing_fault.ThingFault.{ThingFault}
use Rattle.table_model.specs.declared.thing_fault.ThingFault.TheVariants.{ThingsFull, NoThing, NoPending, LeasesFull, NoLease}
use Rattle.table_model.specs.Limits.{most}
use Rattle.table_model.specs.Expiries.{expiry_of, with_expiry, live_rows, live_count, for_ever}
use Rattle.table_model.specs.Things.{thing_at, set_thing, without_thing, without_lease, holds, with_leases, new_thing}

-- what was done, the expiry that is kept for a lease, whether the list of Things changes, and the Things after it
pub record ThingsAfter : Type 0 where
  pub word : outcome.Word
  pub until : Option ℕ
  pub changes : Bool
  pub things : List Thing

-- it says truly whether the list changes
pub record TellsChange (before : List Thing) (after : ThingsAfter) : Type 0 where
  pub same : after.changes ≡ false → after.things ≡ before
  pub other : after.changes ≡ true → ¬ (after.things ≡ before)

abbrev pub ThingStep : Type 0
ThingStep = Result ThingsAfter ThingFault

-- the Things change to these
abbrev pub done : outcome.Word → List Thing → ThingStep
done word things = Ok (record { word = word; until = None; changes = true; things = things })

abbrev pub leased_until : ℕ → outcome.Word → List Thing → ThingStep
leased_until until word things = Ok (record { word = word; until = Some until; changes = true; things = things })

-- they stay these
abbrev pub left : outcome.Word → List Thing → ThingStep
left word things = Ok (record { word = word; until = None; changes = false; things = things })

-- the URL waits for the operator
unfoldable pub is_pending : List ℕ → Option (List ℕ) → Bool
is_pending url None = false
is_pending url (Some pending) = bytes_eq url pending

-- ---- A hardware address announces a URL (RFC 8520, 1.5, 10 and 12)

-- An unknown address becomes a Thing. A known Thing's own URL changes nothing, and what waits goes on waiting; another
-- one waits for the operator, in place of what waited.
unfoldable pub url_cases : Mac → List ℕ → List Thing → Option Thing → ThingStep
url_cases mac url things None =
    if nat_le most.things (length things) then Err ThingsFull
    else done New (set_thing (new_thing mac url) things)
url_cases mac url things (Some thing) =
    if bytes_eq url thing.url then left Same things
    else (if is_pending url thing.pending then left Same things
    else done Pending (set_thing (record thing { pending = Some url }) things))

unfoldable pub url_step : Mac → List ℕ → List Thing → ThingStep
url_step mac url things = url_cases mac url things (thing_at mac things)

-- ---- The operator moves a Thing to the URL that waits

unfoldable pub move_cases : List ℕ → List Thing → Option Thing → ThingStep
move_cases url things None = Err NoThing
move_cases url things (Some thing) =
    if bytes_eq url thing.url then left Same things
    else (if is_pending url thing.pending then done Moved (set_thing (record thing { url = url; pending = None }) things)
    else Err NoPending)

unfoldable pub move_step : Mac → List ℕ → List Thing → ThingStep
move_step mac url things = move_cases url things (thing_at mac things)

-- ---- The operator removes a Thing, and its leases with it

unfoldable pub remove_step : Mac → List Thing → ThingStep
remove_step mac things = remove_cases mac things (thing_at mac things)
  where
    remove_cases : Mac → List Thing → Option Thing → ThingStep
    remove_cases mac things None = Err NoThing
    remove_cases mac things (Some thing) = done Removed (without_thing mac things)

-- ---- The operator holds a Thing, or releases it: a hold stays where the Thing is moved, and ends with a release or with
-- the Thing

unfoldable pub with_hold : Bool → Thing → Thing
with_hold held thing = record thing { held = held }

unfoldable pub hold_cases : List Thing → Option Thing → ThingStep
hold_cases things None = Err NoThing
hold_cases things (Some thing) = if thing.held then left Same things else done Held (set_thing (with_hold true thing) things)

unfoldable pub hold_step : Mac → List Thing → ThingStep
hold_step mac things = hold_cases things (thing_at mac things)

unfoldable pub release_cases : List Thing → Option Thing → ThingStep
release_cases things None = Err NoThing
release_cases things (Some thing) = if thing.held then done Released (set_thing (with_hold false thing) things) else left Same things

unfoldable pub release_step : Mac → List Thing → ThingStep
release_step mac things = release_cases things (thing_at mac things)

-- ---- A hardware address has an address for so many seconds: stated by the operator, or heard in a DHCP message

-- 4,294,967,295 seconds are for ever (RFC 2131, 3.3)
unfoldable pub expiry_after : ℕ → ℕ → ℕ
expiry_after now seconds = if seconds == 4294967295 then for_ever else now + seconds

-- The Thing has the address already, with some expiry: the new expiry is kept.
unfoldable pub kept_lease : Addr → ℕ → List Thing → Thing → ℕ → ThingStep
kept_lease a until things thing old =
    if old == until then left_until until things
    else leased_until until Renewed (set_thing (with_leases (with_expiry a until thing.leases) thing) things)
  where
    left_until : ℕ → List Thing → ThingStep
    left_until until things = Ok (record { word = Same; until = Some until; changes = false; things = things })

-- It hasn't: it gets the address, which leaves the Thing that has it, and its leases that have ended go.
unfoldable pub new_lease : Addr → ℕ → ℕ → List Thing → Thing → ThingStep
new_lease a until now things thing =
    if nat_le most.leases (live_count now thing.leases) then Err LeasesFull
    else leased_until until New (set_thing (with_leases (with_expiry a until (live_rows now thing.leases)) thing) (without_lease a things))

unfoldable pub known_lease : Addr → ℕ → ℕ → List Thing → Thing → Option ℕ → ThingStep
known_lease a until now things thing (Some old) = kept_lease a until things thing old
known_lease a until now things thing None = new_lease a until now things thing

-- A hardware address that no Thing has got the address: it leaves the Thing that has it.
unfoldable pub stranger_lease : Addr → List Thing → ThingStep
stranger_lease a things = if list_any (holds a) things then done Stranger (without_lease a things) else left Stranger things

-- The lease of an unknown hardware address is refused where the operator states it.
unfoldable pub lease_cases : Addr → ℕ → ℕ → Bool → List Thing → Option Thing → ThingStep
lease_cases a until now heard things None = if heard then stranger_lease a things else Err NoThing
lease_cases a until now heard things (Some thing) = known_lease a until now things thing (expiry_of a thing.leases)

unfoldable pub lease_step : Mac → Addr → ℕ → ℕ → Bool → List Thing → ThingStep
lease_step mac a seconds now heard things = lease_cases a (expiry_after now seconds) now heard things (thing_at mac things)

-- ---- The operator ends the lease of an address

unfoldable pub end_step : Addr → List Thing → ThingStep
end_step a things = if list_any (holds a) things then done Ended (without_lease a things) else Err NoLease
