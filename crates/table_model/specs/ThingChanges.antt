-- The rows that a lease changes.
use Rattle.std.specs.Prelude.{ℕ, ◌==◌, if◌then◌else◌, List, [], ◌∷◌, ◌++◌, map, filter, Option, Some, None}
use Rattle.mud_base.specs.declared.addr.Addr.{Addr}
use Rattle.mud_base.specs.declared.addr.Mac.{Mac}
use Rattle.base_rows.specs.Changes.{RowChange}
use Rattle.table_model.specs.declared.thing.Thing.{Thing}
use Rattle.table_model.specs.Expiries.{expiry_of, with_expiry, live_rows}
use Rattle.table_model.specs.Things.{thing_at, holds, released, with_leases}
use Rattle.table_model.specs.ThingCommands.{expiry_after}

abbrev pub puts_in : List Thing → RowChange Thing
puts_in things = record { gone = None; sets = things }

-- the Things that have the address, without it: of sound Things there is one at most
unfoldable pub released_holders : Addr → List Thing → List Thing
released_holders a things = map (released a) (filter (holds a) things)

-- the Thing with the address, and with those of its leases that are live
unfoldable pub leased : Addr → ℕ → ℕ → Thing → Thing
leased a until now thing = with_leases (with_expiry a until (live_rows now thing.leases)) thing

-- a new lease: first the Thing that has the address, without it, and then the Thing that gets it
unfoldable pub new_lease_change : Addr → ℕ → ℕ → List Thing → Thing → RowChange Thing
new_lease_change a until now things thing = puts_in (released_holders a things ++ leased a until now thing ∷ [])

-- the address leaves the Thing that has it, and no Thing gets it
unfoldable pub end_change : Addr → List Thing → RowChange Thing
end_change a things = puts_in (released_holders a things)

-- the Thing has the address already: its lease gets another expiry, or nothing changes
unfoldable pub kept_lease_change : Addr → ℕ → Thing → ℕ → RowChange Thing
kept_lease_change a until thing old = if old == until then puts_in [] else puts_in (with_leases (with_expiry a until thing.leases) thing ∷ [])

unfoldable pub known_lease_change : Addr → ℕ → ℕ → List Thing → Thing → Option ℕ → RowChange Thing
known_lease_change a until now things thing None = new_lease_change a until now things thing
known_lease_change a until now things thing (Some old) = kept_lease_change a until thing old

unfoldable pub lease_cases_change : Addr → ℕ → ℕ → List Thing → Option Thing → RowChange Thing
lease_cases_change a until now things None = end_change a things
lease_cases_change a until now things (Some thing) = known_lease_change a until now things thing (expiry_of a thing.leases)

-- the rows that a lease changes, where it isn't refused
unfoldable pub lease_change : Mac → Addr → ℕ → ℕ → List Thing → RowChange Thing
lease_change mac a seconds now things = lease_cases_change a (expiry_after now seconds) now things (thing_at mac things)
