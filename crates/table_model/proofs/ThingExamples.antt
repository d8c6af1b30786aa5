-- The commands on Things, case by case.
use Rattle.std.proofs.Common.{◌≡◌, ℕ, List, [], ◌∷◌, length, Some, None, Err, refl, true, false}
use Rattle.std.specs.Prelude.{nat_le}
use Rattle.mud_base.specs.declared.addr.Addr.TheVariants.{V4, V6}
use Rattle.mud_base.specs.declared.addr.Mac.{Mac}
use Rattle.item_codec.specs.declared.word.Word.TheVariants.{New, Same, Pending, Moved, Removed, Held, Released, Stranger, Renewed, Ended}
use Rattle.table_model.specs.declared.thing.Thing.{Thing}
use Rattle.table_model.specs.declared.thing_fault.ThingFault.TheVariants.{ThingsFull, NoThing, NoPending, LeasesFull, NoLease}
use Rattle.table_model.specs.Expiries.{for_ever}
use Rattle.table_model.specs.Things.{thing_at}
use Rattle.table_model.specs.ThingCommands.{done, leased_until, left, url_cases, url_step, move_step, remove_step, hold_step, release_step, lease_step, end_step}
use Rattle.table_model.proofs.Literals.{things_compute, mac_1, mac_2, mac_9, bulb_addr, switch_addr, bulb_url, next_url, switch_url, bulb, bare_bulb, bare_switch}
use Rattle.table_model.proofs.Parts.{left_until}

-- ---- URLs

first_url : url_step mac_1 bulb_url [] ≡ done New (bare_bulb ∷ [])
unfolding things_compute
first_url = refl

-- Things stand in the order of their hardware addresses
second_thing : url_step mac_1 bulb_url (bare_switch ∷ []) ≡ done New (bare_bulb ∷ bare_switch ∷ [])
unfolding things_compute
second_thing = refl

own_url : url_step mac_1 bulb_url (bulb ∷ []) ≡ left Same (bulb ∷ [])
unfolding things_compute
own_url = refl

other_url : url_step mac_1 next_url (bulb ∷ []) ≡ done Pending (record bulb { pending = Some next_url } ∷ [])
unfolding things_compute
other_url = refl

waiting_url : url_step mac_1 next_url (record bulb { pending = Some next_url } ∷ []) ≡ left Same (record bulb { pending = Some next_url } ∷ [])
unfolding things_compute
waiting_url = refl

-- its own URL leaves the one that waits
own_url_again : url_step mac_1 bulb_url (record bulb { pending = Some next_url } ∷ []) ≡ left Same (record bulb { pending = Some next_url } ∷ [])
unfolding things_compute
own_url_again = refl

-- a third URL takes the place of the one that waits
third_url : url_step mac_1 switch_url (record bulb { pending = Some next_url } ∷ []) ≡ done Pending (record bulb { pending = Some switch_url } ∷ [])
unfolding things_compute
third_url = refl

-- where 512 Things are kept, an unknown hardware address is refused
no_room : (mac : Mac) (url : List ℕ) (things : List Thing) → thing_at mac things ≡ None → nat_le 512 (length things) ≡ true → url_step mac url things ≡ Err ThingsFull
unfolding url_step url_cases
no_room mac url things unknown full = rw (unknown, full) refl

-- ---- Moves

move_to_waiting : move_step mac_1 next_url (record bulb { pending = Some next_url } ∷ []) ≡ done Moved (record bulb { url = next_url } ∷ [])
unfolding things_compute
move_to_waiting = refl

move_again : move_step mac_1 next_url (record bulb { url = next_url } ∷ []) ≡ left Same (record bulb { url = next_url } ∷ [])
unfolding things_compute
move_again = refl

move_elsewhere : move_step mac_1 switch_url (record bulb { url = next_url } ∷ []) ≡ Err NoPending
unfolding things_compute
move_elsewhere = refl

move_past_waiting : move_step mac_1 switch_url (record bulb { pending = Some next_url } ∷ []) ≡ Err NoPending
unfolding things_compute
move_past_waiting = refl

move_unknown : move_step mac_9 bulb_url (bulb ∷ []) ≡ Err NoThing
unfolding things_compute
move_unknown = refl

-- ---- Removals

remove_unknown : remove_step mac_9 (bulb ∷ []) ≡ Err NoThing
unfolding things_compute
remove_unknown = refl

remove_bulb : remove_step mac_1 (bulb ∷ bare_switch ∷ []) ≡ done Removed (bare_switch ∷ [])
unfolding things_compute
remove_bulb = refl

-- ---- Holds

abbrev held_bulb : Thing
held_bulb = record bulb { held = true }

hold_bulb : hold_step mac_1 (bulb ∷ bare_switch ∷ []) ≡ done Held (held_bulb ∷ bare_switch ∷ [])
unfolding things_compute
hold_bulb = refl

hold_again : hold_step mac_1 (held_bulb ∷ []) ≡ left Same (held_bulb ∷ [])
unfolding things_compute
hold_again = refl

hold_unknown : hold_step mac_9 (bulb ∷ []) ≡ Err NoThing
unfolding things_compute
hold_unknown = refl

release_bulb : release_step mac_1 (held_bulb ∷ []) ≡ done Released (bulb ∷ [])
unfolding things_compute
release_bulb = refl

release_again : release_step mac_1 (bulb ∷ []) ≡ left Same (bulb ∷ [])
unfolding things_compute
release_again = refl

release_unknown : release_step mac_9 (held_bulb ∷ []) ≡ Err NoThing
unfolding things_compute
release_unknown = refl

-- a held Thing that is moved stays held
move_held : move_step mac_1 next_url (record held_bulb { pending = Some next_url } ∷ []) ≡ done Moved (record held_bulb { url = next_url } ∷ [])
unfolding things_compute
move_held = refl

-- ---- Leases

first_lease : lease_step mac_1 bulb_addr 86400 1000 false (bare_bulb ∷ []) ≡ leased_until 87400 New (bulb ∷ [])
unfolding things_compute
first_lease = refl

same_lease : lease_step mac_1 bulb_addr 86400 1000 true (bulb ∷ []) ≡ left_until 87400 (bulb ∷ [])
unfolding things_compute
same_lease = refl

-- the expiry is replaced, by an earlier one too
renewed_lease : lease_step mac_1 bulb_addr 60 1000 true (bulb ∷ []) ≡ leased_until 1060 Renewed (record bulb { leases = (bulb_addr, 1060) ∷ [] } ∷ [])
unfolding things_compute
renewed_lease = refl

-- a lease that has ended is renewed as well
ended_lease : lease_step mac_1 bulb_addr 60 87400 true (bulb ∷ []) ≡ leased_until 87460 Renewed (record bulb { leases = (bulb_addr, 87460) ∷ [] } ∷ [])
unfolding things_compute
ended_lease = refl

lasting_lease : lease_step mac_1 bulb_addr 4294967295 1000 true (bare_bulb ∷ []) ≡ leased_until for_ever New (record bulb { leases = (bulb_addr, for_ever) ∷ [] } ∷ [])
unfolding things_compute
lasting_lease = refl

-- the address leaves the Thing that has it
lease_of_another : lease_step mac_2 bulb_addr 100 1000 false (bulb ∷ bare_switch ∷ []) ≡ leased_until 1100 New (bare_bulb ∷ record bare_switch { leases = (bulb_addr, 1100) ∷ [] } ∷ [])
unfolding things_compute
lease_of_another = refl

stated_stranger : lease_step mac_9 bulb_addr 86400 1000 false (bulb ∷ []) ≡ Err NoThing
unfolding things_compute
stated_stranger = refl

heard_stranger : lease_step mac_9 bulb_addr 86400 1000 true (bulb ∷ []) ≡ done Stranger (bare_bulb ∷ [])
unfolding things_compute
heard_stranger = refl

-- an address that no Thing has leaves none
other_stranger : lease_step mac_9 switch_addr 86400 1000 true (bulb ∷ []) ≡ left Stranger (bulb ∷ [])
unfolding things_compute
other_stranger = refl

abbrev busy : Thing
busy = record bulb { leases = (V4 1, 2000) ∷ (V4 2, 2000) ∷ (V4 3, 2000) ∷ (V6 1, 1001) ∷ [] }

-- four live leases of other addresses
fifth_lease : lease_step mac_1 bulb_addr 60 1000 false (busy ∷ []) ≡ Err LeasesFull
unfolding things_compute
fifth_lease = refl

-- one of the four has ended: it goes
lease_after_end : lease_step mac_1 (V4 0) 60 1001 false (busy ∷ []) ≡ leased_until 1061 New (record bulb { leases = (V4 0, 1061) ∷ (V4 1, 2000) ∷ (V4 2, 2000) ∷ (V4 3, 2000) ∷ [] } ∷ [])
unfolding things_compute
lease_after_end = refl

-- a renewal isn't counted, and leaves the lease that has ended
renewal_of_four : lease_step mac_1 (V4 2) 60 1001 false (busy ∷ []) ≡ leased_until 1061 Renewed (record bulb { leases = (V4 1, 2000) ∷ (V4 2, 1061) ∷ (V4 3, 2000) ∷ (V6 1, 1001) ∷ [] } ∷ [])
unfolding things_compute
renewal_of_four = refl

-- ---- The operator ends a lease

end_lease : end_step bulb_addr (bulb ∷ []) ≡ done Ended (bare_bulb ∷ [])
unfolding things_compute
end_lease = refl

end_again : end_step bulb_addr (bare_bulb ∷ []) ≡ Err NoLease
unfolding things_compute
end_again = refl
