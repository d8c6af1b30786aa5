-- The rows that the commands change, case by case.
use Rattle.std.proofs.Common.{◌≡◌, [], ◌∷◌, Some, refl, true}
use Rattle.table_model.specs.ThingChanges.{puts_in}
use Rattle.table_model.proofs.Literals.{things_compute, mac_1, bulb_url, next_url, switch_url, bulb, bare_bulb, bare_switch}
use Rattle.thing_book.specs.RowChanges.{url_cases_change, url_change, waiting_for, moved_to, move_cases_change, move_change, hold_cases_change, hold_change, release_cases_change, release_change}

-- a new Thing is put in
first_url : url_change mac_1 bulb_url (bare_switch ∷ []) ≡ puts_in (bare_bulb ∷ [])
unfolding things_compute url_cases_change url_change
first_url = refl

own_url : url_change mac_1 bulb_url (bulb ∷ []) ≡ puts_in []
unfolding things_compute url_cases_change url_change
own_url = refl

other_url : url_change mac_1 next_url (bulb ∷ bare_switch ∷ []) ≡ puts_in (record bulb { pending = Some next_url } ∷ [])
unfolding things_compute url_cases_change url_change waiting_for
other_url = refl

-- another URL takes the place of the one that waits
third_url : url_change mac_1 switch_url (record bulb { pending = Some next_url } ∷ []) ≡ puts_in (record bulb { pending = Some switch_url } ∷ [])
unfolding things_compute url_cases_change url_change waiting_for
third_url = refl

-- the Thing has its leases and its hold as before
moved : move_change mac_1 next_url (record bulb { pending = Some next_url; held = true } ∷ []) ≡ puts_in (record bulb { url = next_url; held = true } ∷ [])
unfolding things_compute move_cases_change move_change moved_to
moved = refl

moved_again : move_change mac_1 next_url (record bulb { url = next_url } ∷ []) ≡ puts_in []
unfolding things_compute move_cases_change move_change
moved_again = refl

held : hold_change mac_1 (bulb ∷ []) ≡ puts_in (record bulb { held = true } ∷ [])
unfolding things_compute hold_cases_change hold_change
held = refl

held_again : hold_change mac_1 (record bulb { held = true } ∷ []) ≡ puts_in []
unfolding things_compute hold_cases_change hold_change
held_again = refl

released : release_change mac_1 (record bulb { held = true } ∷ []) ≡ puts_in (bulb ∷ [])
unfolding things_compute release_cases_change release_change
released = refl

free_already : release_change mac_1 (bulb ∷ []) ≡ puts_in []
unfolding things_compute release_cases_change release_change
free_already = refl
