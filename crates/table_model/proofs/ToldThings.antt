-- Every step on Things says truly whether it changes them.
use Rattle.std.proofs.Common.{◌≡◌, ℕ, ◌==◌, Bool, true, false, cond, List, length, Option, Some, None, Err, refl, sym, ap, ◌∙◌}
use Rattle.std.specs.Prelude.{bytes_eq, nat_le, IfOk}
use Rattle.std.specs.List.{list_any}
use Rattle.std.proofs.lemmas.Bool.{false≢true}
use Rattle.std.proofs.lemmas.Bool.Decides.{Decides-eqb}
use Rattle.std.proofs.lemmas.Option.{same_Some, none-some}
use Rattle.mud_base.specs.declared.addr.Addr.{Addr}
use Rattle.mud_base.specs.declared.addr.Mac.{Mac}
use Rattle.item_codec.specs.declared.word.Word as outcome
use Rattle.item_codec.specs.declared.word.Word.TheVariants.{New, Same, Pending, Moved, Removed, Held, Released, Stranger, Renewed, Ended}
use Rattle.base_rows.specs.Sortable.{row_at, without_row, SortKeysAscend}
use Rattle.base_rows.proofs.SortableLaws.{row_at-set_row_same, row_at-without_row, same_sort_key_itself}
use Rattle.base_rows.proofs.ListTests.{same_bytes}
use Rattle.base_rows.proofs.RowSets.{Passing, found_passing}
use Rattle.table_model.specs.declared.thing.Thing.{Thing}
use Rattle.table_model.specs.declared.thing_fault.ThingFault.TheVariants.{ThingsFull, NoThing, NoPending, LeasesFull, NoLease}
use Rattle.table_model.specs.Limits.{most}
use Rattle.table_model.specs.Expiries.{Expiries, expiry_of, with_expiry, live_rows, live_count}
use Rattle.table_model.specs.Things.{mac_of, thing_at, set_thing, without_thing, holds, with_leases, without_lease, new_thing}
use Rattle.table_model.specs.ThingCommands.{TellsChange, ThingStep, done, leased_until, left, is_pending, url_cases, url_step, move_cases, move_step, remove_step, with_hold, hold_cases, hold_step, release_cases, release_step, expiry_after, kept_lease, new_lease, known_lease, stranger_lease, lease_cases, lease_step, end_step}
use Rattle.table_model.proofs.AloneLaws.{left_none}
use Rattle.table_model.proofs.LeaseLaws.{expiry_of-with_expiry}
use Rattle.table_model.proofs.SoundThings.{at_its_sort_key}
use Rattle.table_model.proofs.Parts.{left_until, remove_cases}

-- ---- What a step says

-- the step, where it isn't refused, says truly whether these Things change
abbrev pub IsTold : List Thing → ThingStep → Type 0
IsTold things step = IfOk step (TellsChange things)

told_by : (things : List Thing) (b : Bool) (x y : ThingStep) → (b ≡ true → IsTold things x) → (b ≡ false → IsTold things y) → IsTold things (cond b x y)
told_by things true x y f g = f refl
told_by things false x y f g = g refl

-- the same list is left
as_before : (things : List Thing) (word : outcome.Word) (until : Option ℕ) → TellsChange things (record { word = word; until = until; changes = false; things = things })
as_before things word until = record { same = λ _. refl; other = λ e. absurd (false≢true e) }

-- another list is told as another
as_other : (things new : List Thing) (word : outcome.Word) (until : Option ℕ) → (new ≡ things → ⊥) → TellsChange things (record { word = word; until = until; changes = true; things = new })
as_other things new word until other = record { same = λ e. absurd (false≢true (sym e)); other = λ _. other }

-- ---- Lists that are others

-- the Things hadn't the one that is put in
put_other : (t : Thing) (old things : List Thing) → (row_at mac_of (mac_of t) things ≡ Some t → ⊥) → set_thing t old ≡ things → ⊥
unfolding set_thing
put_other t old things new e = new (sym (ap (row_at mac_of (mac_of t)) e) ∙ row_at-set_row_same mac_of t old)

-- it takes the place of another Thing
sort_key_other : (t thing : Thing) (old things : List Thing) → row_at mac_of (mac_of t) things ≡ Some thing → (thing ≡ t → ⊥) → set_thing t old ≡ things → ⊥
sort_key_other t thing old things there other e = put_other t old things (λ is. other (same_Some thing t (sym there ∙ is))) e

waits_itself : (url : List ℕ) (pending : Option (List ℕ)) → pending ≡ Some url → is_pending url pending ≡ true
unfolding is_pending
waits_itself url None e = absurd (none-some url e)
waits_itself url (Some pending) e = same_bytes url pending (sym (same_Some pending url e))

-- a Thing that has the address loses it
left_other : (a : Addr) (things : List Thing) → SortKeysAscend mac_of things → list_any (holds a) things ≡ true → without_lease a things ≡ things → ⊥
left_other a things ascend some e =
    let holder : Passing mac_of (holds a) things = found_passing mac_of (holds a) things ascend some in
    left_none a things holder.at holder.row (ap (row_at mac_of holder.at) e ∙ holder.there) holder.passes

module _ (things : List Thing) (ascend : SortKeysAscend mac_of things) where
  -- ---- URLs and holds

  url_cases_told : (mac : Mac) (url : List ℕ) (o : Option Thing) → thing_at mac things ≡ o → IsTold things (url_cases mac url things o)
  unfolding url_cases thing_at mac_of new_thing
  url_cases_told mac url None found =
      told_by things (nat_le most.things (length things)) (Err ThingsFull) (done New (set_thing (new_thing mac url) things))
      (λ _. tt) (λ _. as_other things (set_thing (new_thing mac url) things) New None (put_other (new_thing mac url) things things (λ is. none-some (new_thing mac url) (sym found ∙ is))))
  url_cases_told mac url (Some thing) found =
      let waits : Thing = record thing { pending = Some url } in
      let there : row_at mac_of (mac_of thing) things ≡ Some thing = at_its_sort_key things mac thing found in
      told_by things (bytes_eq url thing.url) (left Same things) (cond (is_pending url thing.pending) (left Same things) (done Pending (set_thing waits things)))
      (λ _. as_before things Same None)
      (λ _. told_by things (is_pending url thing.pending) (left Same things) (done Pending (set_thing waits things))
      (λ _. as_before things Same None)
      (λ new. as_other things (set_thing waits things) Pending None (sort_key_other waits thing things things there (λ is. false≢true (sym new ∙ waits_itself url thing.pending (ap (λ (t : Thing). t.pending) is))))))

  pub told-url_step : (mac : Mac) (url : List ℕ) → IsTold things (url_step mac url things)
  unfolding url_step
  told-url_step mac url = url_cases_told mac url (thing_at mac things) refl

  move_cases_told : (mac : Mac) (url : List ℕ) (o : Option Thing) → thing_at mac things ≡ o → IsTold things (move_cases url things o)
  unfolding move_cases mac_of
  move_cases_told mac url None found = tt
  move_cases_told mac url (Some thing) found =
      let moved : Thing = record thing { url = url; pending = None } in
      let there : row_at mac_of (mac_of thing) things ≡ Some thing = at_its_sort_key things mac thing found in
      told_by things (bytes_eq url thing.url) (left Same things) (cond (is_pending url thing.pending) (done Moved (set_thing moved things)) (Err NoPending))
      (λ _. as_before things Same None)
      (λ other. told_by things (is_pending url thing.pending) (done Moved (set_thing moved things)) (Err NoPending)
      (λ _. as_other things (set_thing moved things) Moved None (sort_key_other moved thing things things there (λ is. false≢true (sym other ∙ same_bytes url thing.url (sym (ap (λ (t : Thing). t.url) is))))))
      (λ _. tt))

  pub told-move_step : (mac : Mac) (url : List ℕ) → IsTold things (move_step mac url things)
  unfolding move_step
  told-move_step mac url = move_cases_told mac url (thing_at mac things) refl

  -- the Thing of the hardware address was there and is no more
  gone_other : (mac : Mac) (thing : Thing) → thing_at mac things ≡ Some thing → without_thing mac things ≡ things → ⊥
  unfolding thing_at without_thing
  gone_other mac thing found e =
      let none : row_at mac_of mac.0 (without_row mac_of mac.0 things) ≡ None =
      row_at-without_row mac_of mac.0 things mac.0 ascend ∙ ap (λ b. cond b None (row_at mac_of mac.0 things)) (same_sort_key_itself mac.0) in
      none-some thing (sym none ∙ ap (row_at mac_of mac.0) e ∙ found)

  remove_cases_told : (mac : Mac) (o : Option Thing) → thing_at mac things ≡ o → IsTold things (remove_cases mac things o)
  remove_cases_told mac None found = tt
  remove_cases_told mac (Some thing) found = as_other things (without_thing mac things) Removed None (gone_other mac thing found)

  pub told-remove_step : (mac : Mac) → IsTold things (remove_step mac things)
  unfolding remove_step
  told-remove_step mac = remove_cases_told mac (thing_at mac things) refl

  other_hold : (held : Bool) (mac : Mac) (thing : Thing) → thing_at mac things ≡ Some thing → (thing.held ≡ held → ⊥) → set_thing (with_hold held thing) things ≡ things → ⊥
  unfolding with_hold mac_of
  other_hold held mac thing found other = sort_key_other (with_hold held thing) thing things things (at_its_sort_key things mac thing found) (λ is. other (ap (λ (t : Thing). t.held) is))

  hold_cases_told : (mac : Mac) (o : Option Thing) → thing_at mac things ≡ o → IsTold things (hold_cases things o)
  unfolding hold_cases
  hold_cases_told mac None found = tt
  hold_cases_told mac (Some thing) found =
      told_by things thing.held (left Same things) (done Held (set_thing (with_hold true thing) things))
      (λ _. as_before things Same None)
      (λ free. as_other things (set_thing (with_hold true thing) things) Held None (other_hold true mac thing found (λ is. false≢true (sym free ∙ is))))

  pub told-hold_step : (mac : Mac) → IsTold things (hold_step mac things)
  unfolding hold_step
  told-hold_step mac = hold_cases_told mac (thing_at mac things) refl

  release_cases_told : (mac : Mac) (o : Option Thing) → thing_at mac things ≡ o → IsTold things (release_cases things o)
  unfolding release_cases
  release_cases_told mac None found = tt
  release_cases_told mac (Some thing) found =
      told_by things thing.held (done Released (set_thing (with_hold false thing) things)) (left Same things)
      (λ held. as_other things (set_thing (with_hold false thing) things) Released None (other_hold false mac thing found (λ is. false≢true (sym is ∙ held))))
      (λ _. as_before things Same None)

  pub told-release_step : (mac : Mac) → IsTold things (release_step mac things)
  unfolding release_step
  told-release_step mac = release_cases_told mac (thing_at mac things) refl

  -- ---- Leases

  pub told-end_step : (a : Addr) → IsTold things (end_step a things)
  unfolding end_step
  told-end_step a =
      told_by things (list_any (holds a) things) (done Ended (without_lease a things)) (Err NoLease)
      (λ some. as_other things (without_lease a things) Ended None (left_other a things ascend some)) (λ _. tt)

  -- the Thing had no such expiry for the address
  other_expiry : (a : Addr) (until : ℕ) (rows : Expiries) (thing : Thing) (old : List Thing) → row_at mac_of (mac_of thing) things ≡ Some thing → (expiry_of a thing.leases ≡ Some until → ⊥) → set_thing (with_leases (with_expiry a until rows) thing) old ≡ things → ⊥
  unfolding with_leases mac_of
  other_expiry a until rows thing old there other =
      sort_key_other (with_leases (with_expiry a until rows) thing) thing old things there
      (λ is. other (ap (λ (t : Thing). expiry_of a t.leases) is ∙ expiry_of-with_expiry a until rows))

  kept_lease_told : (a : Addr) (until old : ℕ) (thing : Thing) → row_at mac_of (mac_of thing) things ≡ Some thing → expiry_of a thing.leases ≡ Some old → IsTold things (kept_lease a until things thing old)
  unfolding kept_lease
  kept_lease_told a until old thing there kept =
      let leased : Thing = with_leases (with_expiry a until thing.leases) thing in
      told_by things (old == until) (left_until until things) (leased_until until Renewed (set_thing leased things))
      (λ _. as_before things Same (Some until))
      (λ other. as_other things (set_thing leased things) Renewed (Some until) (other_expiry a until thing.leases thing things there
      (λ is. false≢true (sym other ∙ (Decides-eqb old until).1 (same_Some old until (sym kept ∙ is))))))

  new_lease_told : (a : Addr) (until now : ℕ) (thing : Thing) → row_at mac_of (mac_of thing) things ≡ Some thing → expiry_of a thing.leases ≡ None → IsTold things (new_lease a until now things thing)
  unfolding new_lease
  new_lease_told a until now thing there free =
      let leased : Thing = with_leases (with_expiry a until (live_rows now thing.leases)) thing in
      told_by things (nat_le most.leases (live_count now thing.leases)) (Err LeasesFull) (leased_until until New (set_thing leased (without_lease a things)))
      (λ _. tt)
      (λ _. as_other things (set_thing leased (without_lease a things)) New (Some until) (other_expiry a until (live_rows now thing.leases) thing (without_lease a things) there (λ is. none-some until (sym free ∙ is))))

  known_lease_told : (a : Addr) (until now : ℕ) (thing : Thing) → row_at mac_of (mac_of thing) things ≡ Some thing → (o : Option ℕ) → expiry_of a thing.leases ≡ o → IsTold things (known_lease a until now things thing o)
  unfolding known_lease
  known_lease_told a until now thing there (Some old) kept = kept_lease_told a until old thing there kept
  known_lease_told a until now thing there None free = new_lease_told a until now thing there free

  stranger_told : (a : Addr) → IsTold things (stranger_lease a things)
  unfolding stranger_lease
  stranger_told a =
      told_by things (list_any (holds a) things) (done Stranger (without_lease a things)) (left Stranger things)
      (λ some. as_other things (without_lease a things) Stranger None (left_other a things ascend some)) (λ _. as_before things Stranger None)

  lease_cases_told : (mac : Mac) (a : Addr) (until now : ℕ) (heard : Bool) (o : Option Thing) → thing_at mac things ≡ o → IsTold things (lease_cases a until now heard things o)
  unfolding lease_cases
  lease_cases_told mac a until now heard None found = told_by things heard (stranger_lease a things) (Err NoThing) (λ _. stranger_told a) (λ _. tt)
  lease_cases_told mac a until now heard (Some thing) found = known_lease_told a until now thing (at_its_sort_key things mac thing found) (expiry_of a thing.leases) refl

  pub told-lease_step : (mac : Mac) (a : Addr) (seconds now : ℕ) (heard : Bool) → IsTold things (lease_step mac a seconds now heard things)
  unfolding lease_step
  told-lease_step mac a seconds now heard = lease_cases_told mac a (expiry_after now seconds) now heard (thing_at mac things) refl
