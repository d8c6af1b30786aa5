-- What a lease does to the bindings of the tables.
use Rattle.std.proofs.Common.{◌≡◌, ℕ, ◌≤◌, ◌<◌, ◌^◌, ◌==◌, Bool, true, false, cond, List, [], ◌∷◌, Option, Some, None, Ok, Err, refl, sym, subst}
use Rattle.std.specs.Prelude.{nat_le, IfOk}
use Rattle.std.specs.List.{list_any}
use Rattle.mud_base.specs.declared.addr.Addr.{Addr}
use Rattle.mud_base.specs.declared.addr.Mac.{Mac}
use Rattle.item_codec.specs.declared.word.Word.TheVariants.{New, Stranger, Renewed}
use Rattle.base_rows.specs.Sortable.{row_at}
use Rattle.table_model.specs.declared.thing.Thing.{Thing}
use Rattle.table_model.specs.declared.thing_fault.ThingFault.TheVariants.{NoThing, LeasesFull}
use Rattle.table_model.specs.Limits.{most}
use Rattle.table_model.specs.Expiries.{expiry_of, with_expiry, live_count}
use Rattle.table_model.specs.Things.{mac_of, thing_at, set_thing, with_leases, without_lease, holds, IsSoundThings}
use Rattle.table_model.specs.ItemFields.{IsAddr}
use Rattle.table_model.specs.ThingCommands.{ThingStep, done, leased_until, left, expiry_after, kept_lease, new_lease, known_lease, stranger_lease, lease_cases, lease_step}
use Rattle.table_model.specs.Tables.{Tables}
use Rattle.table_model.specs.Bindings.{thing_bindings, bindings_of}
use Rattle.base_rows.specs.Changes.{RowChange, changed, sort_keys_of, is_plain}
use Rattle.acl_model.specs.Changes.{IsBindingChange}
use Rattle.table_model.specs.BindingChanges.{gone_of, come_of}
use Rattle.table_model.specs.ThingChanges.{leased, new_lease_change, end_change, puts_in, known_lease_change, kept_lease_change, lease_cases_change, lease_change}
use Rattle.table_laws.proofs.LeaseChanges.{end_changed, end_unchanged, end_plain, new_lease_changed, new_lease_plain}
use Rattle.table_model.proofs.SoundThings.{OfAfter, cond_after, at_its_sort_key, sound-lease_step}
use Rattle.table_laws.proofs.BookChanges.{thing_book_change}
use Rattle.table_model.proofs.Parts.{left_until}

-- the change of rows makes the list
pub record Leads (change : RowChange Thing) (things after : List Thing) : Type 0 where
  pub is : changed mac_of change things ≡ after
  pub plain : is_plain mac_of change ≡ true

module _ (things : List Thing) (sound : IsSoundThings things) where
  kept_leads : (a : Addr) (until now old : ℕ) (thing : Thing) → (b : Bool) → old == until ≡ b
      → OfAfter (Leads (cond b (puts_in []) (puts_in (with_leases (with_expiry a until thing.leases) thing ∷ []))) things) (cond b (left_until until things) (leased_until until Renewed (set_thing (with_leases (with_expiry a until thing.leases) thing) things)))
  unfolding changed sort_keys_of is_plain set_thing
  kept_leads a until now old thing true e = record { is = refl; plain = refl }
  kept_leads a until now old thing false e = record { is = refl; plain = refl }

  known_leads : (a : Addr) (until now : ℕ) (thing : Thing) → row_at mac_of (mac_of thing) things ≡ Some thing → (o : Option ℕ) → expiry_of a thing.leases ≡ o → OfAfter (Leads (known_lease_change a until now things thing o) things) (known_lease a until now things thing o)
  unfolding known_lease known_lease_change kept_lease kept_lease_change new_lease leased
  known_leads a until now thing there (Some old) kept = kept_leads a until now old thing (old == until) refl
  known_leads a until now thing there None none =
      cond_after (Leads (new_lease_change a until now things thing) things) (nat_le most.leases (live_count now thing.leases)) (Err LeasesFull) (leased_until until New (set_thing (leased a until now thing) (without_lease a things)))
      (λ _. tt) (λ _. record { is = new_lease_changed a things sound.ascend until now thing; plain = new_lease_plain a things sound.ascend until now thing there none })

  stranger_leads : (a : Addr) → OfAfter (Leads (end_change a things) things) (stranger_lease a things)
  unfolding stranger_lease
  stranger_leads a = cond_after (Leads (end_change a things) things) (list_any (holds a) things) (done Stranger (without_lease a things)) (left Stranger things)
      (λ _. record { is = end_changed a things sound.ascend; plain = end_plain a things sound.ascend })
      (λ none. record { is = end_unchanged a things sound.ascend none; plain = end_plain a things sound.ascend })

  cases_leads : (mac : Mac) (a : Addr) (until now : ℕ) (heard : Bool) (o : Option Thing) → thing_at mac things ≡ o → OfAfter (Leads (lease_cases_change a until now things o) things) (lease_cases a until now heard things o)
  unfolding lease_cases lease_cases_change
  cases_leads mac a until now heard None found = cond_after (Leads (end_change a things) things) heard (stranger_lease a things) (Err NoThing) (λ _. stranger_leads a) (λ _. tt)
  cases_leads mac a until now heard (Some thing) found = known_leads a until now thing (at_its_sort_key things mac thing found) (expiry_of a thing.leases) refl

  pub lease_leads : (mac : Mac) (a : Addr) (seconds now : ℕ) (heard : Bool) → OfAfter (Leads (lease_change mac a seconds now things) things) (lease_step mac a seconds now heard things)
  unfolding lease_step lease_change
  lease_leads mac a seconds now heard = cases_leads mac a (expiry_after now seconds) now heard (thing_at mac things) refl

told : (tables : Tables) (change : RowChange Thing) (step : ThingStep) → IsSoundThings tables.things → OfAfter (Leads change tables.things) step → OfAfter IsSoundThings step
    → IfOk step (λ after. IsBindingChange (bindings_of tables) (bindings_of (record tables { things = after.things })) (gone_of mac_of thing_bindings change tables.things) (come_of mac_of thing_bindings change tables.things))
told tables change (Ok after) sound leads new =
    subst (λ ts. IsBindingChange (bindings_of tables) (bindings_of (record tables { things = ts })) (gone_of mac_of thing_bindings change tables.things) (come_of mac_of thing_bindings change tables.things)) leads.is
    (thing_book_change tables change sound (subst IsSoundThings (sym leads.is) new) leads.plain)
told tables change (Err fault) sound leads new = tt

-- what goes and comes with a lease is the difference of the bindings
pub lease_binds : (tables : Tables) → IsSoundThings tables.things → (mac : Mac) (a : Addr) (seconds now : ℕ) (heard : Bool) → IsAddr a → now ≤ 253402300799 → seconds < 2 ^ 32
    → IfOk (lease_step mac a seconds now heard tables.things) (λ after. IsBindingChange (bindings_of tables) (bindings_of (record tables { things = after.things }))
    (gone_of mac_of thing_bindings (lease_change mac a seconds now tables.things) tables.things) (come_of mac_of thing_bindings (lease_change mac a seconds now tables.things) tables.things))
lease_binds tables sound mac a seconds now heard fits early short =
    told tables (lease_change mac a seconds now tables.things) (lease_step mac a seconds now heard tables.things) sound
    (lease_leads tables.things sound mac a seconds now heard) (sound-lease_step tables.things sound mac a seconds now heard fits early short)
