-- The rows that each command changes make its list, touch no sort key twice, and change something at each.
use Rattle.std.proofs.Common.{◌≡◌, ℕ, ◌≤◌, ◌==◌, Bool, true, false, cond, List, [], ◌∷◌, ◌++◌, length, map, Option, Some, None, Err, refl, sym, ap, ◌∙◌, arith, lit≤}
use Rattle.std.specs.Prelude.{bytes_eq, nat_le, IfOk}
use Rattle.std.specs.List.{list_any, filter, AllByRecursion}
use Rattle.std.proofs.lemmas.Bool.{false≢true}
use Rattle.std.proofs.lemmas.Option.{same_Some, none-some}
use Rattle.std.proofs.lemmas.List.{length-map, length-append}
use Rattle.mud_base.specs.declared.addr.Addr.{Addr}
use Rattle.mud_base.specs.declared.addr.Mac.{Mac}
use Rattle.item_codec.specs.declared.word.Word.TheVariants.{New, Same, Pending, Moved, Held, Released, Stranger, Renewed, Ended}
use Rattle.base_rows.specs.Sortable.{row_at, SortKeysAbove, SortKeysAscend, same_sort_key}
use Rattle.base_rows.specs.Changes.{RowChange, IsNeededChange, changed, is_plain, sort_keys_of}
use Rattle.base_rows.proofs.SortableLaws.{row_at_above, same_sort_key_itself}
use Rattle.base_rows.proofs.RowLaws.{set_row_there}
use Rattle.table_model.specs.declared.thing.Thing.{Thing}
use Rattle.table_model.specs.declared.thing_fault.ThingFault.TheVariants.{ThingsFull, NoThing, NoPending, LeasesFull, NoLease}
use Rattle.table_model.specs.Limits.{most}
use Rattle.table_model.specs.Expiries.{expiry_of, with_expiry, live_rows, live_count}
use Rattle.table_model.specs.Things.{mac_of, thing_at, set_thing, without_thing, holds, with_leases, released, without_lease, new_thing, IsAlone, IsSoundThings}
use Rattle.table_model.specs.ThingCommands.{TellsChange, ThingStep, done, leased_until, left, is_pending, url_cases, url_step, move_cases, move_step, remove_step, with_hold, hold_cases, hold_step, release_cases, release_step, expiry_after, kept_lease, new_lease, known_lease, stranger_lease, lease_cases, lease_step, end_step}
use Rattle.table_model.specs.ThingChanges.{puts_in, released_holders, leased, new_lease_change, end_change, kept_lease_change, known_lease_change, lease_cases_change, lease_change}
use Rattle.base_rows.proofs.ListTests.{or_first, or_second}
use Rattle.base_rows.proofs.Lists.{all-map, all_push}
use Rattle.base_rows.proofs.RowSets.{Passing, found_passing, at_later}
use Rattle.table_model.proofs.AloneLaws.{without_address_none}
use Rattle.table_model.proofs.LeaseLaws.{expiry_of-with_expiry}
use Rattle.table_model.proofs.SoundThings.{at_its_sort_key}
use Rattle.table_model.proofs.ToldThings.{told-url_step, told-move_step, told-hold_step, told-release_step, told-lease_step}
use Rattle.table_laws.proofs.LeaseChanges.{end_changed, end_unchanged, end_plain, new_lease_changed, new_lease_plain}
use Rattle.thing_book.specs.RowChanges.{url_cases_change, url_change, waiting_for, moved_to, move_cases_change, move_change, remove_change, hold_cases_change, hold_change, release_cases_change, release_change}
use Rattle.table_model.proofs.Parts.{left_until, remove_cases}

-- the change makes the list from the Things, touches at most two sort keys, none of them twice, and changes something at each
pub record Makes (things : List Thing) (change : RowChange Thing) (after : List Thing) : Type 0 where
  pub leads : changed mac_of change things ≡ after
  pub plain : is_plain mac_of change ≡ true
  pub needed : IsNeededChange mac_of things change
  pub few : length (sort_keys_of mac_of change) ≤ 2

-- it does so where the step isn't refused
abbrev pub MakesStep : List Thing → RowChange Thing → ThingStep → Type 0
MakesStep things change step = IfOk step (λ after. Makes things change after.things)

by_case : (things : List Thing) (b : Bool) (change change' : RowChange Thing) (x y : ThingStep) → (b ≡ true → MakesStep things change x) → (b ≡ false → MakesStep things change' y) → MakesStep things (cond b change change') (cond b x y)
by_case things true change change' x y f g = f refl
by_case things false change change' x y f g = g refl

by_step : (things : List Thing) (b : Bool) (change : RowChange Thing) (x y : ThingStep) → (b ≡ true → MakesStep things change x) → (b ≡ false → MakesStep things change y) → MakesStep things change (cond b x y)
by_step things true change x y f g = f refl
by_step things false change x y f g = g refl

module _ (things : List Thing) (ascend : SortKeysAscend mac_of things) where
  -- ---- Changes of one row, and of none

  unchanged : Makes things (puts_in []) things
  unfolding changed is_plain sort_keys_of
  unchanged = record { leads = refl; plain = refl; needed = record { gone = tt; sets = tt }; few = lit≤ tt }

  -- a Thing is put in that wasn't there
  one_put : (t : Thing) → (row_at mac_of (mac_of t) things ≡ Some t → ⊥) → Makes things (puts_in (t ∷ [])) (set_thing t things)
  unfolding changed is_plain sort_keys_of set_thing
  one_put t new = record { leads = refl; plain = refl; needed = record { gone = tt; sets = (new, tt) }; few = lit≤ tt }

  -- the list is another one, so the Thing wasn't there
  one_told : (t : Thing) → (set_thing t things ≡ things → ⊥) → Makes things (puts_in (t ∷ [])) (set_thing t things)
  unfolding set_thing
  one_told t other = one_put t (λ there. other (set_row_there mac_of t things ascend there))

  -- ---- URLs, holds, and the end of a Thing

  told_left : (b : Bool) (x y : ThingStep) → IfOk (cond b x y) (TellsChange things) → b ≡ true → IfOk x (TellsChange things)
  told_left true x y told e = told
  told_left false x y told e = absurd (false≢true e)

  told_right : (b : Bool) (x y : ThingStep) → IfOk (cond b x y) (TellsChange things) → b ≡ false → IfOk y (TellsChange things)
  told_right true x y told e = absurd (false≢true (sym e))
  told_right false x y told e = told

  url_makes : (mac : Mac) (url : List ℕ) (o : Option Thing) → IfOk (url_cases mac url things o) (TellsChange things) → MakesStep things (url_cases_change mac url o) (url_cases mac url things o)
  unfolding url_cases url_cases_change waiting_for
  url_makes mac url None told =
      let full : Bool = nat_le most.things (length things) in
      by_step things full (puts_in (new_thing mac url ∷ [])) (Err ThingsFull) (done New (set_thing (new_thing mac url) things)) (λ _. tt)
      (λ room. one_told (new_thing mac url) ((told_right full (Err ThingsFull) (done New (set_thing (new_thing mac url) things)) told room).other refl))
  url_makes mac url (Some thing) told =
      let waits : Thing = waiting_for url thing in
      let own : Bool = bytes_eq url thing.url in
      let again : Bool = is_pending url thing.pending in
      let new : ThingStep = done Pending (set_thing waits things) in
      by_case things own (puts_in []) (cond again (puts_in []) (puts_in (waits ∷ []))) (left Same things) (cond again (left Same things) new)
      (λ _. unchanged)
      (λ other. by_case things again (puts_in []) (puts_in (waits ∷ [])) (left Same things) new
      (λ _. unchanged)
      (λ first. one_told waits ((told_right again (left Same things) new (told_right own (left Same things) (cond again (left Same things) new) told other) first).other refl)))

  pub url_step_makes : (mac : Mac) (url : List ℕ) → MakesStep things (url_change mac url things) (url_step mac url things)
  unfolding url_step url_change
  url_step_makes mac url = url_makes mac url (thing_at mac things) (told-url_step things ascend mac url)

  move_makes : (url : List ℕ) (o : Option Thing) → IfOk (move_cases url things o) (TellsChange things) → MakesStep things (move_cases_change url o) (move_cases url things o)
  unfolding move_cases move_cases_change moved_to
  move_makes url None told = tt
  move_makes url (Some thing) told =
      let moved : Thing = moved_to url thing in
      let own : Bool = bytes_eq url thing.url in
      let waits : Bool = is_pending url thing.pending in
      let new : ThingStep = done Moved (set_thing moved things) in
      by_case things own (puts_in []) (puts_in (moved ∷ [])) (left Same things) (cond waits new (Err NoPending))
      (λ _. unchanged)
      (λ other. by_step things waits (puts_in (moved ∷ [])) new (Err NoPending)
      (λ e. one_told moved ((told_left waits new (Err NoPending) (told_right own (left Same things) (cond waits new (Err NoPending)) told other) e).other refl))
      (λ _. tt))

  pub move_step_makes : (mac : Mac) (url : List ℕ) → MakesStep things (move_change mac url things) (move_step mac url things)
  unfolding move_step move_change
  move_step_makes mac url = move_makes url (thing_at mac things) (told-move_step things ascend mac url)

  remove_makes : (mac : Mac) (o : Option Thing) → thing_at mac things ≡ o → MakesStep things (remove_change mac) (remove_cases mac things o)
  unfolding remove_change changed is_plain sort_keys_of thing_at without_thing
  remove_makes mac None found = tt
  remove_makes mac (Some thing) found = record { leads = refl; plain = refl; needed = record { gone = λ none. none-some thing (sym none ∙ found); sets = tt }; few = lit≤ tt }

  pub remove_step_makes : (mac : Mac) → MakesStep things (remove_change mac) (remove_step mac things)
  unfolding remove_step
  remove_step_makes mac = remove_makes mac (thing_at mac things) refl

  hold_makes : (o : Option Thing) → IfOk (hold_cases things o) (TellsChange things) → MakesStep things (hold_cases_change o) (hold_cases things o)
  unfolding hold_cases hold_cases_change
  hold_makes None told = tt
  hold_makes (Some thing) told =
      let new : ThingStep = done Held (set_thing (with_hold true thing) things) in
      by_case things thing.held (puts_in []) (puts_in (with_hold true thing ∷ [])) (left Same things) new
      (λ _. unchanged)
      (λ free. one_told (with_hold true thing) ((told_right thing.held (left Same things) new told free).other refl))

  pub hold_step_makes : (mac : Mac) → MakesStep things (hold_change mac things) (hold_step mac things)
  unfolding hold_step hold_change
  hold_step_makes mac = hold_makes (thing_at mac things) (told-hold_step things ascend mac)

  release_makes : (o : Option Thing) → IfOk (release_cases things o) (TellsChange things) → MakesStep things (release_cases_change o) (release_cases things o)
  unfolding release_cases release_cases_change
  release_makes None told = tt
  release_makes (Some thing) told =
      let new : ThingStep = done Released (set_thing (with_hold false thing) things) in
      by_case things thing.held (puts_in (with_hold false thing ∷ [])) (puts_in []) new (left Same things)
      (λ held. one_told (with_hold false thing) ((told_left thing.held new (left Same things) told held).other refl))
      (λ _. unchanged)

  pub release_step_makes : (mac : Mac) → MakesStep things (release_change mac things) (release_step mac things)
  unfolding release_step release_change
  release_step_makes mac = release_makes (thing_at mac things) (told-release_step things ascend mac)

-- ---- The Things that have an address

pub all_weaker : {A : Type 0} (P Q : A → Type 0) (xs : List A) → ((x : A) → P x → Q x) → AllByRecursion P xs → AllByRecursion Q xs
all_weaker P Q [] f all = tt
all_weaker P Q (x ∷ xs) f all = (f x all.0, all_weaker P Q xs f all.1)

all_passing : {A : Type 0} (P : A → Type 0) (q : A → Bool) (xs : List A) → AllByRecursion P xs → AllByRecursion (λ x. (q x ≡ true) × P x) (filter q xs)
all_passing P q [] all = tt
all_passing P q (x ∷ xs) all = by_test (q x) refl (all_passing P q xs all.1)
  where
    by_test : (b : Bool) → q x ≡ b → AllByRecursion (λ y. (q y ≡ true) × P y) (filter q xs) → AllByRecursion (λ y. (q y ≡ true) × P y) (cond b (x ∷ filter q xs) (filter q xs))
    by_test true is rest = ((is, all.0), rest)
    by_test false is rest = rest

-- each of them stands at its sort key
abbrev StandsIn : List Thing → Thing → Type 0
StandsIn things t = row_at mac_of (mac_of t) things ≡ Some t

all_stand : (ts : List Thing) → SortKeysAscend mac_of ts → AllByRecursion (StandsIn ts) ts
all_stand [] up = tt
all_stand (t ∷ ts) up = (
  ap (λ b. cond b (Some t) (row_at mac_of (mac_of t) ts)) (same_sort_key_itself (mac_of t)),
  all_weaker (StandsIn ts) (StandsIn (t ∷ ts)) ts (λ u there. at_later mac_of (mac_of u) t u ts up.0 there (same_sort_key (mac_of t) (mac_of u)) refl) (all_stand ts up.1),
)

none_pass : {A : Type 0} (q : A → Bool) (xs : List A) → list_any q xs ≡ false → length (filter q xs) ≡ 0
none_pass q [] e = refl
none_pass q (x ∷ xs) e = ap (λ b. length (cond b (x ∷ filter q xs) (filter q xs))) (or_first (q x) (list_any q xs) e) ∙ none_pass q xs (or_second (q x) (list_any q xs) e)

alone_behind : (t : Thing) (ts : List Thing) → SortKeysAbove mac_of (mac_of t) ts → IsAlone (t ∷ ts) → IsAlone ts
alone_behind t ts above alone a p q x y there there' =
    alone a p q x y (at_later mac_of p t x ts above there (same_sort_key (mac_of t) p) refl) (at_later mac_of q t y ts above there' (same_sort_key (mac_of t) q) refl)

-- where one Thing has the address, none behind it has
not_behind : (a : Addr) (t : Thing) (ts : List Thing) → SortKeysAscend mac_of (t ∷ ts) → IsAlone (t ∷ ts) → holds a t ≡ true → (b : Bool) → list_any (holds a) ts ≡ b → b ≡ false
not_behind a t ts up alone has false e = refl
not_behind a t ts up alone has true e =
    let other : Passing mac_of (holds a) ts = found_passing mac_of (holds a) ts up.1 e in
    let at : mac_of t ≡ other.at = alone a (mac_of t) other.at t other.row (all_stand (t ∷ ts) up).0 (at_later mac_of other.at t other.row ts up.0 other.there (same_sort_key (mac_of t) other.at) refl) has other.passes in
    absurd (none-some other.row (sym (row_at_above mac_of (mac_of t) ts up.0) ∙ ap (λ p. row_at mac_of p ts) at ∙ other.there))

one_holder : (a : Addr) (ts : List Thing) → SortKeysAscend mac_of ts → IsAlone ts → length (filter (holds a) ts) ≤ 1
one_holder a [] up alone = lit≤ tt
one_holder a (t ∷ ts) up alone = by_test (holds a t) refl (one_holder a ts up.1 (alone_behind t ts up.0 alone))
  where
    by_test : (b : Bool) → holds a t ≡ b → length (filter (holds a) ts) ≤ 1 → length (cond b (t ∷ filter (holds a) ts) (filter (holds a) ts)) ≤ 1
    by_test true is rest =
        let none : length (filter (holds a) ts) ≡ 0 = none_pass (holds a) ts (not_behind a t ts up alone is (list_any (holds a) ts) refl) in
        omega (arith, none)
    by_test false is rest = rest

module _ (things : List Thing) (sound : IsSoundThings things) (a : Addr) where
  few_holders : length (released_holders a things) ≤ 1
  unfolding released_holders
  few_holders = let long : length (map (released a) (filter (holds a) things)) ≡ length (filter (holds a) things) = length-map (filter (holds a) things) (released a) in omega (arith, long, one_holder a things sound.ascend sound.alone)

  abbrev IsNew : Thing → Type 0
  IsNew t = row_at mac_of (mac_of t) things ≡ Some t → ⊥

  loses_it : (t : Thing) → (holds a t ≡ true) × StandsIn things t → IsNew (released a t)
  unfolding mac_of released with_leases holds
  loses_it t has there = without_address_none a t.leases (ap (holds a) (sym (same_Some t (released a t) (sym has.1 ∙ there))) ∙ has.0)

  holders_new : AllByRecursion IsNew (released_holders a things)
  unfolding released_holders
  holders_new = all-map IsNew (released a) (filter (holds a) things) (all_weaker (λ t. (holds a t ≡ true) × StandsIn things t) (λ t. IsNew (released a t)) (filter (holds a) things) loses_it (all_passing (StandsIn things) (holds a) things (all_stand things sound.ascend)))

  end_makes : (after : List Thing) → changed mac_of (end_change a things) things ≡ after → Makes things (end_change a things) after
  unfolding end_change sort_keys_of
  end_makes after leads = record {
    leads = leads;
    plain = end_plain a things sound.ascend;
    needed = record { gone = tt; sets = holders_new };
    few = omega (arith, few_holders, length-map (released_holders a things) mac_of);
  }

  pub end_step_makes : MakesStep things (end_change a things) (end_step a things)
  unfolding end_step
  end_step_makes =
      by_step things (list_any (holds a) things) (end_change a things) (done Ended (without_lease a things)) (Err NoLease)
      (λ _. end_makes (without_lease a things) (end_changed a things sound.ascend)) (λ _. tt)

  stranger_makes : MakesStep things (end_change a things) (stranger_lease a things)
  unfolding stranger_lease
  stranger_makes =
      by_step things (list_any (holds a) things) (end_change a things) (done Stranger (without_lease a things)) (left Stranger things)
      (λ _. end_makes (without_lease a things) (end_changed a things sound.ascend)) (λ none. end_makes things (end_unchanged a things sound.ascend none))

  leased_new : (until now : ℕ) (thing : Thing) → row_at mac_of (mac_of thing) things ≡ Some thing → expiry_of a thing.leases ≡ None → IsNew (leased a until now thing)
  unfolding mac_of leased with_leases
  leased_new until now thing there none there' =
      none-some until (sym none ∙ ap (λ (t : Thing). expiry_of a t.leases) (same_Some thing (leased a until now thing) (sym there ∙ there')) ∙ expiry_of-with_expiry a until (live_rows now thing.leases))

  new_lease_makes : (until now : ℕ) (thing : Thing) → row_at mac_of (mac_of thing) things ≡ Some thing → expiry_of a thing.leases ≡ None
      → Makes things (new_lease_change a until now things thing) (set_thing (leased a until now thing) (without_lease a things))
  unfolding new_lease_change sort_keys_of
  new_lease_makes until now thing there none =
      let t : Thing = leased a until now thing in
      record {
        leads = new_lease_changed a things sound.ascend until now thing;
        plain = new_lease_plain a things sound.ascend until now thing there none;
        needed = record { gone = tt; sets = all_push IsNew (released_holders a things) t holders_new (leased_new until now thing there none) };
        few = omega (arith, few_holders, length-map (released_holders a things ++ t ∷ []) mac_of, length-append (released_holders a things) (t ∷ []));
      }

  kept_lease_makes : (until old : ℕ) (thing : Thing) → IfOk (kept_lease a until things thing old) (TellsChange things) → MakesStep things (kept_lease_change a until thing old) (kept_lease a until things thing old)
  unfolding kept_lease kept_lease_change
  kept_lease_makes until old thing told =
      let t : Thing = with_leases (with_expiry a until thing.leases) thing in
      let same : Bool = old == until in
      let new : ThingStep = leased_until until Renewed (set_thing t things) in
      by_case things same (puts_in []) (puts_in (t ∷ [])) (left_until until things) new
      (λ _. unchanged things sound.ascend)
      (λ other. one_told things sound.ascend t ((told_right things sound.ascend same (left_until until things) new told other).other refl))

  known_lease_makes : (until now : ℕ) (thing : Thing) → row_at mac_of (mac_of thing) things ≡ Some thing → (o : Option ℕ) → expiry_of a thing.leases ≡ o
      → IfOk (known_lease a until now things thing o) (TellsChange things) → MakesStep things (known_lease_change a until now things thing o) (known_lease a until now things thing o)
  unfolding known_lease known_lease_change new_lease leased
  known_lease_makes until now thing there (Some old) kept told = kept_lease_makes until old thing told
  known_lease_makes until now thing there None none told =
      by_step things (nat_le most.leases (live_count now thing.leases)) (new_lease_change a until now things thing) (Err LeasesFull) (leased_until until New (set_thing (leased a until now thing) (without_lease a things)))
      (λ _. tt) (λ _. new_lease_makes until now thing there none)

  lease_makes : (mac : Mac) (until now : ℕ) (heard : Bool) (o : Option Thing) → thing_at mac things ≡ o → IfOk (lease_cases a until now heard things o) (TellsChange things)
      → MakesStep things (lease_cases_change a until now things o) (lease_cases a until now heard things o)
  unfolding lease_cases lease_cases_change
  lease_makes mac until now heard None found told = by_step things heard (end_change a things) (stranger_lease a things) (Err NoThing) (λ _. stranger_makes) (λ _. tt)
  lease_makes mac until now heard (Some thing) found told = known_lease_makes until now thing (at_its_sort_key things mac thing found) (expiry_of a thing.leases) refl told

  pub lease_step_makes : (mac : Mac) (seconds now : ℕ) (heard : Bool) → MakesStep things (lease_change mac a seconds now things) (lease_step mac a seconds now heard things)
  unfolding lease_step lease_change
  lease_step_makes mac seconds now heard = lease_makes mac (expiry_after now seconds) now heard (thing_at mac things) refl (told-lease_step things sound.ascend mac a seconds now heard)
