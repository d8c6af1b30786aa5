-- Every step on Things keeps them sound.
use Rattle.std.proofs.Common.{◌≡◌, ℕ, ◌+◌, ◌≤◌, ◌<◌, ◌^◌, ◌==◌, Bool, true, false, cond, not, ◌&&◌, ◌||◌, List, [], ◌∷◌, length, map, Option, Some, None, Ok, Err, refl, sym, ap, subst, ◌∙◌, arith, lit≤}
use Rattle.std.specs.Prelude.{bytes_eq, nat_le, nat_lt}
use Rattle.std.specs.List.{list_any, filter, AllByRecursion}
use Rattle.std.specs.Option.{option_map}
use Rattle.std.proofs.lemmas.Bool.{false≢true, leb-true, leb-false, le-leb, lt-ltb, eqb-true, ltb-true}
use Rattle.std.proofs.lemmas.Slice.Eq.{bytes_eq-Decides}
use Rattle.std.proofs.lemmas.Option.{none-some}
use Rattle.mud_base.specs.declared.addr.Addr.{Addr}
use Rattle.mud_base.specs.declared.addr.Mac.{Mac}
use Rattle.mud_url.specs.Url.{is_canonical}
use Rattle.item_codec.specs.declared.word.Word.TheVariants.{New, Same, Pending, Moved, Held, Released, Stranger, Renewed, Ended}
use Rattle.item_codec.specs.Records.{OptionFits}
use Rattle.base_rows.specs.Sortable.{row_at}
use Rattle.base_rows.proofs.SortableLaws.{ascend-set_row, ascend-without_row}
use Rattle.base_rows.proofs.RowLaws.{all-set_row, all-without_row, ascend-map, length-set_row, length-without_row, sort_key_row_at}
use Rattle.base_rows.proofs.Lists.{filter_few}
use Rattle.table_model.specs.declared.thing.Thing.{Thing}
use Rattle.table_model.specs.declared.thing_fault.ThingFault.TheVariants.{ThingsFull, NoThing, NoPending, LeasesFull, NoLease}
use Rattle.table_model.specs.Limits.{most}
use Rattle.table_model.specs.ItemFields.{IsAddr, IsExpiring}
use Rattle.table_model.specs.Fits.{FitsThing}
use Rattle.table_model.specs.Expiries.{Expiries, is_live, for_ever, expiry_of, with_expiry, without_address, live_rows, live_count, are_ascending, have_expiries}
use Rattle.table_model.specs.Things.{mac_of, thing_at, set_thing, without_thing, holds, with_leases, released, without_lease, new_thing, may_wait, is_sound_thing, IsKeptThing, IsSoundThings}
use Rattle.table_model.specs.ThingCommands.{ThingStep, done, leased_until, left, is_pending, url_cases, url_step, move_cases, move_step, remove_step, with_hold, hold_cases, hold_step, release_cases, release_step, expiry_after, kept_lease, new_lease, known_lease, stranger_lease, lease_cases, lease_step, end_step}
use Rattle.table_model.proofs.RowSets.{left_of, right_of, both, first_of_three, all_at}
use Rattle.table_model.proofs.AloneLaws.{IsApart, alone-set_thing, alone-without_thing, alone-without_lease, row_at-without_lease, has_none, same_leases, ended_apart, fresh_apart}
use Rattle.table_model.proofs.LeaseLaws.{with_expiry_ascends, filter_ascends, with_expiry_have, filter_expiries, all_kept, with_expiry_all, with_expiry_grown, with_expiry_long, set_row_long}
use Rattle.table_model.proofs.UrlLengths.{canonical_fits}
use Rattle.table_model.proofs.Parts.{is_expiry, are_leases, left_until, remove_cases}

-- ---- What holds of the Things behind a step

-- a refusal changes nothing, and else this holds
abbrev pub OfAfter : (List Thing → Type 0) → ThingStep → Type 0
OfAfter P (Ok after) = P after.things
OfAfter P (Err fault) = Unit {0}

pub cond_after : (P : List Thing → Type 0) (b : Bool) (x y : ThingStep) → (b ≡ true → OfAfter P x) → (b ≡ false → OfAfter P y) → OfAfter P (cond b x y)
cond_after P true x y f g = f refl
cond_after P false x y f g = g refl

-- the Thing of a hardware address stands at its sort key
pub at_its_sort_key : (things : List Thing) (mac : Mac) (thing : Thing) → thing_at mac things ≡ Some thing → row_at mac_of (mac_of thing) things ≡ Some thing
unfolding thing_at
at_its_sort_key things mac thing found = subst (λ p. row_at mac_of p things ≡ Some thing) (sym (sort_key_row_at mac_of mac.0 things thing found)) found

-- ---- Leases

pub record AreKeptLeases (rows : Expiries) : Type 0 where
  pub ascend : are_ascending rows ≡ true
  pub expiries : have_expiries rows ≡ true
  pub few : length rows ≤ most.leases
  pub fit : AllByRecursion IsExpiring rows

leases_to : (rows : Expiries) → AreKeptLeases rows → are_leases rows ≡ true
leases_to rows s = both (are_ascending rows && have_expiries rows) (nat_le (length rows) most.leases) (both (are_ascending rows) (have_expiries rows) s.ascend s.expiries) (le-leb (length rows) most.leases s.few)

leases_from : (rows : Expiries) → are_leases rows ≡ true → AllByRecursion IsExpiring rows → AreKeptLeases rows
leases_from rows e fit = record {
  ascend = first_of_three (are_ascending rows) (have_expiries rows) (nat_le (length rows) most.leases) e;
  expiries = right_of (are_ascending rows) (have_expiries rows) (left_of (are_ascending rows && have_expiries rows) (nat_le (length rows) most.leases) e);
  few = leb-true (length rows) most.leases (right_of (are_ascending rows && have_expiries rows) (nat_le (length rows) most.leases) e);
  fit = fit;
}

-- the parts of what is kept of a Thing
record IsKeptByParts (thing : Thing) : Type 0 where
  url : is_canonical thing.url ≡ true
  waits : may_wait thing.url thing.pending ≡ true
  leases : AreKeptLeases thing.leases
  fits : FitsThing thing

parts_of : (thing : Thing) → IsKeptThing thing → IsKeptByParts thing
unfolding is_sound_thing
parts_of thing kept = record {
  url = first_of_three (is_canonical thing.url) (may_wait thing.url thing.pending) (are_leases thing.leases) kept.sound;
  waits = right_of (is_canonical thing.url) (may_wait thing.url thing.pending) (left_of (is_canonical thing.url && may_wait thing.url thing.pending) (are_leases thing.leases) kept.sound);
  leases = leases_from thing.leases (right_of (is_canonical thing.url && may_wait thing.url thing.pending) (are_leases thing.leases) kept.sound) kept.fits.leases.each;
  fits = kept.fits;
}

-- a URL that waits fits
pending_fits : (url : List ℕ) (pending : Option (List ℕ)) → may_wait url pending ≡ true → OptionFits (λ u. length u < 2 ^ 32) pending
unfolding may_wait
pending_fits url None waits = tt
pending_fits url (Some pending) waits = canonical_fits pending (left_of (is_canonical pending) (not (bytes_eq pending url)) waits)

few_fit : (n : ℕ) → n ≤ most.leases → n < 2 ^ 16
few_fit n few = omega (arith, few)

from_parts : (thing : Thing) → is_canonical thing.url ≡ true → may_wait thing.url thing.pending ≡ true → AreKeptLeases thing.leases → length thing.mac.0 ≡ 6 → IsKeptThing thing
unfolding is_sound_thing
from_parts thing url waits leases mac = record {
  sound = both (is_canonical thing.url && may_wait thing.url thing.pending) (are_leases thing.leases) (both (is_canonical thing.url) (may_wait thing.url thing.pending) url waits) (leases_to thing.leases leases);
  fits = record {
    mac = mac;
    url = canonical_fits thing.url url;
    pending = pending_fits thing.url thing.pending waits;
    leases = record { few = few_fit (length thing.leases) leases.few; each = leases.fit };
  };
}

-- other leases of a Thing
kept_with : (rows : Expiries) (thing : Thing) → IsKeptThing thing → AreKeptLeases rows → IsKeptThing (with_leases rows thing)
unfolding with_leases
kept_with rows thing kept leases = let p : IsKeptByParts thing = parts_of thing kept in from_parts (record thing { leases = rows }) p.url p.waits leases p.fits.mac

leases_of : (thing : Thing) → IsKeptThing thing → AreKeptLeases thing.leases
leases_of thing kept = (parts_of thing kept).leases

fewer_leases : (q : Addr × ℕ → Bool) (rows : Expiries) → AreKeptLeases rows → AreKeptLeases (filter q rows)
fewer_leases q rows s = record { ascend = filter_ascends q rows s.ascend; expiries = filter_expiries q rows s.expiries; few = omega (arith, s.few, filter_few q rows); fit = all_kept IsExpiring q rows s.fit }

live_leases : (now : ℕ) (rows : Expiries) → AreKeptLeases rows → AreKeptLeases (live_rows now rows)
unfolding live_rows
live_leases now rows s = fewer_leases (λ r. is_live r.1 now) rows s

released_kept : (a : Addr) (thing : Thing) → IsKeptThing thing → IsKeptThing (released a thing)
unfolding released without_address
released_kept a thing kept = kept_with (without_address a thing.leases) thing kept (fewer_leases _ thing.leases (leases_of thing kept))

-- an expiry fits its field
expiry_fits : (until : ℕ) → is_expiry until ≡ true → until < 2 ^ 64
expiry_fits until e = by_test (until == for_ever) refl e
  where
    by_test : (b : Bool) → (until == for_ever) ≡ b → (b || nat_lt until (2 ^ 40)) ≡ true → until < 2 ^ 64
    by_test true same e = omega (arith, eqb-true until for_ever same)
    by_test false other e = omega (arith, ltb-true until (2 ^ 40) e)

-- the expiry of what is leased for so many seconds
pub expiry_after_is : (now seconds : ℕ) → now ≤ 253402300799 → seconds < 2 ^ 32 → is_expiry (expiry_after now seconds) ≡ true
unfolding expiry_after
expiry_after_is now seconds early short = by_test (seconds == 4294967295)
  where
    later : (b : Bool) (n : ℕ) → n < 2 ^ 40 → (b || nat_lt n (2 ^ 40)) ≡ true
    later true n h = refl
    later false n h = lt-ltb n (2 ^ 40) h

    by_test : (b : Bool) → is_expiry (cond b for_ever (now + seconds)) ≡ true
    by_test true = refl
    by_test false = later (now + seconds == for_ever) (now + seconds) (omega (arith, early, short))

-- ---- URLs and holds

new_kept : (mac : Mac) (url : List ℕ) → is_canonical url ≡ true → length mac.0 ≡ 6 → IsKeptThing (new_thing mac url)
unfolding new_thing may_wait are_ascending have_expiries
new_kept mac url e six = from_parts (new_thing mac url) e refl (record { ascend = refl; expiries = refl; few = lit≤ tt; fit = tt }) six

waits_kept : (thing : Thing) (url : List ℕ) → IsKeptThing thing → is_canonical url ≡ true → bytes_eq url thing.url ≡ false → IsKeptThing (record thing { pending = Some url })
unfolding may_wait
waits_kept thing url kept e other = let p : IsKeptByParts thing = parts_of thing kept in from_parts (record thing { pending = Some url }) p.url (both (is_canonical url) (not (bytes_eq url thing.url)) e (ap not other)) p.leases p.fits.mac

-- the URL that waits is one
waiting_url : (own url : List ℕ) (pending : Option (List ℕ)) → may_wait own pending ≡ true → is_pending url pending ≡ true → is_canonical url ≡ true
unfolding may_wait is_pending
waiting_url own url None waits is = absurd (false≢true is)
waiting_url own url (Some pending) waits is = subst (λ u. is_canonical u ≡ true) (sym ((bytes_eq-Decides url pending).0 is)) (left_of (is_canonical pending) (not (bytes_eq pending own)) waits)

moved_kept : (thing : Thing) (url : List ℕ) → IsKeptThing thing → is_pending url thing.pending ≡ true → IsKeptThing (record thing { url = url; pending = None })
unfolding may_wait
moved_kept thing url kept is = let p : IsKeptByParts thing = parts_of thing kept in from_parts (record thing { url = url; pending = None }) (waiting_url thing.url url thing.pending p.waits is) refl p.leases p.fits.mac

hold_kept : (held : Bool) (thing : Thing) → IsKeptThing thing → IsKeptThing (with_hold held thing)
unfolding with_hold
hold_kept held thing kept = let p : IsKeptByParts thing = parts_of thing kept in from_parts (record thing { held = held }) p.url p.waits p.leases p.fits.mac

-- ---- Lists

module _ (things : List Thing) (sound : IsSoundThings things) where
  kept_at : (p : List ℕ) (thing : Thing) → row_at mac_of p things ≡ Some thing → IsKeptThing thing
  kept_at p thing there = all_at mac_of IsKeptThing things p thing sound.each there

  put : (t : Thing) → IsKeptThing t → IsApart t things → length (set_thing t things) ≤ most.things → IsSoundThings (set_thing t things)
  unfolding set_thing
  put t good apart few = record {
    ascend = ascend-set_row mac_of t things sound.ascend;
    each = all-set_row mac_of IsKeptThing t things good sound.each;
    few = few;
    alone = alone-set_thing t things sound.alone apart;
  }

  pub put_new : (t : Thing) → IsKeptThing t → IsApart t things → length things < most.things → IsSoundThings (set_thing t things)
  unfolding set_thing
  put_new t good apart room = put t good apart (omega (arith, room, (length-set_row mac_of t things).grown))

  put_there : (t old : Thing) → row_at mac_of (mac_of t) things ≡ Some old → IsKeptThing t → IsApart t things → IsSoundThings (set_thing t things)
  unfolding set_thing
  put_there t old there good apart =
      put t good apart (subst (λ n. n ≤ most.things) (sym (set_row_long mac_of t things sound.ascend (λ none. none-some old (sym none ∙ there)))) sound.few)

  -- a Thing with its own leases is put in its place
  put_same : (t old : Thing) → mac_of t ≡ mac_of old → t.leases ≡ old.leases → row_at mac_of (mac_of old) things ≡ Some old → IsKeptThing t → IsSoundThings (set_thing t things)
  put_same t old sort_key leases there good = put_there t old (ap (λ p. row_at mac_of p things) sort_key ∙ there) good (same_leases things sound.alone t old sort_key leases there)

  removed_sound : (mac : Mac) → IsSoundThings (without_thing mac things)
  unfolding without_thing
  removed_sound mac = record {
    ascend = ascend-without_row mac_of mac.0 things sound.ascend;
    each = all-without_row mac_of IsKeptThing mac.0 things sound.each;
    few = omega (arith, sound.few, (length-without_row mac_of mac.0 things).kept);
    alone = alone-without_thing mac things sound.ascend sound.alone;
  }

  all_released : (a : Addr) (ts : List Thing) → AllByRecursion IsKeptThing ts → AllByRecursion IsKeptThing (map (released a) ts)
  all_released a [] all = tt
  all_released a (t ∷ ts) all = (released_kept a t all.0, all_released a ts all.1)

  as_long : (a : Addr) (ts : List Thing) → length (map (released a) ts) ≤ length ts
  as_long a [] = omega arith
  as_long a (t ∷ ts) = omega (arith, as_long a ts)

  pub left_sound : (a : Addr) → IsSoundThings (without_lease a things)
  unfolding without_lease mac_of released with_leases
  left_sound a = record {
    ascend = ascend-map mac_of mac_of (released a) (λ x y. refl) things sound.ascend;
    each = all_released a things sound.each;
    few = omega (arith, sound.few, as_long a things);
    alone = alone-without_lease a things sound.alone;
  }

-- ---- Steps

module _ (things : List Thing) (sound : IsSoundThings things) where
  url_cases_sound : (mac : Mac) (url : List ℕ) → length mac.0 ≡ 6 → is_canonical url ≡ true → (o : Option Thing) → thing_at mac things ≡ o → OfAfter IsSoundThings (url_cases mac url things o)
  unfolding url_cases mac_of
  url_cases_sound mac url six e None found =
      cond_after IsSoundThings (nat_le most.things (length things)) (Err ThingsFull) (done New (set_thing (new_thing mac url) things))
      (λ _. tt) (λ room. put_new things sound (new_thing mac url) (new_kept mac url e six) (has_none things sound.alone mac url) (leb-false most.things (length things) room))
  url_cases_sound mac url six e (Some thing) found =
      let there : row_at mac_of (mac_of thing) things ≡ Some thing = at_its_sort_key things mac thing found in
      let waits : Thing = record thing { pending = Some url } in
      cond_after IsSoundThings (bytes_eq url thing.url) (left Same things) (cond (is_pending url thing.pending) (left Same things) (done Pending (set_thing waits things)))
      (λ _. sound)
      (λ other. cond_after IsSoundThings (is_pending url thing.pending) (left Same things) (done Pending (set_thing waits things))
      (λ _. sound) (λ _. put_same things sound waits thing refl refl there (waits_kept thing url (kept_at things sound (mac_of thing) thing there) e other)))

  pub sound-url_step : (mac : Mac) (url : List ℕ) → length mac.0 ≡ 6 → is_canonical url ≡ true → OfAfter IsSoundThings (url_step mac url things)
  unfolding url_step
  sound-url_step mac url six e = url_cases_sound mac url six e (thing_at mac things) refl

  move_cases_sound : (mac : Mac) (url : List ℕ) (o : Option Thing) → thing_at mac things ≡ o → OfAfter IsSoundThings (move_cases url things o)
  unfolding move_cases mac_of
  move_cases_sound mac url None found = tt
  move_cases_sound mac url (Some thing) found =
      let there : row_at mac_of (mac_of thing) things ≡ Some thing = at_its_sort_key things mac thing found in
      let moved : Thing = record thing { url = url; pending = None } in
      cond_after IsSoundThings (bytes_eq url thing.url) (left Same things) (cond (is_pending url thing.pending) (done Moved (set_thing moved things)) (Err NoPending))
      (λ _. sound)
      (λ _. cond_after IsSoundThings (is_pending url thing.pending) (done Moved (set_thing moved things)) (Err NoPending)
      (λ is. put_same things sound moved thing refl refl there (moved_kept thing url (kept_at things sound (mac_of thing) thing there) is)) (λ _. tt))

  pub sound-move_step : (mac : Mac) (url : List ℕ) → OfAfter IsSoundThings (move_step mac url things)
  unfolding move_step
  sound-move_step mac url = move_cases_sound mac url (thing_at mac things) refl

  remove_cases_sound : (mac : Mac) (o : Option Thing) → OfAfter IsSoundThings (remove_cases mac things o)
  remove_cases_sound mac None = tt
  remove_cases_sound mac (Some thing) = removed_sound things sound mac

  pub sound-remove_step : (mac : Mac) → OfAfter IsSoundThings (remove_step mac things)
  unfolding remove_step
  sound-remove_step mac = remove_cases_sound mac (thing_at mac things)

  -- ---- Holds

  put_hold : (held : Bool) (mac : Mac) (thing : Thing) → thing_at mac things ≡ Some thing → IsSoundThings (set_thing (with_hold held thing) things)
  unfolding with_hold mac_of
  put_hold held mac thing found =
      let there : row_at mac_of (mac_of thing) things ≡ Some thing = at_its_sort_key things mac thing found in
      put_same things sound (with_hold held thing) thing refl refl there (hold_kept held thing (kept_at things sound (mac_of thing) thing there))

  hold_cases_sound : (mac : Mac) (o : Option Thing) → thing_at mac things ≡ o → OfAfter IsSoundThings (hold_cases things o)
  unfolding hold_cases
  hold_cases_sound mac None found = tt
  hold_cases_sound mac (Some thing) found =
      cond_after IsSoundThings thing.held (left Same things) (done Held (set_thing (with_hold true thing) things)) (λ _. sound) (λ _. put_hold true mac thing found)

  pub sound-hold_step : (mac : Mac) → OfAfter IsSoundThings (hold_step mac things)
  unfolding hold_step
  sound-hold_step mac = hold_cases_sound mac (thing_at mac things) refl

  release_cases_sound : (mac : Mac) (o : Option Thing) → thing_at mac things ≡ o → OfAfter IsSoundThings (release_cases things o)
  unfolding release_cases
  release_cases_sound mac None found = tt
  release_cases_sound mac (Some thing) found =
      cond_after IsSoundThings thing.held (done Released (set_thing (with_hold false thing) things)) (left Same things) (λ _. put_hold false mac thing found) (λ _. sound)

  pub sound-release_step : (mac : Mac) → OfAfter IsSoundThings (release_step mac things)
  unfolding release_step
  sound-release_step mac = release_cases_sound mac (thing_at mac things) refl

  -- ---- Leases

  pub sound-end_step : (a : Addr) → OfAfter IsSoundThings (end_step a things)
  unfolding end_step
  sound-end_step a = cond_after IsSoundThings (list_any (holds a) things) (done Ended (without_lease a things)) (Err NoLease) (λ _. left_sound things sound a) (λ _. tt)

  released_some : (a : Addr) (thing : Thing) → row_at mac_of (mac_of thing) things ≡ Some thing → row_at mac_of (mac_of thing) (without_lease a things) ≡ Some (released a thing)
  released_some a thing there = row_at-without_lease a things (mac_of thing) ∙ ap (option_map (released a)) there

  new_lease_sound : (a : Addr) (until now : ℕ) (thing : Thing) → is_expiry until ≡ true → IsAddr a → row_at mac_of (mac_of thing) things ≡ Some thing → OfAfter IsSoundThings (new_lease a until now things thing)
  unfolding new_lease live_count mac_of with_leases
  new_lease_sound a until now thing end fits there =
      let rows : Expiries = live_rows now thing.leases in
      let leased : Thing = with_leases (with_expiry a until rows) thing in
      let good : IsKeptThing thing = kept_at things sound (mac_of thing) thing there in
      let live : AreKeptLeases rows = live_leases now thing.leases (leases_of thing good) in
      cond_after IsSoundThings (nat_le most.leases (live_count now thing.leases)) (Err LeasesFull) (leased_until until New (set_thing leased (without_lease a things)))
      (λ _. tt)
      (λ room. put_there (without_lease a things) (left_sound things sound a) leased (released a thing) (released_some a thing there)
      (kept_with (with_expiry a until rows) thing good (record {
        ascend = with_expiry_ascends a until rows live.ascend;
        expiries = with_expiry_have a until rows end live.expiries;
        few = few_more (length rows) (length (with_expiry a until rows)) (leb-false most.leases (live_count now thing.leases) room) (with_expiry_grown a until rows);
        fit = with_expiry_all IsExpiring a until rows (fits, expiry_fits until end) live.fit;
      }))
      (fresh_apart things sound.alone a until now thing there))
    where
      few_more : (n m : ℕ) → n < most.leases → m ≤ n + 1 → m ≤ most.leases
      few_more n m h k = omega arith

  kept_lease_sound : (a : Addr) (until old : ℕ) (thing : Thing) → is_expiry until ≡ true → IsAddr a → row_at mac_of (mac_of thing) things ≡ Some thing → expiry_of a thing.leases ≡ Some old → OfAfter IsSoundThings (kept_lease a until things thing old)
  unfolding kept_lease mac_of with_leases
  kept_lease_sound a until old thing end fits there kept =
      let leased : Thing = with_leases (with_expiry a until thing.leases) thing in
      let good : IsKeptThing thing = kept_at things sound (mac_of thing) thing there in
      let leases : AreKeptLeases thing.leases = leases_of thing good in
      cond_after IsSoundThings (old == until) (left_until until things) (leased_until until Renewed (set_thing leased things))
      (λ _. sound)
      (λ _. put_there things sound leased thing there
      (kept_with (with_expiry a until thing.leases) thing good (record {
        ascend = with_expiry_ascends a until thing.leases leases.ascend;
        expiries = with_expiry_have a until thing.leases end leases.expiries;
        few = subst (λ n. n ≤ most.leases) (sym (with_expiry_long a until old thing.leases leases.ascend kept)) leases.few;
        fit = with_expiry_all IsExpiring a until thing.leases (fits, expiry_fits until end) leases.fit;
      }))
      (ended_apart things sound.alone a until old thing there kept))

  known_lease_sound : (a : Addr) (until now : ℕ) (thing : Thing) → is_expiry until ≡ true → IsAddr a → row_at mac_of (mac_of thing) things ≡ Some thing → (o : Option ℕ) → expiry_of a thing.leases ≡ o → OfAfter IsSoundThings (known_lease a until now things thing o)
  unfolding known_lease
  known_lease_sound a until now thing end fits there (Some old) kept = kept_lease_sound a until old thing end fits there kept
  known_lease_sound a until now thing end fits there None kept = new_lease_sound a until now thing end fits there

  stranger_sound : (a : Addr) → OfAfter IsSoundThings (stranger_lease a things)
  unfolding stranger_lease
  stranger_sound a = cond_after IsSoundThings (list_any (holds a) things) (done Stranger (without_lease a things)) (left Stranger things) (λ _. left_sound things sound a) (λ _. sound)

  lease_cases_sound : (mac : Mac) (a : Addr) (until now : ℕ) (heard : Bool) → is_expiry until ≡ true → IsAddr a → (o : Option Thing) → thing_at mac things ≡ o → OfAfter IsSoundThings (lease_cases a until now heard things o)
  unfolding lease_cases
  lease_cases_sound mac a until now heard end fits None found = cond_after IsSoundThings heard (stranger_lease a things) (Err NoThing) (λ _. stranger_sound a) (λ _. tt)
  lease_cases_sound mac a until now heard end fits (Some thing) found = known_lease_sound a until now thing end fits (at_its_sort_key things mac thing found) (expiry_of a thing.leases) refl

  pub sound-lease_step : (mac : Mac) (a : Addr) (seconds now : ℕ) (heard : Bool) → IsAddr a → now ≤ 253402300799 → seconds < 2 ^ 32 → OfAfter IsSoundThings (lease_step mac a seconds now heard things)
  unfolding lease_step
  sound-lease_step mac a seconds now heard fits early short = lease_cases_sound mac a (expiry_after now seconds) now heard (expiry_after_is now seconds early short) fits (thing_at mac things) refl
