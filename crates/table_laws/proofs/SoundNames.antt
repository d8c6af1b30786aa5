-- Every step on names keeps them sound.
use Rattle.std.proofs.Common.{◌≡◌, ℕ, ◌+◌, ◌≤◌, ◌<◌, ◌^◌, ◌==◌, Bool, true, false, cond, not, ◌&&◌, ◌||◌, List, [], ◌∷◌, length, Option, Some, None, Ok, Err, refl, sym, subst, arith}
use Rattle.std.specs.Prelude.{nat_le, nat_lt}
use Rattle.std.specs.List.{AllByRecursion}
use Rattle.std.proofs.lemmas.Bool.{leb-true, leb-false, le-leb, lt-ltb, ltb-true}
use Rattle.std.proofs.lemmas.Option.{none-some}
use Rattle.mud_base.specs.declared.addr.Addr.{Addr}
use Rattle.base_rows.specs.Sortable.{row_at, set_row, without_row}
use Rattle.table_model.specs.declared.bind.NameRow.{NameRow}
use Rattle.table_model.specs.declared.bind_fault.BindFault.TheVariants.{NameFull}
use Rattle.item_codec.specs.declared.word.Word.TheVariants.{New, Same, Renewed}
use Rattle.table_model.specs.Limits.{most}
use Rattle.table_model.specs.Expiries.{Expiries, for_ever, is_live, expiry_of, with_expiry, live_rows, live_count, are_ascending, have_expiries}
use Rattle.table_model.specs.Binds.{name_of, name_at, set_name, without_name, name_row, has_live_row, is_name, is_sound_name, IsKeptName, IsSoundNames}
use Rattle.table_model.specs.ItemFields.{IsAddr, IsExpiring}
use Rattle.table_model.specs.BindCommands.{NameStep, observed, addrs_of, least_dead, replacing, new_pair, kept_pair, observe_row, observe_step}
use Rattle.base_rows.proofs.ListTests.{left_of, right_of, both}
use Rattle.table_model.proofs.RowSets.{first_of_three}
use Rattle.table_laws.proofs.SoundRows.{AreSoundRows, put_new_row, put_there_row, without_sound_row, without_row_short, found_there}
use Rattle.table_model.proofs.RowSets.{all_at}
use Rattle.table_model.proofs.LeaseLaws.{with_expiry_ascends, filter_ascends, with_expiry_have, filter_expiries, with_expiry_grown, with_expiry_long, with_expiry_all, all_kept}
use Rattle.table_laws.proofs.ExpiryRows.{with_expiry_some}
use Rattle.table_model.proofs.Parts.{observe_cases, is_expiry}

-- ---- Names

pub record AreSoundExpiries (rows : Expiries) : Type 0 where
  pub ascend : are_ascending rows ≡ true
  pub expiries : have_expiries rows ≡ true
  pub some : 0 < length rows
  pub few : length rows ≤ most.name_addresses
  pub fit : AllByRecursion IsExpiring rows

name_from : (row : NameRow) → IsKeptName row → (is_name row.name ≡ true) × AreSoundExpiries row.addrs
unfolding is_sound_name
name_from row kept =
    let e : is_sound_name row ≡ true = kept.sound in
    let n : Bool = is_name row.name in
    let up : Bool = are_ascending row.addrs in
    let expiries : Bool = have_expiries row.addrs in
    let some : Bool = nat_lt 0 (length row.addrs) in
    let few : Bool = nat_le (length row.addrs) most.name_addresses in
    let four : (n && up && expiries && some) ≡ true = left_of (n && up && expiries && some) few e in
    let three : (n && up && expiries) ≡ true = left_of (n && up && expiries) some four in (
      first_of_three n up expiries three,
      record {
        ascend = right_of n up (left_of (n && up) expiries three);
        expiries = right_of (n && up) expiries three;
        some = ltb-true 0 (length row.addrs) (right_of (n && up && expiries) some four);
        few = leb-true (length row.addrs) most.name_addresses (right_of (n && up && expiries && some) few e);
        fit = kept.fits.each;
      },
    )

few_enough : (n : ℕ) → n ≤ most.name_addresses → n < 2 ^ 16
few_enough n few = omega (arith, few)

name_to : (name : List ℕ) (rows : Expiries) → is_name name ≡ true → AreSoundExpiries rows → IsKeptName (name_row name rows)
unfolding is_sound_name name_row
name_to name rows e s = record {
  sound = both (is_name name && are_ascending rows && have_expiries rows && nat_lt 0 (length rows)) (nat_le (length rows) most.name_addresses)
      (both (is_name name && are_ascending rows && have_expiries rows) (nat_lt 0 (length rows))
      (both (is_name name && are_ascending rows) (have_expiries rows) (both (is_name name) (are_ascending rows) e s.ascend) s.expiries)
      (lt-ltb 0 (length rows) s.some))
      (le-leb (length rows) most.name_addresses s.few);
  fits = record { few = few_enough (length rows) s.few; each = s.fit };
}

one_expiry : (a : Addr) (until : ℕ) → is_expiry until ≡ true → IsExpiring (a, until) → AreSoundExpiries ((a, until) ∷ [])
unfolding are_ascending have_expiries
one_expiry a until e fine = record { ascend = refl; expiries = both (is_expiry until) true e refl; some = omega arith; few = omega arith; fit = (fine, tt) }

-- a refusal changes nothing, and else this holds
abbrev pub OfNames : (List NameRow → Type 0) → NameStep → Type 0
OfNames P (Ok after) = P after.names
OfNames P (Err fault) = Unit {0}

pub cond_names : (P : List NameRow → Type 0) (b : Bool) (x y : NameStep) → (b ≡ true → OfNames P x) → (b ≡ false → OfNames P y) → OfNames P (cond b x y)
cond_names P true x y f g = f refl
cond_names P false x y f g = g refl

from_rows : (names : List NameRow) → AreSoundRows name_of IsKeptName most.names names → IsSoundNames names
from_rows names s = record { ascend = s.ascend; each = s.each; few = s.few }

to_rows : (names : List NameRow) → IsSoundNames names → AreSoundRows name_of IsKeptName most.names names
to_rows names s = record { ascend = s.ascend; each = s.each; few = s.few }

module _ (name : List ℕ) (a : Addr) (until now : ℕ) (named : is_name name ≡ true) (end : is_expiry until ≡ true) (fine : IsExpiring (a, until)) (names : List NameRow) (sound : IsSoundNames names) where
  replacing_sound : (o : Option NameRow) → least_dead now names ≡ o → OfNames IsSoundNames (replacing name a until names o)
  unfolding replacing least_dead set_name without_name name_of
  replacing_sound None is = tt
  replacing_sound (Some dead) is =
      let new : NameRow = name_row name ((a, until) ∷ []) in
      let rows : AreSoundRows name_of IsKeptName most.names names = to_rows names sound in
      let there : row_at name_of (name_of dead) names ≡ Some dead = found_there name_of (λ row. not (has_live_row now row)) names dead sound.ascend is in
      from_rows (set_row name_of new (without_row name_of (name_of dead) names))
      (put_new_row name_of IsKeptName most.names new (without_row name_of (name_of dead) names) (without_sound_row name_of IsKeptName most.names (name_of dead) names rows) (name_to name ((a, until) ∷ []) named (one_expiry a until end fine))
      (less_than (length (without_row name_of (name_of dead) names)) (length names) (without_row_short name_of (name_of dead) names dead sound.ascend there) sound.few))
    where
      less_than : (n m : ℕ) → n < m → m ≤ most.names → n < most.names
      less_than n m h k = omega arith

  -- the row of the name, where there is one, with other addresses
  put_name : (row : NameRow) (rows : Expiries) → name_at name names ≡ Some row → AreSoundExpiries rows → IsSoundNames (set_name (name_row name rows) names)
  unfolding name_at set_name name_of name_row
  put_name row rows there s = from_rows (set_row name_of (name_row name rows) names)
      (put_there_row name_of IsKeptName most.names (name_row name rows) row names (to_rows names sound) (name_to name rows named s) there)

  its_expiries : (row : NameRow) → name_at name names ≡ Some row → AreSoundExpiries row.addrs
  unfolding name_at
  its_expiries row there = (name_from row (all_at name_of IsKeptName names name row sound.each there)).1

  new_pair_sound : (o : Option NameRow) → name_at name names ≡ o → OfNames IsSoundNames (new_pair name a until now names o)
  unfolding new_pair live_count live_rows set_name
  new_pair_sound None is =
      cond_names IsSoundNames (nat_le most.names (length names)) (replacing name a until names (least_dead now names)) (observed New until (set_name (name_row name ((a, until) ∷ [])) names))
      (λ _. replacing_sound (least_dead now names) refl)
      (λ room. from_rows (set_row name_of (name_row name ((a, until) ∷ [])) names) (put_new_row name_of IsKeptName most.names (name_row name ((a, until) ∷ [])) names (to_rows names sound) (name_to name ((a, until) ∷ []) named (one_expiry a until end fine)) (leb-false most.names (length names) room)))
  new_pair_sound (Some row) is =
      let live : Expiries = live_rows now row.addrs in
      let old : AreSoundExpiries row.addrs = its_expiries row is in
      cond_names IsSoundNames (nat_le most.name_addresses (live_count now row.addrs)) (Err NameFull) (observed New until (set_name (name_row name (with_expiry a until live)) names))
      (λ _. tt)
      (λ room. put_name row (with_expiry a until live) is (record {
        ascend = with_expiry_ascends a until live (filter_ascends (λ r. is_live r.1 now) row.addrs old.ascend);
        expiries = with_expiry_have a until live end (filter_expiries (λ r. is_live r.1 now) row.addrs old.expiries);
        some = with_expiry_some a until live;
        few = few_more (length live) (length (with_expiry a until live)) (leb-false most.name_addresses (live_count now row.addrs) room) (with_expiry_grown a until live);
        fit = with_expiry_all IsExpiring a until live fine (all_kept IsExpiring (λ r. is_live r.1 now) row.addrs old.fit);
      }))
    where
      few_more : (n m : ℕ) → n < most.name_addresses → m ≤ n + 1 → m ≤ most.name_addresses
      few_more n m h k = omega arith

  kept_pair_sound : (o : Option NameRow) (old : ℕ) → name_at name names ≡ o → expiry_of a (addrs_of o) ≡ Some old → OfNames IsSoundNames (kept_pair name a until names o old)
  unfolding kept_pair addrs_of expiry_of
  kept_pair_sound None old is kept = absurd (none-some old kept)
  kept_pair_sound (Some row) old is kept =
      let was : AreSoundExpiries row.addrs = its_expiries row is in
      cond_names IsSoundNames (nat_lt old until) (observed Renewed until (set_name (name_row name (with_expiry a until row.addrs)) names)) (observed Same old names)
      (λ _. put_name row (with_expiry a until row.addrs) is (record {
        ascend = with_expiry_ascends a until row.addrs was.ascend;
        expiries = with_expiry_have a until row.addrs end was.expiries;
        some = with_expiry_some a until row.addrs;
        few = subst (λ n. n ≤ most.name_addresses) (sym (with_expiry_long a until old row.addrs was.ascend kept)) was.few;
        fit = with_expiry_all IsExpiring a until row.addrs fine was.fit;
      }))
      (λ _. sound)

  observe_cases_sound : (o : Option NameRow) → name_at name names ≡ o → (e : Option ℕ) → expiry_of a (addrs_of o) ≡ e → OfNames IsSoundNames (observe_cases name a until now names o e)
  observe_cases_sound o is None kept = new_pair_sound o is
  observe_cases_sound o is (Some old) kept = cond_names IsSoundNames (is_live old now) (kept_pair name a until names o old) (new_pair name a until now names o)
      (λ _. kept_pair_sound o old is kept) (λ _. new_pair_sound o is)

pub sound-observe_step : (name : List ℕ) (a : Addr) (ttl now : ℕ) (names : List NameRow) → IsSoundNames names → is_name name ≡ true → IsAddr a → now ≤ 253402300799 → ttl < 2 ^ 32 → OfNames IsSoundNames (observe_step name a ttl now names)
unfolding observe_step observe_row
sound-observe_step name a ttl now names sound named fits early short =
    observe_cases_sound name a (now + ttl) now named (later (now + ttl == for_ever) (now + ttl) (omega (arith, early, short))) (fits, omega (arith, early, short)) names sound (name_at name names) refl (expiry_of a (addrs_of (name_at name names))) refl
  where
    later : (b : Bool) (n : ℕ) → n < 2 ^ 40 → (b || nat_lt n (2 ^ 40)) ≡ true
    later true n h = refl
    later false n h = lt-ltb n (2 ^ 40) h
