-- An address stays in the leases of one Thing, whatever is done.
use Rattle.std.proofs.Common.{◌≡◌, ℕ, Bool, true, false, cond, not, List, [], ◌∷◌, Option, Some, None, refl, sym, ap, subst, ◌∙◌}
use Rattle.std.specs.List.{list_any}
use Rattle.std.specs.Option.{option_map}
use Rattle.std.specs.declared.cmp.Ordering.{Ordering}
use Rattle.std.specs.declared.cmp.Ordering.TheVariants.{Less, Equal, Greater}
use Rattle.std.proofs.lemmas.Bool.{false≢true}
use Rattle.std.proofs.lemmas.Option.{same_Some, none-some}
use Rattle.mud_base.specs.Addresses.{same_addr}
use Rattle.mud_base.specs.declared.addr.Addr.{Addr}
use Rattle.mud_base.specs.declared.addr.Mac.{Mac}
use Rattle.base_rows.specs.Sortable.{sort_key_cmp, same_sort_key, SortKeysAscend, row_at, set_row, without_row}
use Rattle.base_rows.specs.Addresses.{expiry_sort_key}
use Rattle.base_rows.proofs.SortableLaws.{same_sort_key_exact, row_at-set_row, row_at-without_row}
use Rattle.table_model.specs.declared.thing.Thing.{Thing}
use Rattle.table_model.specs.Expiries.{Expiries, has_address, expiry_of, with_expiry, without_address, live_rows, is_live}
use Rattle.table_model.specs.Things.{IsAlone, mac_of, set_thing, without_thing, new_thing, holds, with_leases, released, without_lease}
use Rattle.table_model.proofs.RowSets.{same_addr_exact, any_first, any_later, any_by, row_at-map}
pub use Rattle.base_rows.proofs.ListTests.{any_kept, any_without}

-- ---- Which addresses rows of addresses have

pub without_address_none : (a : Addr) (rows : Expiries) → has_address a (without_address a rows) ≡ true → ⊥
unfolding has_address without_address
without_address_none a rows e = any_without (λ r. same_addr r.0 a) rows e

pub without_address_less : (a b : Addr) (rows : Expiries) → has_address b (without_address a rows) ≡ true → has_address b rows ≡ true
unfolding has_address without_address
without_address_less a b rows e = any_kept (λ r. same_addr r.0 b) (λ r. not (same_addr r.0 a)) rows e

pub live_rows_less : (now : ℕ) (b : Addr) (rows : Expiries) → has_address b (live_rows now rows) ≡ true → has_address b rows ≡ true
unfolding has_address live_rows
live_rows_less now b rows e = any_kept (λ r. same_addr r.0 b) (λ r. is_live r.1 now) rows e

-- what passes a test among rows with one more is that one, or was among them
any_first_row : {R : Type 0} {P : Type 0} (p : R → Bool) (row x : R) (rows rest : List R) → (p row ≡ true → P) → (list_any p (x ∷ rows) ≡ true → P) → ((list_any p rows ≡ true → P) → list_any p rest ≡ true → P) → (o : Ordering)
    → list_any p (elim o as (λ _. List R) [ Less ↦ row ∷ (x ∷ rows) | Equal ↦ row ∷ rows | Greater ↦ x ∷ rest ]) ≡ true → P
any_first_row p row x rows rest new old later Less e = any_by p row (x ∷ rows) new old e
any_first_row p row x rows rest new old later Equal e = any_by p row rows new (λ is. old (any_later p x rows is)) e
any_first_row p row x rows rest new old later Greater e = any_by p x rest (λ is. old (any_first p x rows is)) (later (λ is. old (any_later p x rows is))) e

any-set_row : {R : Type 0} {P : Type 0} (sort_key : R → List ℕ) (p : R → Bool) (row : R) (rows : List R) → (p row ≡ true → P) → (list_any p rows ≡ true → P) → list_any p (set_row sort_key row rows) ≡ true → P
any-set_row sort_key p row [] new old e = any_by p row [] new old e
any-set_row sort_key p row (x ∷ xs) new old e = any_first_row p row x xs (set_row sort_key row xs) new old (λ old' e'. any-set_row sort_key p row xs new old' e') (sort_key_cmp (sort_key row) (sort_key x)) e

pub with_expiry_by : {P : Type 0} (a b : Addr) (until : ℕ) (rows : Expiries) → (same_addr a b ≡ true → P) → (has_address b rows ≡ true → P) → has_address b (with_expiry a until rows) ≡ true → P
unfolding with_expiry has_address
with_expiry_by a b until rows new old e = any-set_row expiry_sort_key (λ s. same_addr s.0 b) (a, until) rows new old e

-- the expiry of an address is there where the rows have the address
pub has_expiry : (a : Addr) (rows : Expiries) (until : ℕ) → expiry_of a rows ≡ Some until → has_address a rows ≡ true
unfolding expiry_of has_address
has_expiry a [] until e = absurd (none-some until e)
has_expiry a (r ∷ rows) until e = by_first (same_addr r.0 a) refl (has_expiry a rows until)
  where
    by_first : (b : Bool) → same_addr r.0 a ≡ b → (expiry_of a rows ≡ Some until → has_address a rows ≡ true) → has_address a (r ∷ rows) ≡ true
    by_first true is later = any_first (λ s. same_addr s.0 a) r rows is
    by_first false is later = any_later (λ s. same_addr s.0 a) r rows (later (sym (ap (λ b. cond b (Some r.1) (expiry_of a rows)) is) ∙ e))

-- ---- Things that have no address that they hadn't

-- the Thing at each sort key was there, and had each address that it has
pub record HadBefore (things : List Thing) (q : List ℕ) (u : Thing) : Type 0 where
  pub old : Thing
  pub there : row_at mac_of q things ≡ Some old
  pub had : (a : Addr) → holds a u ≡ true → holds a old ≡ true

pub alone_less : (things things' : List Thing) → IsAlone things → ((q : List ℕ) (u : Thing) → row_at mac_of q things' ≡ Some u → HadBefore things q u) → IsAlone things'
alone_less things things' alone less a p q t u at_p at_q has_t has_u =
    let old_t : HadBefore things p t = less p t at_p in
    let old_u : HadBefore things q u = less q u at_q in
    alone a p q old_t.old old_u.old old_t.there old_u.there (old_t.had a has_t) (old_u.had a has_u)

same_before : (things : List Thing) (q : List ℕ) (u : Thing) → row_at mac_of q things ≡ Some u → HadBefore things q u
same_before things q u there = record { old = u; there = there; had = λ a h. h }

-- a Thing goes
pub alone-without_thing : (mac : Mac) (things : List Thing) → SortKeysAscend mac_of things → IsAlone things → IsAlone (without_thing mac things)
unfolding without_thing
alone-without_thing mac things ascend alone = alone_less things (without_row mac_of mac.0 things) alone (λ q u e.
    same_before things q u (kept q u (same_sort_key mac.0 q) (sym (row_at-without_row mac_of mac.0 things q ascend) ∙ e)))
  where
    kept : (q : List ℕ) (u : Thing) (b : Bool) → cond b None (row_at mac_of q things) ≡ Some u → row_at mac_of q things ≡ Some u
    kept q u true e = absurd (none-some u e)
    kept q u false e = e

-- an address leaves each Thing
released_before : (a : Addr) (things : List Thing) (q : List ℕ) (u : Thing) (o : Option Thing) → row_at mac_of q things ≡ o → option_map (released a) o ≡ Some u → HadBefore things q u
unfolding released with_leases holds
released_before a things q u None found e = absurd (none-some u e)
released_before a things q u (Some old) found e = record {
  old = old;
  there = found;
  had = λ b h. without_address_less a b old.leases (ap (λ t. has_address b t.leases) (same_Some (released a old) u e) ∙ h);
}

pub keeps_mac : (a : Addr) (t : Thing) → mac_of (released a t) ≡ mac_of t
unfolding mac_of released with_leases
keeps_mac a t = refl

pub row_at-without_lease : (a : Addr) (things : List Thing) (q : List ℕ) → row_at mac_of q (without_lease a things) ≡ option_map (released a) (row_at mac_of q things)
unfolding without_lease
row_at-without_lease a things q = row_at-map mac_of (released a) (keeps_mac a) q things

pub left_before : (a : Addr) (things : List Thing) (q : List ℕ) (u : Thing) → row_at mac_of q (without_lease a things) ≡ Some u → HadBefore things q u
left_before a things q u e = released_before a things q u (row_at mac_of q things) refl (sym (row_at-without_lease a things q) ∙ e)

pub alone-without_lease : (a : Addr) (things : List Thing) → IsAlone things → IsAlone (without_lease a things)
alone-without_lease a things alone = alone_less things (without_lease a things) alone (left_before a things)

-- no Thing has an address that left
released_none : (a : Addr) (u : Thing) (o : Option Thing) → option_map (released a) o ≡ Some u → holds a u ≡ true → ⊥
unfolding released with_leases holds
released_none a u None e h = none-some u e
released_none a u (Some old) e h = without_address_none a old.leases (ap (λ t. has_address a t.leases) (same_Some (released a old) u e) ∙ h)

pub left_none : (a : Addr) (things : List Thing) (q : List ℕ) (u : Thing) → row_at mac_of q (without_lease a things) ≡ Some u → holds a u ≡ true → ⊥
left_none a things q u e h = released_none a u (row_at mac_of q things) (sym (row_at-without_lease a things q) ∙ e) h

-- ---- A Thing is put in

-- no other Thing has an address of it
abbrev pub IsApart : Thing → List Thing → Type 0
IsApart t things = (a : Addr) (q : List ℕ) (u : Thing) → row_at mac_of q things ≡ Some u → holds a t ≡ true → holds a u ≡ true → mac_of t ≡ q

pub alone-set_thing : (t : Thing) (things : List Thing) → IsAlone things → IsApart t things → IsAlone (set_thing t things)
unfolding set_thing
alone-set_thing t things alone apart a p q u v at_p at_q has_u has_v =
    by_tests (same_sort_key (mac_of t) p) (same_sort_key (mac_of t) q) refl refl (sym (row_at-set_row mac_of t things p) ∙ at_p) (sym (row_at-set_row mac_of t things q) ∙ at_q)
  where
    by_tests : (b c : Bool) → same_sort_key (mac_of t) p ≡ b → same_sort_key (mac_of t) q ≡ c → cond b (Some t) (row_at mac_of p things) ≡ Some u → cond c (Some t) (row_at mac_of q things) ≡ Some v → p ≡ q
    by_tests true true here there e f = sym (same_sort_key_exact (mac_of t) p here) ∙ same_sort_key_exact (mac_of t) q there
    by_tests true false here there e f = sym (same_sort_key_exact (mac_of t) p here) ∙ apart a q v f (ap (holds a) (same_Some t u e) ∙ has_u) has_v
    by_tests false true here there e f = sym (apart a p u e (ap (holds a) (same_Some t v f) ∙ has_v) has_u) ∙ same_sort_key_exact (mac_of t) q there
    by_tests false false here there e f = alone a p q u v e f has_u has_v

-- it has no address that the Thing of its sort key hadn't
pub apart_before : (t old : Thing) (things : List Thing) → IsAlone things → row_at mac_of (mac_of t) things ≡ Some old → ((a : Addr) → holds a t ≡ true → holds a old ≡ true) → IsApart t things
apart_before t old things alone there had a q u at_q has_t has_u = alone a (mac_of t) q old u there at_q (had a has_t) has_u

-- ---- Which Things have no address of others

module _ (things : List Thing) (alone : IsAlone things) where
  -- a new Thing has none
  pub has_none : (mac : Mac) (url : List ℕ) → IsApart (new_thing mac url) things
  unfolding new_thing holds has_address
  has_none mac url a q u at_q has_t has_u = absurd (false≢true has_t)

  -- nor has one whose leases stay
  pub same_leases : (t thing : Thing) → mac_of t ≡ mac_of thing → t.leases ≡ thing.leases → row_at mac_of (mac_of thing) things ≡ Some thing → IsApart t things
  unfolding holds
  same_leases t thing sort_key leases there = apart_before t thing things alone (ap (λ p. row_at mac_of p things) sort_key ∙ there) (λ a h. sym (ap (has_address a) leases) ∙ h)

  -- the Thing that has the address gets another expiry for it
  pub ended_apart : (a : Addr) (until old : ℕ) (thing : Thing) → row_at mac_of (mac_of thing) things ≡ Some thing → expiry_of a thing.leases ≡ Some old → IsApart (with_leases (with_expiry a until thing.leases) thing) things
  unfolding mac_of holds with_leases
  ended_apart a until old thing there kept = apart_before (with_leases (with_expiry a until thing.leases) thing) thing things alone there (λ b h.
      with_expiry_by a b until thing.leases (λ same. subst (λ c. has_address c thing.leases ≡ true) (same_addr_exact a b same) (has_expiry a thing.leases old kept)) (λ was. was) h)

  -- a Thing that gets the address after it has left each Thing
  pub fresh_apart : (a : Addr) (until now : ℕ) (thing : Thing) → row_at mac_of (mac_of thing) things ≡ Some thing → IsApart (with_leases (with_expiry a until (live_rows now thing.leases)) thing) (without_lease a things)
  unfolding mac_of holds with_leases
  fresh_apart a until now thing there b q u at_q has_t has_u =
      with_expiry_by a b until (live_rows now thing.leases)
      (λ same. absurd (left_none a things q u at_q (subst (λ c. has_address c u.leases ≡ true) (sym (same_addr_exact a b same)) has_u)))
      (λ was. let old : HadBefore things q u = left_before a things q u at_q in
      alone b (mac_of thing) q thing old.old there old.there (live_rows_less now b thing.leases was) (old.had b has_u))
      has_t
