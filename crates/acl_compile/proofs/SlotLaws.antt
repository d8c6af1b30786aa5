-- The table of policies, before and after a policy comes, goes or is replaced.
use Rattle.std.proofs.Common.{◌≡◌, ℕ, zero, suc, ◌+◌, ◌*◌, ◌^◌, ◌<◌, ◌≤◌, ◌⊎◌, inl, inr, Bool, true, false, cond, ◌&&◌, List, [], ◌∷◌, ◌++◌, length, drop, get_or, Option, Some, None, refl, sym, ap, subst, ◌∙◌, arith, length-append}
use Rattle.std.specs.Prelude.{◌≢◌, bytes_eq, nat_eq, not, filter, flat_map, nat_lt, slice_set}
use Rattle.std.specs.Option.{option_map, option_and_then, is_some}
use Rattle.std.specs.List.{slice_get, AllByRecursion}
use Rattle.std.proofs.Math.Seq.{drop-cons}
use Rattle.std.proofs.lemmas.List.{drop_all, length-map}
use Rattle.std.proofs.lemmas.Bool.{false≢true, eqb-true, and_parts}
use Rattle.std.proofs.lemmas.Bool.Decides.{eqb_tells, leb_tells}
use Rattle.std.proofs.lemmas.Option.{same_Some, none-some, slice_get_within}
use Rattle.base_rows.proofs.SortableLaws.{same_sort_key_exact, same_sort_key_itself}
use Rattle.mud_base.specs.declared.packet.Direction.{Direction}
use Rattle.mud_base.specs.declared.packet.Direction.TheVariants.{From, To}
use Rattle.acl_model.specs.declared.entry.Entry.{Entry}
use Rattle.acl_model.specs.declared.entry.Policy.{Policy}
use Rattle.acl_model.specs.declared.binding.MemberKey.{MemberKey}
use Rattle.acl_model.specs.declared.binding.Binding.{Binding}
use Rattle.acl_model.specs.FirstMatch.{entries_of}
use Rattle.acl_model.specs.Policies.{UrlPolicy, url_policy}
use Rattle.acl_rows.specs.declared.row.Owner.{Owner}
use Rattle.acl_rows.specs.declared.row.Owner.TheVariants.{Url, Default}
use Rattle.acl_rows.specs.declared.row.Row.{Row}
use Rattle.acl_rows.specs.Rows.{Slots, Holder, rows_of, member_keys, numbered, slot_policy, held_by, expiry_at}
use Rattle.acl_rows.specs.View.{in_slot, holder_from, holder_policy}
use Rattle.acl_changes.specs.PolicyTouched.{bound_key, first_key_touches, entry_touches, side_policy_touches, new_touches, owner_rows, IsSlotChange}
use Rattle.acl_rows.specs.Rows.{held_expiry}
use Rattle.acl_rows.specs.SortKeys.{owner_class, owner_number, owner_sort_key, side_sort_key, peer_sort_key, sort_key_at, row_sort_key}
use Rattle.acl_rows.proofs.AtSortKeys.{ascend-rows_of}
use Rattle.acl_rows.proofs.Sound.{slot_by}
use Rattle.acl_changes.specs.Patch.{expiry_for}
use Rattle.base_rows.specs.Sortable.{row_at, is_under}
use Rattle.acl_changes.proofs.Groups.{all_kept, each_there}
use Rattle.acl_changes.proofs.PolicyRows.{expiry_was}
use Rattle.acl_compile.specs.Compiled.{UrlsApart, compiled_state}
use Rattle.acl_changes.specs.Fresh.{policy_count}
use Rattle.base_rows.specs.declared.edit.Edit.{Edit}
use Rattle.base_rows.specs.Edits.{edited}
use Rattle.acl_buckets.specs.BindingBuckets.{KeptBindings, bindings_of_key, AreFoundByKey, HasRoomByKey}
use Rattle.acl_buckets.proofs.EditLaws.{no_edits}
use Rattle.acl_buckets.specs.RowBuckets.{Buckets, HasRoom}
use Rattle.acl_model.specs.SortKeys.{binding_sort_key}
use Rattle.acl_changes.specs.Patch.{IsPatch}
use Rattle.acl_compile.specs.Plans.{slot_set, holder_owner, policy_held, slot_held, held_for, is_other, others_held, rows_of_owner, slots_with, slots_after, bindings_after, policy_steps, policy_reads, IsSlotFor, IsPolicyPlan}
use Rattle.acl_changes.specs.Steps.{HaveKeys, PolicyKeys, sort_key_steps}
use Rattle.acl_changes.proofs.Loops.{slot_holds}

lt_by : (a b : ℕ) → ((nat_lt a b ≡ true) × (suc a ≤ b)) ⊎ ((nat_lt a b ≡ false) × (b < suc a)) → ((nat_lt a b ≡ true) × (a < b)) ⊎ ((nat_lt a b ≡ false) × (b ≤ a))
lt_by a b (inl lt) = inl (lt.0, omega (arith, lt.1))
lt_by a b (inr ge) = inr (ge.0, omega (arith, ge.1))

ltb_tells : (a b : ℕ) → ((nat_lt a b ≡ true) × (a < b)) ⊎ ((nat_lt a b ≡ false) × (b ≤ a))
ltb_tells a b = lt_by a b (leb_tells (suc a) b)

-- ---- Lists

module _ {A : Type 0} where
  set_same : (xs : List A) (i : ℕ) (v : A) → i < length xs → slice_get (slice_set xs i v) i ≡ Some v
  set_same [] i v lt = absurd (omega arith)
  set_same (x ∷ xs) zero v lt = refl
  set_same (x ∷ xs) (suc i) v lt = set_same xs i v (omega arith)

  set_other : (xs : List A) (i j : ℕ) (v : A) → j ≢ i → slice_get (slice_set xs i v) j ≡ slice_get xs j
  set_other [] i j v apart = refl
  set_other (x ∷ xs) zero zero v apart = absurd (apart refl)
  set_other (x ∷ xs) zero (suc j) v apart = refl
  set_other (x ∷ xs) (suc i) zero v apart = refl
  set_other (x ∷ xs) (suc i) (suc j) v apart = set_other xs i j v (λ e. apart (ap suc e))

  length-set : (xs : List A) (i : ℕ) (v : A) → length (slice_set xs i v) ≡ length xs
  length-set [] i v = refl
  length-set (x ∷ xs) zero v = refl
  length-set (x ∷ xs) (suc i) v = ap suc (length-set xs i v)

  last_same : (xs : List A) (i : ℕ) (v : A) → i ≡ length xs → slice_get (xs ++ v ∷ []) i ≡ Some v
  last_same [] zero v e = refl
  last_same [] (suc i) v e = absurd (omega arith)
  last_same (x ∷ xs) zero v e = absurd (omega arith)
  last_same (x ∷ xs) (suc i) v e = last_same xs i v (omega arith)

  last_other : (xs : List A) (i j : ℕ) (v : A) → i ≡ length xs → j ≢ i → slice_get (xs ++ v ∷ []) j ≡ slice_get xs j
  last_other [] i zero v e apart = absurd (apart (sym e))
  last_other [] i (suc j) v e apart = refl
  last_other (x ∷ xs) zero j v e apart = absurd (omega arith)
  last_other (x ∷ xs) (suc i) zero v e apart = refl
  last_other (x ∷ xs) (suc i) (suc j) v e apart = last_other xs i j v (omega arith) (λ same. apart (ap suc same))

-- ---- The table with one slot changed

record IsSet (slots slots' : Slots) (i : ℕ) (new : Option UrlPolicy) : Type 0 where
  same : slice_get slots' i ≡ Some new
  other : (j : ℕ) → j ≢ i → slice_get slots' j ≡ slice_get slots j
  long : length slots' ≤ length slots + 1
  within : i < length slots → length slots' ≡ length slots

set_by : (slots : Slots) (i : ℕ) (new : Option UrlPolicy) → i ≤ length slots → ((nat_lt i (length slots) ≡ true) × (i < length slots)) ⊎ ((nat_lt i (length slots) ≡ false) × (length slots ≤ i)) → IsSet slots (slot_set (i, new) slots) i new
unfolding slot_set
set_by slots i new le (inl lt) = subst (λ (b : Bool). IsSet slots (cond b (slice_set slots i new) (slots ++ new ∷ [])) i new) (sym lt.0) (record {
  same = set_same slots i new lt.1;
  other = λ j apart. set_other slots i j new apart;
  long = omega (arith, length-set slots i new);
  within = λ _. length-set slots i new;
})
set_by slots i new le (inr ge) =
    let last : i ≡ length slots = omega (arith, ge.1) in
    let more : length (slots ++ new ∷ []) ≡ length slots + 1 = length-append slots (new ∷ []) in
    subst (λ (b : Bool). IsSet slots (cond b (slice_set slots i new) (slots ++ new ∷ [])) i new) (sym ge.0) (record {
      same = last_same slots i new last;
      other = λ j apart. last_other slots i j new last apart;
      long = omega (arith, more);
      within = λ lt. absurd (omega (arith, lt, ge.1));
    })

is_set : (slots : Slots) (i : ℕ) (new : Option UrlPolicy) → i ≤ length slots → IsSet slots (slot_set (i, new) slots) i new
is_set slots i new le = set_by slots i new le (ltb_tells i (length slots))

pub slot_change : (slots : Slots) (i : ℕ) (new : Option UrlPolicy) → i ≤ length slots → IsSlotChange slots (slot_set (i, new) slots) i new
unfolding held_by slot_policy
slot_change slots i new le =
    let set : IsSet slots (slot_set (i, new) slots) i new = is_set slots i new le in
    record { here = ap slot_policy set.same; others = λ j apart. ap slot_policy (set.other j apart) }

pub slot_within : (slots : Slots) (i : ℕ) (new : Option UrlPolicy) → i ≤ length slots → i < length (slot_set (i, new) slots)
slot_within slots i new le = slice_get_within (slot_set (i, new) slots) i new (is_set slots i new le).same

pub slot_count : (slots : Slots) (i : ℕ) (new : Option UrlPolicy) → i ≤ length slots → length slots ≤ 128 → i < 128 → length (slot_set (i, new) slots) ≤ 128
slot_count slots i new le few lt = by (ltb_tells i (length slots))
  where
    by : ((nat_lt i (length slots) ≡ true) × (i < length slots)) ⊎ ((nat_lt i (length slots) ≡ false) × (length slots ≤ i)) → length (slot_set (i, new) slots) ≤ 128
    by (inl below) = omega (arith, (is_set slots i new le).within below.1, few)
    by (inr past) = omega (arith, (is_set slots i new le).long, past.1, le, lt)

-- ---- Looking up a URL

pub there : (slots : Slots) (j : ℕ) (h : UrlPolicy) → held_by slots (Url j) ≡ Some h → slice_get slots j ≡ Some (Some h)
unfolding held_by
there slots j h is = slot_by (slice_get slots j) h is

pub record FoundAt (url : List ℕ) (n : ℕ) (slots : Slots) (h : Holder) : Type 0 where
  pub slot_number : ℕ
  pub owner : h.0 ≡ Url (n + slot_number)
  pub at : slice_get slots slot_number ≡ Some (Some h.1)
  pub has_url : bytes_eq h.1.url url ≡ true

found_by : (url : List ℕ) (n : ℕ) (held : UrlPolicy) (slots : Slots) (h : Holder) → (holder_from url (n + 1) slots ≡ Some h → FoundAt url (n + 1) slots h) → (b : Bool) → bytes_eq held.url url ≡ b → cond b (Some (Url n, held)) (holder_from url (n + 1) slots) ≡ Some h → FoundAt url n (Some held ∷ slots) h
found_by url n held slots h rest true has is =
    let same : (Url n, held) ≡ h = same_Some (Url n, held) h is in
    let here : n ≡ n + 0 = omega arith in
    record {
      slot_number = 0;
      owner = sym (ap (λ (x : Holder). x.0) same) ∙ ap Url here;
      at = ap (λ (x : Holder). Some (Some x.1)) same;
      has_url = ap (λ (x : Holder). bytes_eq x.1.url url) (sym same) ∙ has;
    }
found_by url n held slots h rest false has is = further url n (Some held) slots h (rest is)
  where
    further : (url : List ℕ) (n : ℕ) (slot : Option UrlPolicy) (slots : Slots) (h : Holder) → FoundAt url (n + 1) slots h → FoundAt url n (slot ∷ slots) h
    further url n slot slots h found =
        let next : n + 1 + found.slot_number ≡ n + suc found.slot_number = omega arith in
        record { slot_number = suc found.slot_number; owner = found.owner ∙ ap Url next; at = found.at; has_url = found.has_url }

pub found_at : (url : List ℕ) (n : ℕ) (slots : Slots) (h : Holder) → holder_from url n slots ≡ Some h → FoundAt url n slots h
unfolding holder_from in_slot
found_at url n [] h is = absurd (none-some h is)
found_at url n (None ∷ slots) h is =
    let found : FoundAt url (n + 1) slots h = found_at url (n + 1) slots h is in
    let next : n + 1 + found.slot_number ≡ n + suc found.slot_number = omega arith in
    record { slot_number = suc found.slot_number; owner = found.owner ∙ ap Url next; at = found.at; has_url = found.has_url }
found_at url n (Some held ∷ slots) h is = found_by url n held slots h (found_at url (n + 1) slots h) (bytes_eq held.url url) refl is

none_by : (url : List ℕ) (n : ℕ) (held : UrlPolicy) (slots : Slots) → (holder_from url (n + 1) slots ≡ None → (j : ℕ) (h : UrlPolicy) → slice_get slots j ≡ Some (Some h) → bytes_eq h.url url ≡ false)
    → (b : Bool) → bytes_eq held.url url ≡ b → cond b (Some (Url n, held)) (holder_from url (n + 1) slots) ≡ None → (j : ℕ) (h : UrlPolicy) → slice_get (Some held ∷ slots) j ≡ Some (Some h) → bytes_eq h.url url ≡ false
none_by url n held slots rest true has is j h at = absurd (none-some (Url n, held) (sym is))
none_by url n held slots rest false has is zero h at = ap (λ (x : UrlPolicy). bytes_eq x.url url) (sym (same_Some held h (same_Some (Some held) (Some h) at))) ∙ has
none_by url n held slots rest false has is (suc j) h at = rest is j h at

pub none_at : (url : List ℕ) (n : ℕ) (slots : Slots) → holder_from url n slots ≡ None → (j : ℕ) (h : UrlPolicy) → slice_get slots j ≡ Some (Some h) → bytes_eq h.url url ≡ false
unfolding holder_from in_slot
none_at url n [] is j h at = absurd (none-some (Some h) at)
none_at url n (None ∷ slots) is zero h at = absurd (none-some h (same_Some None (Some h) at))
none_at url n (None ∷ slots) is (suc j) h at = none_at url (n + 1) slots is j h at
none_at url n (Some held ∷ slots) is j h at = none_by url n held slots (none_at url (n + 1) slots) (bytes_eq held.url url) refl is j h at

pub Url_same : (m n : ℕ) → Url m ≡ Url n → m ≡ n
Url_same m n e = cc

unique_by : (url : List ℕ) (slots : Slots) (j : ℕ) (h : UrlPolicy) → UrlsApart slots → held_by slots (Url j) ≡ Some h → bytes_eq h.url url ≡ true → (o : Option Holder) → holder_from url 0 slots ≡ o → o ≡ Some (Url j, h)
unique_by url slots j h apart holds has None is = absurd (false≢true (sym (none_at url 0 slots is j h (there slots j h holds)) ∙ has))
unique_by url slots j h apart holds has (Some g) is =
    let found : FoundAt url 0 slots g = found_at url 0 slots g is in
    let from_zero : 0 + found.slot_number ≡ found.slot_number = omega arith in
    let held' : held_by slots (Url found.slot_number) ≡ Some g.1 = slot_holds slots found.slot_number g.1 found.at in
    let urls : g.1.url ≡ h.url = same_sort_key_exact g.1.url url found.has_url ∙ sym (same_sort_key_exact h.url url has) in
    let slot_number : found.slot_number ≡ j = apart found.slot_number j g.1 h held' holds urls in
    let same : g.1 ≡ h = same_Some g.1 h (sym held' ∙ ap (λ (k : ℕ). held_by slots (Url k)) slot_number ∙ holds) in
    ap Some (λ i. ((found.owner ∙ ap Url (from_zero ∙ slot_number)) i, same i))

-- the one slot with the URL is found
pub unique : (url : List ℕ) (slots : Slots) (j : ℕ) (h : UrlPolicy) → UrlsApart slots → held_by slots (Url j) ≡ Some h → bytes_eq h.url url ≡ true → holder_from url 0 slots ≡ Some (Url j, h)
unique url slots j h apart holds has = unique_by url slots j h apart holds has (holder_from url 0 slots) refl

-- ---- The slot for a URL

pub slot_found : (url : List ℕ) (slots : Slots) (n : ℕ) (h : UrlPolicy) → length slots ≤ 128 → UrlsApart slots → holder_from url 0 slots ≡ Some (Url n, h) → IsSlotFor url slots n
slot_found url slots n h few apart is =
    let found : FoundAt url 0 slots (Url n, h) = found_at url 0 slots (Url n, h) is in
    let from_zero : 0 + found.slot_number ≡ found.slot_number = omega arith in
    let slot_number : found.slot_number ≡ n = sym (Url_same n found.slot_number (found.owner ∙ ap Url from_zero)) in
    let at : slice_get slots n ≡ Some (Some h) = ap (slice_get slots) (sym slot_number) ∙ found.at in
    let lt : n < length slots = slice_get_within slots n (Some h) at in
    record {
      within = omega arith;
      own = λ g holds. ap (λ (x : UrlPolicy). bytes_eq x.url url) (same_Some g h (sym holds ∙ slot_holds slots n h at)) ∙ found.has_url;
      only = λ j g holds has. apart j n g h holds (slot_holds slots n h at) (same_sort_key_exact g.url url has ∙ sym (same_sort_key_exact h.url url found.has_url));
      few = λ _. omega (arith, lt, few);
    }

all_others : (url : List ℕ) (slots : Slots) → ((j : ℕ) (slot : Option UrlPolicy) → slice_get slots j ≡ Some slot → is_other url slot ≡ true) → length (filter (is_other url) slots) ≡ length slots
all_others url [] each = refl
all_others url (slot ∷ slots) each =
    ap (λ (b : Bool). length (cond b (slot ∷ filter (is_other url) slots) (filter (is_other url) slots))) (each 0 slot refl)
    ∙ ap suc (all_others url slots (λ j x at. each (suc j) x at))

other_slot : (url : List ℕ) (slots : Slots) → holder_from url 0 slots ≡ None → (slot : Option UrlPolicy) (j : ℕ) → slice_get slots j ≡ Some slot → is_some slot ≡ true → is_other url slot ≡ true
unfolding is_other
other_slot url slots none None j at some = absurd (false≢true some)
other_slot url slots none (Some held) j at some = ap not (none_at url 0 slots none j held at)

pub slot_free : (url : List ℕ) (slots : Slots) (i : ℕ) → length slots ≤ 128 → holder_from url 0 slots ≡ None → i ≤ length slots → ((h : UrlPolicy) → slice_get slots i ≡ Some (Some h) → Some h ≡ None)
    → ((j : ℕ) (slot : Option UrlPolicy) → j < i → slice_get slots j ≡ Some slot → is_some slot ≡ true) → IsSlotFor url slots i
unfolding others_held
slot_free url slots i few none le free full = record {
  within = le;
  own = λ h holds. absurd (none-some h (sym (free h (there slots i h holds))));
  only = λ j h holds has. absurd (false≢true (sym (none_at url 0 slots none j h (there slots j h holds)) ∙ has));
  few = λ others. count others (ltb_tells i (length slots));
}
  where
    count : length (filter (is_other url) slots) < 128 → ((nat_lt i (length slots) ≡ true) × (i < length slots)) ⊎ ((nat_lt i (length slots) ≡ false) × (length slots ≤ i)) → i < 128
    count others (inl lt) = omega (arith, lt.1, few)
    count others (inr past) = omega (arith, past.1, le, others, all_others url slots (λ j slot at. other_slot url slots none slot j at (full j slot (omega (arith, past.1, slice_get_within slots j slot at)) at)))

-- ---- Other URLs than that of a slot

abbrev Tells : ℕ → ℕ → Type 0
Tells j i = ((nat_eq j i ≡ true) × (j ≡ i)) ⊎ ((nat_eq j i ≡ false) × (j ≢ i))

-- whether this is a policy of the URL
abbrev pub is_own : List ℕ → Option UrlPolicy → Bool
is_own url None = false
is_own url (Some held) = bytes_eq held.url url

module _ (slots slots' : Slots) (i : ℕ) (new : Option UrlPolicy) (change : IsSlotChange slots slots' i new) (apart : UrlsApart slots') (u : List ℕ) where
  -- what is found in the changed slot is what was put there
  found_new : (g : Holder) (found : FoundAt u 0 slots' g) → found.slot_number ≡ i → is_own u new ≡ true
  found_new g found at =
      ap (is_own u) (sym change.here ∙ ap (λ (m : ℕ). held_by slots' (Url m)) (sym at) ∙ slot_holds slots' found.slot_number g.1 found.at) ∙ found.has_url

  -- what is found elsewhere was there
  found_old : (g : Holder) (found : FoundAt u 0 slots' g) → found.slot_number ≢ i → held_by slots (Url found.slot_number) ≡ Some g.1
  found_old g found off = sym (change.others found.slot_number off) ∙ slot_holds slots' found.slot_number g.1 found.at

  module _ (not_new : is_own u new ≡ false) where
    module _ (not_old : is_own u (held_by slots (Url i)) ≡ false) where
      stays_at : (g : Holder) (found : FoundAt u 0 slots g) → Tells found.slot_number i → holder_from u 0 slots' ≡ Some g
      stays_at g found (inl at) =
          let holds : held_by slots (Url i) ≡ Some g.1 = ap (λ (m : ℕ). held_by slots (Url m)) (sym at.1) ∙ slot_holds slots found.slot_number g.1 found.at in
          absurd (false≢true (sym not_old ∙ ap (is_own u) holds ∙ found.has_url))
      stays_at g found (inr off) =
          let from_zero : found.slot_number ≡ 0 + found.slot_number = omega arith in
          unique u slots' found.slot_number g.1 apart (change.others found.slot_number off.1 ∙ slot_holds slots found.slot_number g.1 found.at) found.has_url
          ∙ ap Some (λ j. ((ap Url from_zero ∙ sym found.owner) j, g.1))

      not_come : holder_from u 0 slots ≡ None → (g : Holder) (found : FoundAt u 0 slots' g) → Tells found.slot_number i → ⊥
      not_come none g found (inl at) = false≢true (sym not_new ∙ found_new g found at.1)
      not_come none g found (inr off) = false≢true (sym (none_at u 0 slots none found.slot_number g.1 (there slots found.slot_number g.1 (found_old g found off.1))) ∙ found.has_url)

      stays_by : (o w : Option Holder) → holder_from u 0 slots ≡ o → holder_from u 0 slots' ≡ w → w ≡ o
      stays_by None None is is' = refl
      stays_by None (Some g) is is' = let found : FoundAt u 0 slots' g = found_at u 0 slots' g is' in absurd (not_come is g found (eqb_tells found.slot_number i))
      stays_by (Some g) w is is' = let found : FoundAt u 0 slots g = found_at u 0 slots g is in sym is' ∙ stays_at g found (eqb_tells found.slot_number i)

    -- where the policy that goes and the one that comes are of other URLs, the same is found
    pub holder_stays : is_own u (held_by slots (Url i)) ≡ false → holder_from u 0 slots' ≡ holder_from u 0 slots
    holder_stays not_old = stays_by not_old (holder_from u 0 slots) (holder_from u 0 slots') refl refl

    module _ (apart_before : UrlsApart slots) (h : UrlPolicy) (held : held_by slots (Url i) ≡ Some h) (own : bytes_eq h.url u ≡ true) where
      not_left : (g : Holder) (found : FoundAt u 0 slots' g) → Tells found.slot_number i → ⊥
      not_left g found (inl at) = false≢true (sym not_new ∙ found_new g found at.1)
      not_left g found (inr off) =
          off.1 (apart_before found.slot_number i g.1 h (found_old g found off.1) held (same_sort_key_exact g.1.url u found.has_url ∙ sym (same_sort_key_exact h.url u own)))

      gone_by : (o : Option Holder) → holder_from u 0 slots' ≡ o → o ≡ None
      gone_by None is = refl
      gone_by (Some g) is = let found : FoundAt u 0 slots' g = found_at u 0 slots' g is in absurd (not_left g found (eqb_tells found.slot_number i))

      -- where the policy that goes is of the URL and the one that comes isn't, none is found
      pub holder_gone : holder_from u 0 slots' ≡ None
      holder_gone = gone_by (holder_from u 0 slots') refl

-- ---- After the change

held_url : (url : List ℕ) (policy : Option Policy) (h : UrlPolicy) → held_for url policy ≡ Some h → h.url ≡ url
unfolding held_for
held_url url None h is = absurd (none-some h is)
held_url url (Some p) h is = ap (λ (x : UrlPolicy). x.url) (sym (same_Some (url_policy url p) h is))

no_policy : (url : List ℕ) (h : UrlPolicy) → held_for url None ≡ Some h → ⊥
unfolding held_for
no_policy url h is = none-some h is

some_policy : (url : List ℕ) (p : Policy) → held_for url (Some p) ≡ Some (url_policy url p)
unfolding held_for
some_policy url p = refl

module _ (url : List ℕ) (policy : Option Policy) (slots : Slots) (i : ℕ) (slots' : Slots) (slot_number : IsSlotFor url slots i) (change : IsSlotChange slots slots' i (held_for url policy)) (apart : UrlsApart slots) where
  new_url : (j : ℕ) (h : UrlPolicy) → j ≡ i → held_by slots' (Url j) ≡ Some h → h.url ≡ url
  new_url j h at holds = held_url url policy h (sym change.here ∙ ap (λ (m : ℕ). held_by slots' (Url m)) (sym at) ∙ holds)

  not_elsewhere : (j : ℕ) (h : UrlPolicy) → j ≢ i → held_by slots' (Url j) ≡ Some h → h.url ≡ url → ⊥
  not_elsewhere j h off holds has = off (slot_number.only j h (sym (change.others j off) ∙ holds) (ap (λ (u : List ℕ). bytes_eq u url) has ∙ same_sort_key_itself url))

  apart_by : (j k : ℕ) (h g : UrlPolicy) → held_by slots' (Url j) ≡ Some h → held_by slots' (Url k) ≡ Some g → h.url ≡ g.url → Tells j i → Tells k i → j ≡ k
  apart_by j k h g holds holds' urls (inl at) (inl at') = at.1 ∙ sym at'.1
  apart_by j k h g holds holds' urls (inl at) (inr off') = absurd (not_elsewhere k g off'.1 holds' (sym urls ∙ new_url j h at.1 holds))
  apart_by j k h g holds holds' urls (inr off) (inl at') = absurd (not_elsewhere j h off.1 holds (urls ∙ new_url k g at'.1 holds'))
  apart_by j k h g holds holds' urls (inr off) (inr off') = apart j k h g (sym (change.others j off.1) ∙ holds) (sym (change.others k off'.1) ∙ holds') urls

  pub apart_after : UrlsApart slots'
  apart_after j k h g holds holds' urls = apart_by j k h g holds holds' urls (eqb_tells j i) (eqb_tells k i)

  here_some : (p : Policy) → policy ≡ Some p → holder_from url 0 slots' ≡ Some (Url i, url_policy url p)
  here_some p is = unique url slots' i (url_policy url p) apart_after (change.here ∙ ap (held_for url) is ∙ some_policy url p) (same_sort_key_itself url)

  none_here : policy ≡ None → (g : Holder) (found : FoundAt url 0 slots' g) → Tells found.slot_number i → ⊥
  none_here none g found (inl at) = no_policy url g.1 (ap (held_for url) (sym none) ∙ sym change.here ∙ ap (λ (m : ℕ). held_by slots' (Url m)) (sym at.1) ∙ slot_holds slots' found.slot_number g.1 found.at)
  none_here none g found (inr off) = not_elsewhere found.slot_number g.1 off.1 (slot_holds slots' found.slot_number g.1 found.at) (same_sort_key_exact g.1.url url found.has_url)

  here_none : policy ≡ None → (o : Option Holder) → holder_from url 0 slots' ≡ o → o ≡ None
  here_none none None is = refl
  here_none none (Some g) is = let found : FoundAt url 0 slots' g = found_at url 0 slots' g is in absurd (none_here none g found (eqb_tells found.slot_number i))

  here_by : (o : Option Policy) → policy ≡ o → policy_held slots' url ≡ o
  unfolding policy_held
  here_by None is = ap (option_map holder_policy) (here_none is (holder_from url 0 slots') refl)
  here_by (Some p) is = ap (option_map holder_policy) (here_some p is)

  pub policy_here : policy_held slots' url ≡ policy
  policy_here = here_by policy refl

  -- ---- Other URLs

  module _ (u : List ℕ) (other : bytes_eq url u ≡ false) where
    other_there : (o : Option UrlPolicy) → ((h : UrlPolicy) → o ≡ Some h → h.url ≡ url) → is_own u o ≡ false
    other_there None own = refl
    other_there (Some h) own = ap (λ (x : List ℕ). bytes_eq x u) (own h refl) ∙ other

    holder_same : holder_from u 0 slots' ≡ holder_from u 0 slots
    holder_same =
        holder_stays slots slots' i (held_for url policy) change apart_after u
        (other_there (held_for url policy) (held_url url policy))
        (other_there (held_by slots (Url i)) (λ h is. same_sort_key_exact h.url url (slot_number.own h is)))

    pub policy_same : policy_held slots' u ≡ policy_held slots u
    unfolding policy_held
    policy_same = ap (option_map holder_policy) holder_same

    slot_same : slot_held slots' u ≡ slot_held slots u
    unfolding slot_held
    slot_same = ap (option_map holder_owner) holder_same

  -- ---- Slots

  own_slot_by : (owner : Owner) (o : Option Holder) → holder_from url 0 slots ≡ o → option_map holder_owner o ≡ Some owner → owner ≡ Url i
  own_slot_by owner None is at = absurd (none-some owner at)
  own_slot_by owner (Some g) is at =
      let found : FoundAt url 0 slots g = found_at url 0 slots g is in
      let from_zero : 0 + found.slot_number ≡ found.slot_number = omega arith in
      sym (same_Some g.0 owner at) ∙ found.owner ∙ ap Url (from_zero ∙ slot_number.only found.slot_number g.1 (slot_holds slots found.slot_number g.1 found.at) found.has_url)

  pub slot_is : (owner : Owner) → slot_held slots url ≡ Some owner → owner ≡ Url i
  unfolding slot_held
  slot_is owner at = own_slot_by owner (holder_from url 0 slots) refl at

  own_slot : (owner : Owner) → slot_held slots url ≡ Some owner → (o : Option Policy) → policy ≡ o → is_some (policy_held slots' url) ≡ true → slot_held slots' url ≡ Some owner
  unfolding slot_held
  own_slot owner at None is some = absurd (false≢true (ap (λ (x : Option Policy). is_some x) (sym (here_by None is)) ∙ some))
  own_slot owner at (Some p) is some = ap (option_map holder_owner) (here_some p is) ∙ ap Some (sym (slot_is owner at))

  slots_by : (u : List ℕ) (owner : Owner) → slot_held slots u ≡ Some owner → is_some (policy_held slots' u) ≡ true → (b : Bool) → bytes_eq url u ≡ b → slot_held slots' u ≡ Some owner
  slots_by u owner at some false other = slot_same u other ∙ at
  slots_by u owner at some true same =
      let is : url ≡ u = same_sort_key_exact url u same in
      subst (λ (v : List ℕ). slot_held slots' v ≡ Some owner) is
      (own_slot owner (ap (slot_held slots) is ∙ at) policy refl (ap (λ (v : List ℕ). is_some (policy_held slots' v)) is ∙ some))

  pub slots_kept : (u : List ℕ) (owner : Owner) → slot_held slots u ≡ Some owner → is_some (policy_held slots' u) ≡ true → slot_held slots' u ≡ Some owner
  slots_kept u owner at some = slots_by u owner at some (bytes_eq url u) refl

-- ---- The rows of the slot

none_kept : {R : Type 0} (xs : List R) → AllByRecursion (λ x. ⊥) xs → xs ≡ []
none_kept [] none = refl
none_kept (x ∷ xs) none = absurd none.0

url_owner_by : (i : ℕ) (o : Owner) → (nat_eq 1 (owner_class o) && (nat_eq i (owner_number o) && true)) ≡ true → o ≡ Url i
unfolding owner_class owner_number
url_owner_by i (Url m) e = ap Url (sym (eqb-true i m (and_parts (nat_eq i m) true (and_parts (nat_eq 1 1) _ e).1).0))
url_owner_by i Default e = absurd (false≢true e)

owner_is : (i : ℕ) (r : Row) → is_under row_sort_key (owner_sort_key (Url i)) r ≡ true → r.owner ≡ Url i
unfolding row_sort_key sort_key_at peer_sort_key side_sort_key owner_sort_key owner_class owner_number
owner_is i r under = url_owner_by i r.owner under

no_expiry : (slots : Slots) (bindings : List Binding) (i : ℕ) → held_by slots (Url i) ≡ None → (r : Row) → r.owner ≡ Url i → expiry_for slots bindings r ≡ None
unfolding expiry_for expiry_at
no_expiry slots bindings i none r own = ap (option_and_then (held_expiry bindings r.side r.addr r.entry)) (ap (held_by slots) own ∙ none)

free_rows : (slots : Slots) (bindings : List Binding) (i : ℕ) → held_by slots (Url i) ≡ None → owner_rows (Url i) (rows_of slots bindings) ≡ []
unfolding owner_rows
free_rows slots bindings i none =
    none_kept (filter (is_under row_sort_key (owner_sort_key (Url i))) (rows_of slots bindings))
    (all_kept (is_under row_sort_key (owner_sort_key (Url i))) (λ r. row_at row_sort_key (row_sort_key r) (rows_of slots bindings) ≡ Some r) (λ r. ⊥)
    (λ r under at. none-some r.until (sym (no_expiry slots bindings i none r (owner_is i r under)) ∙ expiry_was slots bindings r at))
    (rows_of slots bindings) (each_there row_sort_key (rows_of slots bindings) (ascend-rows_of slots bindings)))

free_here : (url : List ℕ) (slots : Slots) (i : ℕ) → IsSlotFor url slots i → holder_from url 0 slots ≡ None → (o : Option UrlPolicy) → held_by slots (Url i) ≡ o → o ≡ None
free_here url slots i slot_number none None is = refl
free_here url slots i slot_number none (Some h) is = absurd (false≢true (sym (none_at url 0 slots none i h (there slots i h is)) ∙ slot_number.own h is))

rows_by : (url : List ℕ) (policy : Option Policy) (slots : Slots) (bindings : List Binding) (i : ℕ) → IsSlotFor url slots i → (o : Option Holder) → holder_from url 0 slots ≡ o → length (owner_rows (Url i) (rows_of slots bindings)) ≡ length (rows_of_owner (option_map holder_owner o) (rows_of slots bindings))
unfolding rows_of_owner
rows_by url policy slots bindings i slot_number None is = ap (λ (rs : List Row). length rs) (free_rows slots bindings i (free_here url slots i slot_number is (held_by slots (Url i)) refl))
rows_by url policy slots bindings i slot_number (Some g) is =
    let found : FoundAt url 0 slots g = found_at url 0 slots g is in
    let from_zero : 0 + found.slot_number ≡ found.slot_number = omega arith in
    ap (λ (o : Owner). length (owner_rows o (rows_of slots bindings))) (sym (found.owner ∙ ap Url (from_zero ∙ slot_number.only found.slot_number g.1 (slot_holds slots found.slot_number g.1 found.at) found.has_url)))

pub rows_of_slot : (url : List ℕ) (slots : Slots) (bindings : List Binding) (i : ℕ) → IsSlotFor url slots i → length (owner_rows (Url i) (rows_of slots bindings)) ≡ length (rows_of_owner (slot_held slots url) (rows_of slots bindings))
unfolding slot_held
rows_of_slot url slots bindings i slot_number = rows_by url None slots bindings i slot_number (holder_from url 0 slots) refl

-- ---- The sort keys of new rows are as many whoever owns them

first_count : (bindings : List Binding) (o o' : Owner) (side : Direction) (n : ℕ) (keys : List MemberKey) → length (first_key_touches bindings o side n keys) ≡ length (first_key_touches bindings o' side n keys)
unfolding first_key_touches
first_count bindings o o' side n [] = refl
first_count bindings o o' side n (key ∷ keys) = length-map (bindings_of_key key bindings) (bound_key o side n) ∙ sym (length-map (bindings_of_key key bindings) (bound_key o' side n))

side_count : (bindings : List Binding) (o o' : Owner) (held : UrlPolicy) (side : Direction) (es : List (ℕ × Entry)) → length (flat_map (entry_touches bindings o held side) es) ≡ length (flat_map (entry_touches bindings o' held side) es)
unfolding entry_touches
side_count bindings o o' held side [] = refl
side_count bindings o o' held side (e ∷ es) =
    length-append (entry_touches bindings o held side e) (flat_map (entry_touches bindings o held side) es)
    ∙ (λ i. first_count bindings o o' side e.0 (member_keys held.url e.1) i + side_count bindings o o' held side es i)
    ∙ sym (length-append (entry_touches bindings o' held side e) (flat_map (entry_touches bindings o' held side) es))

pub touch_count : (bindings : List Binding) (o o' : Owner) (held : Option UrlPolicy) → length (new_touches bindings o held) ≡ length (new_touches bindings o' held)
unfolding new_touches side_policy_touches
touch_count bindings o o' None = refl
touch_count bindings o o' (Some held) =
    length-append (side_policy_touches bindings o held From) (side_policy_touches bindings o held To)
    ∙ (λ i. side_count bindings o o' held From (numbered 1 (entries_of From held.policy)) i + side_count bindings o o' held To (numbered 1 (entries_of To held.policy)) i)
    ∙ sym (length-append (side_policy_touches bindings o' held From) (side_policy_touches bindings o' held To))

-- ---- The whole plan

pub policy_plan : (url : List ℕ) (policy : Option Policy) (slots : Slots) (bindings : KeptBindings) (rows : Buckets) (room url_slot_room i : ℕ) (held : Option UrlPolicy) (edits : List (Edit Row)) (none : List (Edit Binding))
    → IsSlotFor url slots i → length slots ≤ 128 → UrlsApart slots → others_held url slots < 128 → held ≡ held_for url policy → none ≡ []
    → ((new : Slots) → IsSlotChange slots new i held → IsPatch slots bindings.rows new bindings.rows edits)
    → HasRoom edits rows.room → i < length slots + room → 1 ≤ url_slot_room
    → IsPolicyPlan url policy (compiled_state slots bindings rows room url_slot_room) (record { rows = edits; bindings = none; slot = Some (i, held) })
unfolding slots_after slots_with bindings_after edited
policy_plan url policy slots bindings rows room url_slot_room i held edits none slot_number few apart others held_is none_is patch row_room slot_room one_more =
    let change : IsSlotChange slots (slot_set (i, held) slots) i held = slot_change slots i held slot_number.within in
    let change' : IsSlotChange slots (slot_set (i, held) slots) i (held_for url policy) = subst (λ (x : Option UrlPolicy). IsSlotChange slots (slot_set (i, held) slots) i x) held_is change in
    let after : Slots = slot_set (i, held) slots in
    let empty : edited binding_sort_key none bindings.rows ≡ bindings.rows = ap (λ (es : List (Edit Binding)). edited binding_sort_key es bindings.rows) none_is in
    record {
      fits = record {
        patch = subst (λ (bs : List Binding). IsPatch slots bindings.rows after bs edits) (sym empty) (patch after change);
        found = subst (λ (es : List (Edit Binding)). AreFoundByKey bindings.rows es) (sym none_is) tt;
        few = slot_count slots i held slot_number.within few (slot_number.few others);
        apart = apart_after url policy slots i after slot_number change' apart;
        row_room = row_room;
        binding_room = subst (λ (es : List (Edit Binding)). HasRoomByKey es bindings.room) (sym none_is) (no_edits bindings.room);
        slot_room = (slot_number.within, slot_room);
        url_slot_room = one_more;
      };
      here = policy_here url policy slots i after slot_number change' apart;
      others = λ u other. policy_same url policy slots i after slot_number change' apart u other;
      url_slots = slots_kept url policy slots i after slot_number change' apart;
      bindings = none_is;
    }

-- the steps of the plan
pub policy_most : (url : List ℕ) (policy : Option Policy) (slots : Slots) (bindings : List Binding) (rows : List Row) (i : ℕ) (held : Option UrlPolicy) (start end : ℕ)
    → IsSlotFor url slots i → rows ≡ rows_of slots bindings → held ≡ held_for url policy
    → ((s b k : ℕ) → HaveKeys s slots → PolicyKeys s held → length bindings < 2 ^ b → length rows < 2 ^ k → end ≤ start + length (owner_rows (Url i) rows) + (policy_count held + length (new_touches bindings (Url i) held) + 1) * sort_key_steps s b k)
    → (s b k : ℕ) → HaveKeys s slots → PolicyKeys s (held_for url policy) → length bindings < 2 ^ b → length rows < 2 ^ k → end ≤ start + policy_steps url policy slots bindings rows s b k
unfolding policy_steps
policy_most url policy slots bindings rows i held start end slot_number kept held_is most s b k keys new few fits =
    let spent = most s b k keys (subst (PolicyKeys s) (sym held_is) new) few fits in
    let own : length (owner_rows (Url i) rows) ≡ length (rows_of_owner (slot_held slots url) rows) =
    ap (λ (rs : List Row). length (owner_rows (Url i) rs)) kept ∙ rows_of_slot url slots bindings i slot_number ∙ ap (λ (rs : List Row). length (rows_of_owner (slot_held slots url) rs)) (sym kept) in
    let count : policy_count held + length (new_touches bindings (Url i) held) + 1 ≡ policy_count (held_for url policy) + length (new_touches bindings Default (held_for url policy)) + 1 =
    (λ j. policy_count (held_is j) + length (new_touches bindings (Url i) (held_is j)) + 1) ∙ ap (λ (n : ℕ). policy_count (held_for url policy) + n + 1) (touch_count bindings (Url i) Default (held_for url policy)) in
    subst (λ (n : ℕ). end ≤ start + (length (rows_of_owner (slot_held slots url) rows) + n * sort_key_steps s b k)) count
    (subst (λ (n : ℕ). end ≤ start + (n + (policy_count held + length (new_touches bindings (Url i) held) + 1) * sort_key_steps s b k)) own
    (regroup start end (length (owner_rows (Url i) rows)) ((policy_count held + length (new_touches bindings (Url i) held) + 1) * sort_key_steps s b k) spent))
  where
    regroup : (start end a b : ℕ) → end ≤ start + a + b → end ≤ start + (a + b)
    regroup start end a b h = omega arith

-- what the plan reads
pub policy_least : (url : List ℕ) (policy : Option Policy) (slots : Slots) (bindings : List Binding) (rows : List Row) (i : ℕ) (held : Option UrlPolicy) (start end : ℕ)
    → IsSlotFor url slots i → rows ≡ rows_of slots bindings → held ≡ held_for url policy
    → start + length (owner_rows (Url i) rows) + length (new_touches bindings (Url i) held) ≤ end
    → start + policy_reads url policy slots bindings rows ≤ end
unfolding policy_reads
policy_least url policy slots bindings rows i held start end slot_number kept held_is read =
    let own : length (owner_rows (Url i) rows) ≡ length (rows_of_owner (slot_held slots url) rows) =
    ap (λ (rs : List Row). length (owner_rows (Url i) rs)) kept ∙ rows_of_slot url slots bindings i slot_number ∙ ap (λ (rs : List Row). length (rows_of_owner (slot_held slots url) rs)) (sym kept) in
    let new : length (new_touches bindings (Url i) held) ≡ length (new_touches bindings Default (held_for url policy)) =
    ap (λ (x : Option UrlPolicy). length (new_touches bindings (Url i) x)) held_is ∙ touch_count bindings (Url i) Default (held_for url policy) in
    omega (arith, own, new, read)

-- ---- Slots of other URLs

other_by : (url : List ℕ) (slot : Option UrlPolicy) (slots : Slots) (b : Bool) → length (cond b (slot ∷ filter (is_other url) slots) (filter (is_other url) slots)) ≡ cond b 1 0 + length (filter (is_other url) slots)
other_by url slot slots true = omega arith
other_by url slot slots false = omega arith

pub next_other : (url : List ℕ) (slots : Slots) (i : ℕ) (slot : Option UrlPolicy) → i < length slots → slot ≡ get_or slots i slot → others_held url (drop i slots) ≡ cond (is_other url slot) 1 0 + others_held url (drop (i + 1) slots)
unfolding others_held
next_other url slots i slot lt is =
    ap (λ (xs : Slots). length (filter (is_other url) xs)) (drop-cons slots i slot lt ∙ (λ j. sym is j ∷ drop (next j) slots))
    ∙ other_by url slot (drop (i + 1) slots) (is_other url slot)
  where
    next : suc i ≡ i + 1
    next = omega arith

pub no_other : (url : List ℕ) (slots : Slots) (i count : ℕ) → length slots ≤ i → count + others_held url (drop i slots) ≡ others_held url slots → count ≡ others_held url slots
unfolding others_held
no_other url slots i count past all =
    let none : length (filter (is_other url) (drop i slots)) ≡ 0 = ap (λ (xs : Slots). length (filter (is_other url) xs)) (drop_all i slots past) in
    omega (arith, none, all)
