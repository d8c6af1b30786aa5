-- The slots of URLs: what is found by them, and how they follow the table of policies.
use Rattle.std.proofs.Common.{◌≡◌, ℕ, ◌<◌, ◌≤◌, Bool, true, false, cond, inl, inr, List, length, reverse, get_or, Option, Some, None, refl, sym, ap, subst, ◌∙◌, arith}
use Rattle.std.specs.Prelude.{◌≢◌, ◌+◌, slice_index}
use Rattle.std.specs.Option.{option_map}
use Rattle.std.specs.Cmp.{both_ways}
use Rattle.std.proofs.lemmas.Bool.{false≢true, cases_eq, cases_lt}
use Rattle.std.proofs.lemmas.List.{reverse-reverse}
use Rattle.std.proofs.lemmas.Option.{same_Some, none-some, slice_get_past, slice_get_read}
use Rattle.base_rows.specs.Sortable.{SortKeysAscend, same_sort_key, row_at}
use Rattle.base_rows.proofs.SortableLaws.{row_at-set_row, row_at-without_row, same_sort_key_exact, same_sort_key_itself}
use Rattle.acl_model.specs.Policies.{UrlPolicy}
use Rattle.acl_rows.specs.declared.row.Owner.TheVariants.{Url}
use Rattle.acl_rows.specs.Rows.{Slots, Holder, held_by, slot_policy}
use Rattle.acl_rows.specs.View.{holder_from}
use Rattle.acl_changes.specs.PolicyTouched.{IsSlotChange}
use Rattle.acl_compile.specs.Compiled.{UrlsApart}
use Rattle.acl_compile.specs.Plans.{holder_owner, slot_held}
use Rattle.acl_compile.specs.UrlSlots.{UrlAndSlot, url_of, owner_of, guess_number, guess_at, HasOwnGuess, AreGuessed, AreSlotsOf, url_slots_without, url_slots_with}
use Rattle.acl_compile.proofs.SlotLaws.{FoundAt, found_at, unique, is_own, holder_stays, holder_gone, Url_same}
use Rattle.acl_changes.proofs.Loops.{slot_holds}

-- ---- Finding

-- in this slot the policy of the URL is held
pub record IsHeldAt (slots : Slots) (url : List ℕ) (slot_number : ℕ) : Type 0 where
  pub held : UrlPolicy
  pub found : holder_from url 0 slots ≡ Some (Url slot_number, held)
  pub there : held_by slots (Url slot_number) ≡ Some held

held_by_owner : (slots : Slots) (url : List ℕ) (slot_number : ℕ) (o : Option Holder) → holder_from url 0 slots ≡ o → option_map holder_owner o ≡ Some (Url slot_number) → IsHeldAt slots url slot_number
held_by_owner slots url slot_number None is at = absurd (none-some (Url slot_number) at)
held_by_owner slots url slot_number (Some g) is at =
    let found : FoundAt url 0 slots g = found_at url 0 slots g is in
    let from_zero : 0 + found.slot_number ≡ found.slot_number = omega arith in
    let own : g.0 ≡ Url slot_number = same_Some g.0 (Url slot_number) at in
    let here : found.slot_number ≡ slot_number = Url_same found.slot_number slot_number (sym (found.owner ∙ ap Url from_zero) ∙ own) in
    record {
      held = g.1;
      found = is ∙ ap Some (λ i. (own i, g.1));
      there = ap (λ (j : ℕ). held_by slots (Url j)) (sym here) ∙ slot_holds slots found.slot_number g.1 found.at;
    }

not_held : (o : Option Holder) → option_map holder_owner o ≡ None → o ≡ None
not_held None at = refl
not_held (Some g) at = absurd (none-some g.0 (sym at))

module _ (slots : Slots) (url_slots : List UrlAndSlot) (are : AreSlotsOf slots url_slots) (url : List ℕ) where
  -- where the URL has no slot, no policy of it is held
  pub held_nowhere : row_at url_of (reverse url) url_slots ≡ None → holder_from url 0 slots ≡ None
  unfolding slot_held
  held_nowhere none = not_held (holder_from url 0 slots) (sym (are url) ∙ ap (option_map owner_of) none)

  -- where it has one, its policy is held there
  pub held_at : (p : UrlAndSlot) → row_at url_of (reverse url) url_slots ≡ Some p → IsHeldAt slots url p.slot_number
  unfolding slot_held
  held_at p has = held_by_owner slots url p.slot_number (holder_from url 0 slots) refl (sym (are url) ∙ ap (option_map owner_of) has)

-- ---- Keeping the slots up

-- texts that are read from behind are the same where they are
same_turned : (p q : List ℕ) → same_sort_key (reverse p) (reverse q) ≡ same_sort_key p q
same_turned p q =
    both_ways (same_sort_key (reverse p) (reverse q)) (same_sort_key p q)
    (λ same. subst (λ (z : List ℕ). same_sort_key p z ≡ true) (sym (reverse-reverse p) ∙ ap reverse (same_sort_key_exact (reverse p) (reverse q) same) ∙ reverse-reverse q) (same_sort_key_itself p))
    (λ same. subst (λ (z : List ℕ). same_sort_key (reverse p) (reverse z) ≡ true) (same_sort_key_exact p q same) (same_sort_key_itself (reverse p)))

mapped : (b : Bool) (x y : Option UrlAndSlot) → option_map owner_of (cond b x y) ≡ cond b (option_map owner_of x) (option_map owner_of y)
mapped true x y = refl
mapped false x y = refl

found_without : (gone : Option UrlPolicy) (url_slots : List UrlAndSlot) (url : List ℕ) → SortKeysAscend url_of url_slots → row_at url_of (reverse url) (url_slots_without gone url_slots) ≡ cond (is_own url gone) None (row_at url_of (reverse url) url_slots)
unfolding url_slots_without
found_without None url_slots url ascend = refl
found_without (Some gone) url_slots url ascend =
    row_at-without_row url_of (reverse gone.url) url_slots (reverse url) ascend
    ∙ ap (λ b. cond b None (row_at url_of (reverse url) url_slots)) (same_turned gone.url url)

found_with : (slot_number : ℕ) (come : Option UrlPolicy) (url_slots : List UrlAndSlot) (url : List ℕ)
    → option_map owner_of (row_at url_of (reverse url) (url_slots_with slot_number come url_slots)) ≡ cond (is_own url come) (Some (Url slot_number)) (option_map owner_of (row_at url_of (reverse url) url_slots))
unfolding url_slots_with url_of
found_with slot_number None url_slots url = refl
found_with slot_number (Some come) url_slots url =
    let row : UrlAndSlot = record { url = come.url; slot_number = slot_number } in
    ap (option_map owner_of) (row_at-set_row url_of row url_slots (reverse url) ∙ ap (λ b. cond b (Some row) (row_at url_of (reverse url) url_slots)) (same_turned come.url url))
    ∙ mapped (is_own url (Some come)) (Some row) (row_at url_of (reverse url) url_slots)

module _ (slots slots' : Slots) (i : ℕ) (new : Option UrlPolicy) (change : IsSlotChange slots slots' i new) (apart : UrlsApart slots) (apart' : UrlsApart slots') (url_slots : List UrlAndSlot) (ascend : SortKeysAscend url_of url_slots) (are : AreSlotsOf slots url_slots) where
  come_by : (url : List ℕ) (o : Option UrlPolicy) → new ≡ o → is_own url o ≡ true → slot_held slots' url ≡ Some (Url i)
  unfolding slot_held
  come_by url None is own = absurd (false≢true own)
  come_by url (Some h) is own = ap (option_map holder_owner) (unique url slots' i h apart' (change.here ∙ is) own)

  gone_by : (url : List ℕ) → is_own url new ≡ false → (o : Option UrlPolicy) → held_by slots (Url i) ≡ o → is_own url o ≡ true → slot_held slots' url ≡ None
  unfolding slot_held
  gone_by url not_new None is own = absurd (false≢true own)
  gone_by url not_new (Some h) is own = ap (option_map holder_owner) (holder_gone slots slots' i new change apart' url not_new apart h is own)

  stays : (url : List ℕ) → is_own url new ≡ false → is_own url (held_by slots (Url i)) ≡ false → slot_held slots' url ≡ slot_held slots url
  unfolding slot_held
  stays url not_new not_old = ap (option_map holder_owner) (holder_stays slots slots' i new change apart' url not_new not_old)

  after_by : (url : List ℕ) (b c : Bool) → is_own url new ≡ b → is_own url (held_by slots (Url i)) ≡ c → cond b (Some (Url i)) (cond c None (slot_held slots url)) ≡ slot_held slots' url
  after_by url true c own _ = sym (come_by url new refl own)
  after_by url false true not_new own = sym (gone_by url not_new (held_by slots (Url i)) refl own)
  after_by url false false not_new not_old = sym (stays url not_new not_old)

  -- the slots without that of the policy which goes, and with that of the one which comes
  pub kept_up : AreSlotsOf slots' (url_slots_with i new (url_slots_without (held_by slots (Url i)) url_slots))
  kept_up url =
      found_with i new (url_slots_without (held_by slots (Url i)) url_slots) url
      ∙ ap (λ (x : Option UrlAndSlot). cond (is_own url new) (Some (Url i)) (option_map owner_of x)) (found_without (held_by slots (Url i)) url_slots url ascend)
      ∙ ap (cond (is_own url new) (Some (Url i))) (mapped (is_own url (held_by slots (Url i))) None (row_at url_of (reverse url) url_slots) ∙ ap (cond (is_own url (held_by slots (Url i))) None) (are url))
      ∙ after_by url (is_own url new) (is_own url (held_by slots (Url i))) refl refl

-- ---- Guesses

-- the first slots are guessed for their URLs
abbrev pub AreGuessedTo : ℕ → Slots → List ℕ → Type 0
AreGuessedTo n slots guesses = (i : ℕ) (held : UrlPolicy) → i < n → held_by slots (Url i) ≡ Some held → HasOwnGuess slots i held.url → guess_at guesses held.url ≡ i

held_within : (slots : Slots) (i : ℕ) (held : UrlPolicy) → held_by slots (Url i) ≡ Some held → i < length slots
unfolding held_by slot_policy
held_within slots i held is = elim (cases_lt i (length slots)) [
  | inl within ↦ within
  | inr past ↦ absurd (none-some held (sym (ap slot_policy (slice_get_past slots i past)) ∙ is))
]

-- a slot that is gone through
pub at_slot : (slots : Slots) (k : ℕ) (slot : Option UrlPolicy) → k < length slots → slot ≡ get_or slots k slot → held_by slots (Url k) ≡ slot
unfolding held_by slot_policy
at_slot slots k slot lt is = ap slot_policy (slice_get_read slots (length slots) k slot refl lt is)

pub all_guessed : (n : ℕ) (slots : Slots) (guesses : List ℕ) → length slots ≤ n → AreGuessedTo n slots guesses → AreGuessed slots guesses
all_guessed n slots guesses past are i held is own = are i held (omega (arith, held_within slots i held is)) is own

module _ (k : ℕ) (slots : Slots) (guesses : List ℕ) (are : AreGuessedTo k slots guesses) where
  pub none_guessed : held_by slots (Url k) ≡ None → AreGuessedTo (k + 1) slots guesses
  none_guessed none i held lt is own = elim (cases_eq i k) [
    | inl same ↦ absurd (none-some held (sym none ∙ ap (λ (j : ℕ). held_by slots (Url j)) (sym same) ∙ is))
    | inr apart ↦ are i held (omega arith) is own
  ]

  module _ (new : UrlPolicy) (there : held_by slots (Url k) ≡ Some new) (guesses' : List ℕ) (guessed : guess_at guesses' new.url ≡ k) (others : (n : ℕ) → n ≢ guess_number new.url → slice_index guesses' n ≡ slice_index guesses n) where
    pub one_guessed : AreGuessedTo (k + 1) slots guesses'
    unfolding guess_at
    one_guessed i held lt is own = elim (cases_eq i k) [
      | inl same ↦ (
          let new_is : held ≡ new = same_Some held new (sym is ∙ ap (λ (j : ℕ). held_by slots (Url j)) same ∙ there) in
          ap (λ (h : UrlPolicy). slice_index guesses' (guess_number h.url)) new_is ∙ guessed ∙ sym same)
      | inr apart ↦ others (guess_number held.url) (λ shared. apart (sym (own k new there (sym shared)))) ∙ are i held (omega arith) is own
    ]
