-- The slots of URLs in the table of policies: a ruling finds the policy of a URL by them.
use Rattle.std.specs.Prelude.{◌≡◌, ℕ, zero, suc, ◌+◌, ◌*◌, ◌%◌, ◌^◌, false, List, bytes_eq, reverse, slice_index, Option, Some, None, option_map}
use Rattle.base_rows.specs.Sortable.{row_at, set_row, without_row}
use Rattle.acl_model.specs.declared.entry.Policy.{Policy}
use Rattle.acl_model.specs.declared.binding.Binding.{Binding}
use Rattle.acl_model.specs.Policies.{UrlPolicy}
use Rattle.acl_rows.specs.declared.row.Owner.{Owner}
use Rattle.acl_rows.specs.declared.row.Owner.TheVariants.{Url}
use Rattle.acl_rows.specs.declared.row.Row.{Row}
use Rattle.acl_rows.specs.Rows.{Slots, held_by}
use Rattle.acl_compile.specs.Compiled.{IsSound}
use Rattle.acl_compile.specs.Plans.{slot_held}

-- a URL and its slot
pub record UrlAndSlot : Type 0 where
  pub url : List ℕ
  pub slot_number : ℕ

-- it stands by the text of its URL, read from behind
unfoldable pub url_of : UrlAndSlot → List ℕ
url_of p = reverse p.url

abbrev pub owner_of : UrlAndSlot → Owner
owner_of p = Url p.slot_number

-- the number that as many octets spell from an index on, the first one most significant. Those behind
-- the end count as zeros
unfoldable pub lead : ℕ → ℕ → List ℕ → ℕ
lead zero k p = 0
lead (suc n) k p = slice_index p k * 256 ^ n + lead n (suc k) p

-- each URL has the slot in which its policy is held, and none where none is
abbrev pub AreSlotsOf : Slots → List UrlAndSlot → Type 0
AreSlotsOf slots url_slots = (url : List ℕ) → option_map owner_of (row_at url_of (reverse url) url_slots) ≡ slot_held slots url

-- which of 1,021 guesses is that of a URL: by the number of its last eight octets
unfoldable pub guess_number : List ℕ → ℕ
guess_number url = lead 8 0 (reverse url) % 1021

-- the slot that is guessed for a URL
unfoldable pub guess_at : List ℕ → List ℕ → ℕ
guess_at guesses url = slice_index guesses (guess_number url)

-- in the slot that is guessed for a URL stands no policy of it
abbrev pub IsMissed : Slots → List ℕ → List ℕ → Type 0
IsMissed slots guesses url = (held : UrlPolicy) → held_by slots (Url (guess_at guesses url)) ≡ Some held → bytes_eq held.url url ≡ false

-- no policy in another slot is of a URL with the same guess as that of this slot
abbrev pub HasOwnGuess : Slots → ℕ → List ℕ → Type 0
HasOwnGuess slots i url = (j : ℕ) (other : UrlPolicy) → held_by slots (Url j) ≡ Some other → guess_number other.url ≡ guess_number url → j ≡ i

-- for a URL whose guess is no other's its slot is guessed
abbrev pub AreGuessed : Slots → List ℕ → Type 0
AreGuessed slots guesses = (i : ℕ) (held : UrlPolicy) → held_by slots (Url i) ≡ Some held → HasOwnGuess slots i held.url → guess_at guesses held.url ≡ i

-- what is compiled is sound, the slots are those of the policies, and they are guessed
pub record IsSoundWithSlots (slots : Slots) (bindings : List Binding) (rows : List Row) (defaults : Policy) (url_slots : List UrlAndSlot) (guesses : List ℕ) : Type 0 where
  pub sound : IsSound slots bindings rows defaults
  pub url_slots_are : AreSlotsOf slots url_slots
  pub guessed : AreGuessed slots guesses

-- the slots without that of a policy which goes
unfoldable pub url_slots_without : Option UrlPolicy → List UrlAndSlot → List UrlAndSlot
url_slots_without None url_slots = url_slots
url_slots_without (Some gone) url_slots = without_row url_of (reverse gone.url) url_slots

-- the slots with that of a policy which comes
unfoldable pub url_slots_with : ℕ → Option UrlPolicy → List UrlAndSlot → List UrlAndSlot
url_slots_with slot_number None url_slots = url_slots
url_slots_with slot_number (Some come) url_slots = set_row url_of (record { url = come.url; slot_number = slot_number }) url_slots
