-- Plans: what a change edits, and what it makes of what is kept.
use Rattle.std.specs.Prelude.{◌≡◌, ℕ, ◌+◌, ◌*◌, ◌<◌, ◌≤◌, Bool, true, false, not, bytes_eq, List, [], ◌∷◌, ◌++◌, length, filter, Option, Some, None, is_some, option_map, if◌then◌else◌, nat_lt, slice_set}
use Rattle.acl_model.specs.declared.binding.Binding.{Binding}
use Rattle.acl_model.specs.declared.entry.Policy.{Policy}
use Rattle.acl_model.specs.SortKeys.{binding_sort_key}
use Rattle.acl_model.specs.Changes.{replaced}
use Rattle.acl_model.specs.Policies.{UrlPolicy, url_policy}
use Rattle.base_rows.specs.declared.edit.Edit.{Edit}
use Rattle.base_rows.specs.Edits.{edited}
use Rattle.acl_rows.specs.declared.row.Owner.{Owner}
use Rattle.acl_rows.specs.declared.row.Row.{Row}
use Rattle.acl_rows.specs.declared.row.Owner.TheVariants.{Url, Default}
use Rattle.acl_rows.specs.Rows.{Slots, Holder, held_by}
use Rattle.acl_rows.specs.View.{holder_from, holder_policy}
use Rattle.acl_changes.specs.Patch.{IsPatch}
use Rattle.acl_changes.specs.PolicyTouched.{owner_rows, new_touches}
use Rattle.acl_buckets.specs.RowBuckets.{HasRoom}
use Rattle.acl_buckets.specs.BindingBuckets.{AreFoundByKey, HasRoomByKey}
use Rattle.acl_changes.specs.Fresh.{policy_count}
use Rattle.acl_changes.specs.Policies.{HasCounts}
use Rattle.acl_changes.specs.Steps.{sort_key_steps}
use Rattle.acl_compile.specs.Compiled.{CompiledState, UrlsApart}

-- ---- Plans

-- a slot of the table of policies, and what is to stand there
abbrev pub SlotChange : Type 0
SlotChange = ℕ × Option UrlPolicy

-- the edits of rows and of bindings, and the change of the table
pub record Plan : Type 0 where
  pub rows : List (Edit Row)
  pub bindings : List (Edit Binding)
  pub slot : Option SlotChange

-- the table with this in the slot; behind the last slot one is added
unfoldable pub slot_set : SlotChange → Slots → Slots
slot_set s slots = if nat_lt s.0 (length slots) then slice_set slots s.0 s.1 else slots ++ s.1 ∷ []

unfoldable pub slots_with : Option SlotChange → Slots → Slots
slots_with None slots = slots
slots_with (Some s) slots = slot_set s slots

-- ---- What a plan makes of what is kept

unfoldable pub slots_after : Plan → CompiledState → Slots
slots_after plan c = slots_with plan.slot c.slots

unfoldable pub bindings_after : Plan → CompiledState → List Binding
bindings_after plan c = edited binding_sort_key plan.bindings c.bindings

-- the slot is one of the table's, or the one behind the last, for which there is room
abbrev pub HasSlot : Option SlotChange → ℕ → ℕ → Type 0
HasSlot None url_slots room = Unit {0}
HasSlot (Some s) url_slots room = (s.0 ≤ url_slots) × (s.0 < url_slots + room)

-- there is room for the slot of one more URL
abbrev pub HasUrlSlot : Option SlotChange → ℕ → Type 0
HasUrlSlot None room = Unit {0}
HasUrlSlot (Some s) room = 1 ≤ room

-- the plan was made for just this, and there is room for what it adds
pub record Fits (plan : Plan) (c : CompiledState) : Type 0 where
  pub patch : IsPatch c.slots c.bindings (slots_after plan c) (bindings_after plan c) plan.rows
  pub found : AreFoundByKey c.bindings plan.bindings
  pub few : length (slots_after plan c) ≤ 128
  pub apart : UrlsApart (slots_after plan c)
  pub row_room : HasRoom plan.rows c.row_room
  pub binding_room : HasRoomByKey plan.bindings c.binding_room
  pub slot_room : HasSlot plan.slot (length c.slots) c.slot_room
  pub url_slot_room : HasUrlSlot plan.slot c.url_slot_room

-- the policies, bindings and rows are the same; there may be more room
pub record IsKept (old new : CompiledState) : Type 0 where
  pub slots : new.slots ≡ old.slots
  pub bindings : new.bindings ≡ old.bindings
  pub rows : new.rows ≡ old.rows

-- by the plan these bindings go and those come
pub record IsMemberPlan (gone come : List Binding) (c : CompiledState) (plan : Plan) : Type 0 where
  pub fits : Fits plan c
  pub slots : slots_after plan c ≡ c.slots
  pub bindings : bindings_after plan c ≡ replaced gone come c.bindings
  pub few : length plan.bindings ≤ length gone + length come

-- ---- A plan of a policy

abbrev pub holder_owner : Holder → Owner
holder_owner h = h.0

-- the policy that is held for a URL, and the slot in which it is
unfoldable pub policy_held : Slots → List ℕ → Option Policy
policy_held slots url = option_map holder_policy (holder_from url 0 slots)

unfoldable pub slot_held : Slots → List ℕ → Option Owner
slot_held slots url = option_map holder_owner (holder_from url 0 slots)

-- the policy with its URL, where there is one
unfoldable pub held_for : List ℕ → Option Policy → Option UrlPolicy
held_for url policy = option_map (url_policy url) policy

-- the rows of the policy that is held for a URL
unfoldable pub rows_of_owner : Option Owner → List Row → List Row
rows_of_owner None rows = []
rows_of_owner (Some owner) rows = owner_rows owner rows

-- how many slots have a policy of another URL
unfoldable pub is_other : List ℕ → Option UrlPolicy → Bool
is_other url None = false
is_other url (Some held) = not (bytes_eq held.url url)

unfoldable pub others_held : List ℕ → Slots → ℕ
others_held url slots = length (filter (is_other url) slots)

-- each list of the policy can be counted
abbrev pub CanBeCounted : Option Policy → Type 0
CanBeCounted None = Unit {0}
CanBeCounted (Some policy) = HasCounts policy

-- By the plan this policy is held for the URL, or none, and all else stays. A policy keeps its slot.
pub record IsPolicyPlan (url : List ℕ) (policy : Option Policy) (c : CompiledState) (plan : Plan) : Type 0 where
  pub fits : Fits plan c
  pub here : policy_held (slots_after plan c) url ≡ policy
  pub others : (u : List ℕ) → bytes_eq url u ≡ false → policy_held (slots_after plan c) u ≡ policy_held c.slots u
  pub url_slots : (u : List ℕ) (owner : Owner) → slot_held c.slots u ≡ Some owner → is_some (policy_held (slots_after plan c) u) ≡ true → slot_held (slots_after plan c) u ≡ Some owner
  pub bindings : plan.bindings ≡ []

-- the slot in which a policy of the URL is held; or else one in which none is, the first of those behind the others
pub record IsSlotFor (url : List ℕ) (slots : Slots) (i : ℕ) : Type 0 where
  pub within : i ≤ length slots
  pub own : (h : UrlPolicy) → held_by slots (Url i) ≡ Some h → bytes_eq h.url url ≡ true
  pub only : (j : ℕ) (h : UrlPolicy) → held_by slots (Url j) ≡ Some h → bytes_eq h.url url ≡ true → j ≡ i
  pub few : others_held url slots < 128 → i < 128

-- The steps of a plan of a policy: the rows of the URL, and for each membered entry of the new policy one sort key, for each
-- binding of its first key one more, and one beside them.
unfoldable pub policy_steps : List ℕ → Option Policy → Slots → List Binding → List Row → ℕ → ℕ → ℕ → ℕ
policy_steps url policy slots bindings rows s b k =
    length (rows_of_owner (slot_held slots url) rows)
    + (policy_count (held_for url policy) + length (new_touches bindings Default (held_for url policy)) + 1) * sort_key_steps s b k

-- the rows of the URL, and the bindings of the first key of each membered entry of the new policy
unfoldable pub policy_reads : List ℕ → Option Policy → Slots → List Binding → List Row → ℕ
policy_reads url policy slots bindings rows = length (rows_of_owner (slot_held slots url) rows) + length (new_touches bindings Default (held_for url policy))
