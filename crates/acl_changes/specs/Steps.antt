-- The steps of what a change touches.
use Rattle.std.specs.Prelude.{◌≡◌, ℕ, ◌+◌, ◌*◌, ◌≤◌, min, ◌&&◌, List, [], ◌∷◌, length, sum_by, Option, Some, None, is_some, if◌then◌else◌}
use Rattle.mud_base.specs.declared.addr.Addr.{Addr}
use Rattle.mud_base.specs.declared.packet.Direction.{Direction}
use Rattle.acl_model.specs.declared.binding.MemberKey.{MemberKey}
use Rattle.acl_model.specs.declared.binding.Binding.{Binding}
use Rattle.acl_model.specs.declared.entry.Entry.{Entry}
use Rattle.acl_model.specs.Keys.{is_membered}
use Rattle.acl_model.specs.Match.{is_in_family}
use Rattle.acl_model.specs.SortKeys.{key_kind, key_text, text_sort_key, binding_sort_key}
use Rattle.acl_model.specs.Changes.{bound_until}
use Rattle.acl_model.specs.FirstMatch.{entries_of}
use Rattle.acl_model.specs.Policies.{UrlPolicy}
use Rattle.acl_rows.specs.declared.row.Owner.{Owner}
use Rattle.acl_rows.specs.declared.row.Row.{Row}
use Rattle.acl_rows.specs.declared.row.RowKey.{RowKey}
use Rattle.acl_rows.specs.Rows.{Slots, Holder, member_keys, entry_at}
use Rattle.acl_rows.specs.ByAddress.{rows_of_peer}
use Rattle.acl_buckets.specs.BindingBuckets.{bindings_of_key}
use Rattle.base_rows.specs.Sortable.{row_at, rows_under}
use Rattle.base_rows.specs.Edits.{edit_sort_key}
use Rattle.acl_changes.specs.Keys.{sort_key_of_text}
use Rattle.acl_changes.specs.Change.{ChangeState, after}
use Rattle.acl_changes.specs.Policies.{AllHeld}

-- the steps of a key, and none where there is none
unfoldable pub key_steps : ℕ → Option MemberKey → ℕ
key_steps b None = 0
key_steps b (Some key) = b

-- each entry's keys and one row fit a number of steps
abbrev pub EntriesFit : List ℕ → List Entry → ℕ → ℕ → ℕ → Type 0
EntriesFit url entries b k u = (n : ℕ) (entry : Entry) → entry_at n entries ≡ Some entry → length (member_keys url entry) * b + k ≤ u

-- the same of both sides of a holder
abbrev pub HolderFits : Holder → ℕ → ℕ → ℕ → Type 0
HolderFits h b k u = (side : Direction) → EntriesFit h.1.url (entries_of side h.1.policy) b k u

-- no entry has more member selectors than this
abbrev pub HolderKeys : ℕ → Holder → Type 0
HolderKeys s h = (side : Direction) (n : ℕ) (entry : Entry) → entry_at n (entries_of side h.1.policy) ≡ Some entry → length (member_keys h.1.url entry) ≤ s

abbrev pub HaveKeys : ℕ → Slots → Type 0
HaveKeys s slots = AllHeld slots (HolderKeys s)

-- the same of the policy that is to come, where there is one
abbrev pub PolicyKeys : ℕ → Option UrlPolicy → Type 0
PolicyKeys s None = Unit {0}
PolicyKeys s (Some held) = (owner : Owner) → HolderKeys s (owner, held)

-- the steps of one sort key that is touched, where no entry has more than `s` member selectors, and the bindings and the rows
-- can be counted with `b` and `k` binary digits
abbrev pub sort_key_steps : ℕ → ℕ → ℕ → ℕ
sort_key_steps s b k = (s + 1) * (b + k + 2)

-- the least number of steps in which a sort key is looked for among the rows of its owner, side and address: none where there
-- are none
unfoldable pub least_step : List Row → RowKey → ℕ
least_step rows key = min 1 (length (rows_of_peer key.owner key.side key.addr rows))

-- the same of these sort keys, together
unfoldable pub least_steps : List Row → List RowKey → ℕ
least_steps rows keys = sum_by (least_step rows) keys

-- the least number of steps in which a binding is looked for among those of its key: none where there are none
unfoldable pub least_look : List Binding → Binding → ℕ
least_look bindings b = min 1 (length (bindings_of_key b.key bindings))

-- the same of these, together
unfoldable pub least_looks : List Binding → List Binding → ℕ
least_looks bindings bs = sum_by (least_look bindings) bs

-- ---- What an entry looks for

-- the least number of steps in which the binding of a key and an address is looked for: none where an edit is of its sort
-- key, or where the key has no bindings
unfoldable pub text_look : ChangeState → ℕ → List ℕ → Addr → ℕ
text_look c kind text a =
    if is_some (row_at (edit_sort_key binding_sort_key) (sort_key_of_text kind text a) c.edits)
    then 0
    else min 1 (length (rows_under binding_sort_key (text_sort_key kind text) c.bindings))

-- the same of a selector's key; a selector with no key asks for none
unfoldable pub key_look : ChangeState → Addr → Option MemberKey → ℕ
key_look c a None = 0
key_look c a (Some key) = text_look c (key_kind key) (key_text key) a

-- the same of these keys, one after the other up to the first that isn't bound to the address after the change
unfoldable pub key_looks : ChangeState → Addr → List MemberKey → ℕ
key_looks c a [] = 0
key_looks c a (key ∷ keys) = key_look c a (Some key) + (if is_some (bound_until (after c) key a) then key_looks c a keys else 0)

-- the same of the keys of an entry, where it has some and is for addresses of this version
unfoldable pub entry_look : ChangeState → List ℕ → Entry → Addr → ℕ
entry_look c url entry a = if is_membered entry && is_in_family entry.family a then key_looks c a (member_keys url entry) else 0
