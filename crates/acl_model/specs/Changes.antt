-- Changes of bindings: those that go and those that come.
use Rattle.std.specs.Prelude.{◌≡◌, ℕ, Bool, not, ◌&&◌, ◌==◌, IsTrue, List, [], ◌∷◌, find, filter, Option}
use Rattle.std.specs.List.{list_any}
use Rattle.std.specs.Option.{option_map}
use Rattle.mud_base.specs.Addresses.{same_addr}
use Rattle.mud_base.specs.declared.addr.Addr.{Addr}
use Rattle.base_rows.specs.Sortable.{set_rows, without_row}
use Rattle.base_rows.specs.Changes.{are_apart}
use Rattle.acl_model.specs.declared.binding.MemberKey.{MemberKey}
use Rattle.acl_model.specs.declared.binding.Binding.{Binding}
use Rattle.acl_model.specs.Keys.{same_key}
use Rattle.acl_model.specs.SortKeys.{binding_sort_key}

-- ---- Bindings that are the same

-- both are of one key and address
unfoldable pub same_spot : Binding → Binding → Bool
same_spot b c = same_key b.key c.key && same_addr b.addr c.addr

-- and both have one expiry
unfoldable pub same_binding : Binding → Binding → Bool
same_binding b c = same_spot b c && b.until == c.until

-- it is among them, with this expiry
unfoldable pub has_binding : Binding → List Binding → Bool
has_binding b bindings = list_any (same_binding b) bindings

-- both have the same bindings, in whatever order
abbrev pub HaveSame : List Binding → List Binding → Type 0
HaveSame xs ys = (b : Binding) → has_binding b xs ≡ has_binding b ys

-- ---- Those that go and those that come

-- those that aren't among the others, in their order
unfoldable pub those_not_in : List Binding → List Binding → List Binding
those_not_in others bindings = filter (λ b. not (has_binding b others)) bindings

-- Those gone are the ones that were and are no more, those that come the ones that are and weren't, and no two of
-- either are of one key and address. A binding whose expiry changes goes with the old expiry and comes with the new
-- one.
pub record IsBindingChange (before after gone come : List Binding) : Type 0 where
  pub went : (b : Binding) → has_binding b gone ≡ (has_binding b before && not (has_binding b after))
  pub came : (b : Binding) → has_binding b come ≡ (has_binding b after && not (has_binding b before))
  pub gone_once : IsTrue (are_apart same_spot gone)
  pub come_once : IsTrue (are_apart same_spot come)

-- ---- Looking up

unfoldable pub is_bound_to : MemberKey → Addr → Binding → Bool
is_bound_to key a b = same_key key b.key && same_addr a b.addr

unfoldable pub until_of : Binding → ℕ
until_of b = b.until

-- the expiry of what lasts for ever: no expiry is greater
abbrev pub for_ever : ℕ
for_ever = 18446744073709551615

-- until when the address is bound to the key
unfoldable pub bound_until : List Binding → MemberKey → Addr → Option ℕ
bound_until bindings key a = option_map until_of (find (is_bound_to key a) bindings)

-- ---- A store of bindings

-- the store without these
unfoldable pub without_bindings : List Binding → List Binding → List Binding
without_bindings [] bindings = bindings
without_bindings (b ∷ gone) bindings = without_bindings gone (without_row binding_sort_key (binding_sort_key b) bindings)

-- the store without the ones, and then with the others put in
unfoldable pub replaced : List Binding → List Binding → List Binding → List Binding
replaced gone come bindings = set_rows binding_sort_key come (without_bindings gone bindings)
