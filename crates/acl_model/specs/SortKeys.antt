-- The sort keys in whose order bindings are kept: by the kind of the key, the length of its text, the text, and the address.
-- The length stands before the text, so that what is kept under one text is not under a longer one that begins with it.
use Rattle.std.specs.Prelude.{ℕ, List, ◌∷◌, ◌++◌, length}
use Rattle.mud_base.specs.declared.addr.Addr.{Addr}
use Rattle.base_rows.specs.Addresses.{addr_sort_key}
use Rattle.acl_model.specs.declared.binding.MemberKey.{MemberKey}
use Rattle.acl_model.specs.declared.binding.MemberKey.TheVariants as of_key
use Rattle.acl_model.specs.declared.binding.Binding.{Binding}

-- ---- Keys

unfoldable pub key_kind : MemberKey → ℕ
key_kind (of_key.Host host) = 1
key_kind (of_key.Model url) = 2
key_kind (of_key.Class uri) = 3
key_kind (of_key.Mine url) = 4
key_kind (of_key.Name name) = 5

unfoldable pub key_text : MemberKey → List ℕ
key_text (of_key.Host host) = host
key_text (of_key.Model url) = url
key_text (of_key.Class uri) = uri
key_text (of_key.Mine url) = url
key_text (of_key.Name name) = name

-- the beginning of the sort keys of one kind of key and one text
unfoldable pub text_sort_key : ℕ → List ℕ → List ℕ
text_sort_key kind text = kind ∷ (length text ∷ text)

-- the beginning of the sort keys of one key
unfoldable pub member_sort_key : MemberKey → List ℕ
member_sort_key key = text_sort_key (key_kind key) (key_text key)

-- ---- Bindings

-- the sort key of the binding of a key and an address
unfoldable pub bound_sort_key : MemberKey → Addr → List ℕ
bound_sort_key key a = member_sort_key key ++ addr_sort_key a

unfoldable pub binding_sort_key : Binding → List ℕ
binding_sort_key b = bound_sort_key b.key b.addr
