-- Keys, by their kinds and texts.
use Rattle.std.specs.Prelude.{ℕ, List, ◌++◌}
use Rattle.mud_base.specs.declared.addr.Addr.{Addr}
use Rattle.base_rows.specs.Addresses.{addr_sort_key}
use Rattle.acl_model.specs.SortKeys.{text_sort_key}

-- the sort key of the binding of a kind of key, a text and an address
abbrev pub sort_key_of_text : ℕ → List ℕ → Addr → List ℕ
sort_key_of_text kind text a = text_sort_key kind text ++ addr_sort_key a
