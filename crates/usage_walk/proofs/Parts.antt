-- Parts of definitions that lemmas speak of.
use Rattle.std.specs.Prelude.{ℕ, List, [], ◌∷◌, None, Option, Some, if◌then◌else◌, Bool, ◌==◌}
use Rattle.usage_walk.specs.Named.{Element, is_named}
use Rattle.usage_walk.specs.declared.member.Member.TheVariants.{Name}
use Rattle.usage_walk.specs.Reading.{Reading, fault_at, under}
use Rattle.usage_walk.specs.declared.fault.Rule.TheVariants.{RepeatedName}
use Rattle.mud_base.specs.Readings.{refused_where}
use Rattle.serde_json.specs.Data.{Data, Items, item, Members, member, no_items, no_members}
use Rattle.usage_walk.specs.declared.row.Row.{Row}
use Rattle.usage_walk.specs.Others.{is_among}
use Rattle.usage_walk.specs.Kinds.{is_null, is_only_null, list_in}
use Rattle.std.specs.Option.{option_map_or}

abbrev pub new_name : List ℕ → List ℕ → List Element → Reading (Unit {0})
new_name path name before = refused_where (is_named name before) (fault_at RepeatedName (under path Name))

abbrev pub items_list : Items → List Data
items_list no_items = []
items_list (item d ds) = d ∷ items_list ds

abbrev pub first_other : {H : Type 0} → List (Row H) → Members → Option (List ℕ)
first_other rows no_members = None
first_other rows (member name d ms) = if is_among rows name then first_other rows ms else Some name

abbrev pub is_empty_leaf : Data → Bool
is_empty_leaf d = option_map_or is_only_null (list_in d) (is_null d)

abbrev pub escape : ℕ → List ℕ
escape c = if c == 126 then (126 ∷ 48 ∷ []) else (if c == 47 then (126 ∷ 49 ∷ []) else (c ∷ []))
