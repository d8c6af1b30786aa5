-- Members that may not stand in an object.
use Rattle.std.specs.Prelude.{ℕ, Bool, List, [], Option, Some, None, is_some, unwrap_or, option_and_then, bytes_eq, if◌then◌else◌}
use Rattle.std.specs.List.{list_any}
use Rattle.serde_json.specs.Data.{Data, Members, no_members, member}
use Rattle.serde_json.specs.Find.{as_object}
use Rattle.usage_walk.specs.declared.fault.Rule.TheVariants.{UnknownMatch}
use Rattle.usage_walk.specs.declared.row.Row.{Row}
use Rattle.usage_walk.specs.Members.{name_of}
use Rattle.mud_base.specs.Readings.{refused_where}
use Rattle.usage_walk.specs.Reading.{Reading, under_name, fault_at}

-- whether a row of the table has a member of this name
unfoldable pub is_among : {H : Type 0} → List (Row H) → List ℕ → Bool
is_among rows name = list_any (λ r. bytes_eq (name_of r.member) name) rows

abbrev pub first_unknown : {H : Type 0} → List (Row H) → Data → Option (List ℕ)
first_unknown rows d = option_and_then (first_other rows) (as_object d)
  where
    -- the first member, in the order of their names by octets, that has no row. A JSON object has each name
    -- once, in that order.
    first_other : {H : Type 0} → List (Row H) → Members → Option (List ℕ)
    first_other rows no_members = None
    first_other rows (member name d ms) = if is_among rows name then first_other rows ms else Some name

-- no member stands in an object inside `matches` but those of the table's rows
unfoldable pub all_known : {H : Type 0} → List ℕ → List (Row H) → Data → Reading (Unit {0})
all_known path rows d = refused_where (is_some (first_unknown rows d)) (fault_at UnknownMatch (under_name path (unwrap_or (first_unknown rows d) [])))
