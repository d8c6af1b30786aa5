-- The rows that a command on classes or names changes, where it isn't refused.
use Rattle.std.specs.Prelude.{ℕ, ◌+◌, nat_le, nat_lt, if◌then◌else◌, List, [], ◌∷◌, length, Option, Some, None}
use Rattle.mud_base.specs.declared.addr.Addr.{Addr}
use Rattle.base_rows.specs.Changes.{RowChange}
use Rattle.table_model.specs.declared.bind.Class.{Class}
use Rattle.table_model.specs.declared.bind.ClassRow.{ClassRow}
use Rattle.table_model.specs.declared.bind.NameRow.{NameRow}
use Rattle.table_model.specs.Limits.{most}
use Rattle.table_model.specs.Expiries.{is_live, expiry_of, with_expiry, live_rows}
use Rattle.table_model.specs.Binds.{key_of_class, class_at, class_row, has_addr, with_addr, without_addr, name_at, name_row}
use Rattle.table_model.specs.BindCommands.{addrs_of, least_dead}

abbrev pub no_rows : {R : Type 0} → RowChange R
no_rows = record { gone = None; sets = [] }

abbrev pub one_row : {R : Type 0} → R → RowChange R
one_row row = record { gone = None; sets = row ∷ [] }

-- ---- Classes

-- the class gets the address, where it hasn't it
unfoldable pub bind_cases_change : Class → Addr → Option ClassRow → RowChange ClassRow
bind_cases_change class a None = one_row (class_row class (a ∷ []))
bind_cases_change class a (Some row) = if has_addr a row.addrs then no_rows else one_row (class_row class (with_addr a row.addrs))

unfoldable pub bind_change : Class → Addr → List ClassRow → RowChange ClassRow
bind_change class a classes = bind_cases_change class a (class_at class classes)

-- the class with these addresses, or the class goes where there are none
unfoldable pub class_left : Class → List Addr → RowChange ClassRow
class_left class [] = record { gone = Some (key_of_class class); sets = [] }
class_left class (a ∷ addrs) = one_row (class_row class (a ∷ addrs))

unfoldable pub unbind_cases_change : Class → Addr → Option ClassRow → RowChange ClassRow
unbind_cases_change class a None = no_rows
unbind_cases_change class a (Some row) = class_left class (without_addr a row.addrs)

unfoldable pub unbind_change : Class → Addr → List ClassRow → RowChange ClassRow
unbind_change class a classes = unbind_cases_change class a (class_at class classes)

-- ---- Names

-- the name takes the place of one that has no live address
unfoldable pub replacing_change : List ℕ → Addr → ℕ → Option NameRow → RowChange NameRow
replacing_change name a until None = no_rows
replacing_change name a until (Some dead) = record { gone = Some dead.name; sets = name_row name ((a, until) ∷ []) ∷ [] }

unfoldable pub new_pair_change : List ℕ → Addr → ℕ → ℕ → List NameRow → Option NameRow → RowChange NameRow
new_pair_change name a until now names None =
    if nat_le most.names (length names) then replacing_change name a until (least_dead now names)
    else one_row (name_row name ((a, until) ∷ []))
new_pair_change name a until now names (Some row) = one_row (name_row name (with_expiry a until (live_rows now row.addrs)))

unfoldable pub kept_pair_change : List ℕ → Addr → ℕ → Option NameRow → ℕ → RowChange NameRow
kept_pair_change name a until row old = if nat_lt old until then one_row (name_row name (with_expiry a until (addrs_of row))) else no_rows

unfoldable pub observe_cases_change : List ℕ → Addr → ℕ → ℕ → List NameRow → Option NameRow → Option ℕ → RowChange NameRow
observe_cases_change name a until now names row None = new_pair_change name a until now names row
observe_cases_change name a until now names row (Some old) =
    if is_live old now then kept_pair_change name a until row old
    else new_pair_change name a until now names row

unfoldable pub observe_row_change : List ℕ → Addr → ℕ → ℕ → List NameRow → Option NameRow → RowChange NameRow
observe_row_change name a until now names row = observe_cases_change name a until now names row (expiry_of a (addrs_of row))

unfoldable pub observe_change : List ℕ → Addr → ℕ → ℕ → List NameRow → RowChange NameRow
observe_change name a ttl now names = observe_row_change name a (now + ttl) now names (name_at name names)
