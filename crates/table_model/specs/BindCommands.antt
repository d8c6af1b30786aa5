-- What each command on classes, local networks and names answers, and the list after it; then the same over all three
-- lists. The cases of a step stand in order: the first that holds is the step. A refusal changes nothing.
use Rattle.std.specs.Prelude.{ℕ, ◌+◌, Bool, true, false, not, nat_le, nat_lt, List, [], ◌∷◌, length, find, Option, Some, None, Result, Ok, Err, if◌then◌else◌}
use Rattle.mud_base.specs.declared.addr.Addr.{Addr}
use Rattle.mud_base.specs.declared.prefix.Prefix.{Prefix}
use Rattle.item_codec.specs.declared.word.Word as outcome
use Rattle.item_codec.specs.declared.word.Word.TheVariants.{New, Same, Renewed, Bound, Unbound, Set}
use Rattle.table_model.specs.declared.bind.Class.{Class}
use Rattle.table_model.specs.declared.bind.ClassRow.{ClassRow}
use Rattle.table_model.specs.declared.bind.NameRow.{NameRow}
use Rattle.table_model.specs.declared.bind_fault.BindFault.{BindFault}
use Rattle.table_model.specs.declared.bind_fault.BindFault.TheVariants.{ClassesFull, ClassFull, NotBound, LocalsFull, NamesFull, NameFull}
use Rattle.table_model.specs.Limits.{most}
use Rattle.table_model.specs.Expiries.{Expiries, is_live, expiry_of, with_expiry, live_rows, live_count}
use Rattle.table_model.specs.Binds.{Binds, class_at, set_class, without_class, class_row, has_addr, with_addr, without_addr, prefixes_in_order, same_prefixes, name_at, set_name, without_name, name_row, has_live_row}

-- ---- The operator binds an address to a class (RFC 8520, 4.6 and 4.7)

-- what was done, and the classes after it
pub record ClassesAfter : Type 0 where
  pub word : outcome.Word
  pub classes : List ClassRow

abbrev pub ClassStep : Type 0
ClassStep = Result ClassesAfter BindFault

abbrev pub classes_done : outcome.Word → List ClassRow → ClassStep
classes_done word classes = Ok (record { word = word; classes = classes })

unfoldable pub bind_step : Class → Addr → List ClassRow → ClassStep
bind_step class a classes = bind_cases class a classes (class_at class classes)
  where
    bind_cases : Class → Addr → List ClassRow → Option ClassRow → ClassStep
    bind_cases class a classes None =
        if nat_le most.classes (length classes) then Err ClassesFull
        else classes_done Bound (set_class (class_row class (a ∷ [])) classes)
    bind_cases class a classes (Some row) =
        if has_addr a row.addrs then classes_done Same classes
        else (if nat_le most.class_addresses (length row.addrs) then Err ClassFull
        else classes_done Bound (set_class (class_row class (with_addr a row.addrs)) classes))

-- ---- The operator takes an address out of a class; a class with no address left goes

unfoldable pub unbind_step : Class → Addr → List ClassRow → ClassStep
unbind_step class a classes = unbind_cases class a classes (class_at class classes)
  where
    classes_without : Class → List Addr → List ClassRow → List ClassRow
    classes_without class [] classes = without_class class classes
    classes_without class (a ∷ addrs) classes = set_class (class_row class (a ∷ addrs)) classes

    unbind_cases : Class → Addr → List ClassRow → Option ClassRow → ClassStep
    unbind_cases class a classes None = Err NotBound
    unbind_cases class a classes (Some row) =
        if has_addr a row.addrs then classes_done Unbound (classes_without class (without_addr a row.addrs) classes)
        else Err NotBound

-- ---- The operator names the local networks (RFC 8520, 4.5)

-- what was done, and the local networks after it
pub record LocalsAfter : Type 0 where
  pub word : outcome.Word
  pub locals : List Prefix

abbrev pub LocalStep : Type 0
LocalStep = Result LocalsAfter BindFault

unfoldable pub locals_step : List Prefix → List Prefix → LocalStep
locals_step prefixes locals = locals_cases (prefixes_in_order prefixes) locals
  where
    locals_done : outcome.Word → List Prefix → LocalStep
    locals_done word locals = Ok (record { word = word; locals = locals })

    -- these prefixes are in order, each once
    locals_cases : List Prefix → List Prefix → LocalStep
    locals_cases prefixes locals =
        if nat_lt most.locals (length prefixes) then Err LocalsFull
        else (if same_prefixes prefixes locals then locals_done Same locals
        else locals_done Set prefixes)

-- ---- A name is observed at an address for so many seconds (RFC 8520, 8)

-- what was done, the expiry that is kept, and the names after it
pub record NamesAfter : Type 0 where
  pub word : outcome.Word
  pub until : ℕ
  pub names : List NameRow

abbrev pub NameStep : Type 0
NameStep = Result NamesAfter BindFault

abbrev pub observed : outcome.Word → ℕ → List NameRow → NameStep
observed word until names = Ok (record { word = word; until = until; names = names })

-- the addresses of a name that is kept, or none
unfoldable pub addrs_of : Option NameRow → Expiries
addrs_of None = []
addrs_of (Some row) = row.addrs

-- the least name that has no live address
unfoldable pub least_dead : ℕ → List NameRow → Option NameRow
least_dead now names = find (λ row. not (has_live_row now row)) names

-- a name that isn't kept, and there is no room: it takes the place of the least that has no live address
unfoldable pub replacing : List ℕ → Addr → ℕ → List NameRow → Option NameRow → NameStep
replacing name a until names None = Err NamesFull
replacing name a until names (Some dead) = observed New until (set_name (name_row name ((a, until) ∷ [])) (without_name dead.name names))

-- The pair is new: the addresses of the name whose expiries have come go, and the address is added.
unfoldable pub new_pair : List ℕ → Addr → ℕ → ℕ → List NameRow → Option NameRow → NameStep
new_pair name a until now names None =
    if nat_le most.names (length names) then replacing name a until names (least_dead now names)
    else observed New until (set_name (name_row name ((a, until) ∷ [])) names)
new_pair name a until now names (Some row) =
    if nat_le most.name_addresses (live_count now row.addrs) then Err NameFull
    else observed New until (set_name (name_row name (with_expiry a until (live_rows now row.addrs))) names)

-- The name has the address with a live expiry: the later expiry is kept.
unfoldable pub kept_pair : List ℕ → Addr → ℕ → List NameRow → Option NameRow → ℕ → NameStep
kept_pair name a until names row old =
    if nat_lt old until then observed Renewed until (set_name (name_row name (with_expiry a until (addrs_of row))) names)
    else observed Same old names

unfoldable pub observe_row : List ℕ → Addr → ℕ → ℕ → List NameRow → Option NameRow → NameStep
observe_row name a until now names row = observe_cases name a until now names row (expiry_of a (addrs_of row))
  where
    -- the expiry that is kept for the pair, or none
    observe_cases : List ℕ → Addr → ℕ → ℕ → List NameRow → Option NameRow → Option ℕ → NameStep
    observe_cases name a until now names row None = new_pair name a until now names row
    observe_cases name a until now names row (Some old) =
        if is_live old now then kept_pair name a until names row old
        else new_pair name a until now names row

unfoldable pub observe_step : List ℕ → Addr → ℕ → ℕ → List NameRow → NameStep
observe_step name a ttl now names = observe_row name a (now + ttl) now names (name_at name names)

-- ---- The same commands over the three lists

-- what was done, the expiry that is kept for an address of a name, whether some list is another one than before, and
-- the lists after it
pub record BindsAfter : Type 0 where
  pub word : outcome.Word
  pub until : Option ℕ
  pub changes : Bool
  pub binds : Binds

abbrev pub BindStep : Type 0
BindStep = Result BindsAfter BindFault

-- of what a command on these lists answers, `same` alone leaves them as they were
unfoldable pub is_change : outcome.Word → Bool
is_change Same = false
is_change _ = true

abbrev pub binds_done : outcome.Word → Option ℕ → Binds → BindStep
binds_done word until binds = Ok (record { word = word; until = until; changes = is_change word; binds = binds })

unfoldable pub with_classes : Binds → ClassStep → BindStep
with_classes binds (Ok after) = binds_done after.word None (record binds { classes = after.classes })
with_classes binds (Err fault) = Err fault

unfoldable pub bind_class_step : Class → Addr → Binds → BindStep
bind_class_step class a binds = with_classes binds (bind_step class a binds.classes)

unfoldable pub unbind_class_step : Class → Addr → Binds → BindStep
unbind_class_step class a binds = with_classes binds (unbind_step class a binds.classes)

unfoldable pub set_locals_step : List Prefix → Binds → BindStep
set_locals_step prefixes binds = with_locals binds (locals_step prefixes binds.locals)
  where
    with_locals : Binds → LocalStep → BindStep
    with_locals binds (Ok after) = binds_done after.word None (record binds { locals = after.locals })
    with_locals binds (Err fault) = Err fault

unfoldable pub observe_name_step : List ℕ → Addr → ℕ → ℕ → Binds → BindStep
observe_name_step name a ttl now binds = with_names binds (observe_step name a ttl now binds.names)
  where
    with_names : Binds → NameStep → BindStep
    with_names binds (Ok after) = binds_done after.word (Some after.until) (record binds { names = after.names })
    with_names binds (Err fault) = Err fault
