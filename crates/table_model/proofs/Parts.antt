-- Parts of definitions that lemmas speak of.
use Rattle.std.specs.Prelude.{ℕ, List, map, Option, Err, Some, [], length, nat_le, ◌∷◌, if◌then◌else◌, Ok, nat_lt, None, Bool, true, ◌&&◌, ◌-◌, ◌++◌, bytes_eq, ◌==◌, ◌||◌, ◌^◌, slice_index_or, ◌%◌, false}
use Rattle.table_model.specs.declared.bind.ClassRow.{ClassRow}
use Rattle.mud_world.specs.declared.item.Item.{Item}
use Rattle.table_model.specs.BindItems.{class_item, name_item, are_locals}
use Rattle.table_model.specs.declared.bind.NameRow.{NameRow}
use Rattle.mud_base.specs.declared.addr.Mac.{Mac}
use Rattle.table_model.specs.declared.thing.Thing.{Thing}
use Rattle.table_model.specs.Things.{thing_at, holds, is_sound_thing, without_thing}
use Rattle.table_model.specs.declared.segment.Segment.{Segment}
use Rattle.mud_base.specs.declared.addr.Addr.{Addr}
use Rattle.item_codec.specs.declared.word.Word.TheVariants.{Bound, Same, Unbound, Set, Removed}
use Rattle.table_model.specs.declared.bind.Class.{Class}
use Rattle.table_model.specs.declared.bind_fault.BindFault.TheVariants.{ClassFull, ClassesFull, NotBound, LocalsFull}
use Rattle.table_model.specs.BindCommands.{ClassStep, classes_done, LocalStep, NameStep, kept_pair, new_pair, BindStep, binds_done}
use Rattle.table_model.specs.Binds.{class_row, has_addr, set_class, with_addr, without_class, without_addr, same_prefixes, Binds, is_sound_class, is_sound_name, key_of_class}
use Rattle.table_model.specs.Limits.{most}
use Rattle.mud_base.specs.declared.prefix.Prefix.{Prefix}
use Rattle.item_codec.specs.declared.word.Word as outcome
use Rattle.table_model.specs.Expiries.{is_live, has_live, Expiries, are_ascending, have_expiries}
use Rattle.mud_base.specs.declared.packet.Transport.{Transport}
use Rattle.mud_base.specs.declared.packet.Transport.TheVariants as packet
use Rattle.std.specs.List.{list_any}
use Rattle.table_model.specs.History.{opens, Endpoint, resets}
use Rattle.base_rows.specs.Addresses.{addr_sort_key}
use Rattle.base_rows.specs.Ascending.{sort_keys_ascend}
use Rattle.acl_model.specs.Changes.{for_ever}
use Rattle.table_model.specs.ItemFields.{address}
use Rattle.item_codec.specs.Spelling.{number}
use Rattle.table_model.specs.ThingCommands.{ThingStep, done}
use Rattle.table_model.specs.declared.thing_fault.ThingFault.TheVariants.{NoThing}

abbrev pub class_items : List ClassRow → List Item
class_items classes = map class_item classes

abbrev pub name_items : List NameRow → List Item
name_items names = map name_item names

abbrev pub source_thing : Mac → List Thing → Option Thing
source_thing mac things = thing_at mac things

abbrev pub moment_of : Segment → ℕ
moment_of p = p.at

abbrev pub bind_cases : Class → Addr → List ClassRow → Option ClassRow → ClassStep
bind_cases class a classes None =
    if nat_le most.classes (length classes) then Err ClassesFull
    else classes_done Bound (set_class (class_row class (a ∷ [])) classes)
bind_cases class a classes (Some row) =
    if has_addr a row.addrs then classes_done Same classes
    else (if nat_le most.class_addresses (length row.addrs) then Err ClassFull
    else classes_done Bound (set_class (class_row class (with_addr a row.addrs)) classes))

abbrev pub classes_without : Class → List Addr → List ClassRow → List ClassRow
classes_without class [] classes = without_class class classes
classes_without class (a ∷ addrs) classes = set_class (class_row class (a ∷ addrs)) classes

abbrev pub unbind_cases : Class → Addr → List ClassRow → Option ClassRow → ClassStep
unbind_cases class a classes None = Err NotBound
unbind_cases class a classes (Some row) =
    if has_addr a row.addrs then classes_done Unbound (classes_without class (without_addr a row.addrs) classes)
    else Err NotBound

abbrev pub locals_done : outcome.Word → List Prefix → LocalStep
locals_done word locals = Ok (record { word = word; locals = locals })

abbrev pub locals_cases : List Prefix → List Prefix → LocalStep
locals_cases prefixes locals =
    if nat_lt most.locals (length prefixes) then Err LocalsFull
    else (if same_prefixes prefixes locals then locals_done Same locals
    else locals_done Set prefixes)

abbrev pub observe_cases : List ℕ → Addr → ℕ → ℕ → List NameRow → Option NameRow → Option ℕ → NameStep
observe_cases name a until now names row None = new_pair name a until now names row
observe_cases name a until now names row (Some old) =
    if is_live old now then kept_pair name a until names row old
    else new_pair name a until now names row

abbrev pub with_locals : Binds → LocalStep → BindStep
with_locals binds (Ok after) = binds_done after.word None (record binds { locals = after.locals })
with_locals binds (Err fault) = Err fault

abbrev pub with_names : Binds → NameStep → BindStep
with_names binds (Ok after) = binds_done after.word (Some after.until) (record binds { names = after.names })
with_names binds (Err fault) = Err fault

abbrev pub if_sound_class : ClassRow → Option ClassRow
if_sound_class row = if is_sound_class row then Some row else None

abbrev pub if_sound_locals : List Prefix → Option (List Prefix)
if_sound_locals locals = if are_locals locals then Some locals else None

abbrev pub if_sound_name : NameRow → Option NameRow
if_sound_name row = if is_sound_name row then Some row else None

abbrev pub if_moment : ℕ → Option ℕ
if_moment moment = if nat_le moment 253402300799 then Some moment else None

abbrev pub segment_in : Addr → Addr → ℕ → Transport → Option Segment
segment_in src dst now (packet.Tcp from to flags) = Some (record { source = (src, from); destination = (dst, to); flags = flags; at = now })
segment_in src dst now (packet.Udp from to) = None
segment_in src dst now (packet.Icmp kind code) = None
segment_in src dst now packet.Absent = None

abbrev pub since_opened : List Segment → List Segment
since_opened [] = []
since_opened (p ∷ ps) = if list_any opens ps then since_opened ps else (if opens p then p ∷ ps else [])

abbrev pub is_unbroken : ℕ → List ℕ → Bool
is_unbroken m [] = true
is_unbroken m (n ∷ ns) = nat_le (n - m) most.pause && is_unbroken n ns

abbrev pub beginner_since : List Segment → ℕ → Option Endpoint
beginner_since [] now = None
beginner_since (p ∷ ps) now =
    if list_any resets ps then None
    else (if is_unbroken p.at (map (λ (p : Segment). p.at) ps ++ now ∷ []) then Some p.source else None)

abbrev pub has_lease : Addr → ℕ → Thing → Bool
has_lease a now thing = has_live a now thing.leases

abbrev pub are_addrs : List Addr → Bool
are_addrs addrs = sort_keys_ascend addr_sort_key addrs

abbrev pub same_class : Class → Class → Bool
same_class c d = bytes_eq (key_of_class c) (key_of_class d)

abbrev pub is_expiry : ℕ → Bool
is_expiry until = until == for_ever || nat_lt until (2 ^ 40)

abbrev pub network : Prefix → List ℕ
network prefix = address prefix.addr ++ number 1 prefix.len

abbrev pub is_group : Mac → Bool
is_group mac = slice_index_or mac.0 0 0 % 2 == 1

abbrev pub is_taken : List Thing → Thing → Bool
is_taken things thing = list_any (λ r. list_any (holds r.0) things) thing.leases

abbrev pub if_sound_thing : Thing → Option Thing
if_sound_thing thing = if is_sound_thing thing then Some thing else None

abbrev pub are_leases : Expiries → Bool
are_leases rows = are_ascending rows && have_expiries rows && nat_le (length rows) most.leases

abbrev pub left_until : ℕ → List Thing → ThingStep
left_until until things = Ok (record { word = Same; until = Some until; changes = false; things = things })

abbrev pub remove_cases : Mac → List Thing → Option Thing → ThingStep
remove_cases mac things None = Err NoThing
remove_cases mac things (Some thing) = done Removed (without_thing mac things)
