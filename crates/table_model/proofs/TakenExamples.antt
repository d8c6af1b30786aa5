-- Items in the order of kinds and keys, and in other orders.
use Rattle.std.proofs.Common.{◌≡◌, true, [], ◌∷◌, Option, Some, None, refl}
use Rattle.mud_base.specs.declared.addr.Addr.TheVariants.{V4}
use Rattle.mud_base.specs.declared.prefix.Prefix.{Prefix}
use Rattle.mud_url.proofs.OnLiterals.{url_on_literals}
use Rattle.mud_world.specs.declared.item.Item.{Item}
use Rattle.table_model.specs.declared.bind.Class.TheVariants.{Uri}
use Rattle.table_model.specs.declared.bind.ClassRow.{ClassRow}
use Rattle.table_model.specs.declared.bind.NameRow.{NameRow}
use Rattle.table_model.specs.Binds.{Binds}
use Rattle.table_model.specs.BindItems.{class_item, with_class_item, locals_item, name_item, with_name_item, stamp_item}
use Rattle.table_model.specs.TakenItems.{all_taken, no_binds, bind_items, set_classes, set_locals, set_names, with_bind_item, Kept, have_none, with_item}
use Rattle.table_model.proofs.Literals.{dns_addr, test_addr, dns_class, test_name}
use Rattle.table_model.proofs.ItemExamples.{items_compute}

unfoldable taken_compute : Unit {0}
unfolding items_compute url_on_literals with_class_item with_name_item no_binds bind_items set_classes set_locals set_names with_bind_item have_none with_item
taken_compute = tt

abbrev dns : ClassRow
dns = record { class = Uri dns_class; addrs = dns_addr ∷ [] }

-- 192.0.2.0/24
abbrev office : Prefix
office = record { addr = V4 0xc0000200; len = 24 }

abbrev test : NameRow
test = record { name = test_name; addrs = (test_addr, 1060) ∷ [] }

abbrev all_three : Binds
all_three = record { classes = dns ∷ []; locals = office ∷ []; names = test ∷ [] }

in_order : all_taken with_bind_item no_binds (class_item dns ∷ locals_item (office ∷ []) ∷ name_item test ∷ []) ≡ Some all_three
unfolding taken_compute
in_order = refl

class_behind_name : all_taken with_bind_item no_binds (name_item test ∷ class_item dns ∷ []) ≡ None
unfolding taken_compute
class_behind_name = refl

class_behind_networks : all_taken with_bind_item no_binds (locals_item (office ∷ []) ∷ class_item dns ∷ []) ≡ None
unfolding taken_compute
class_behind_networks = refl

networks_behind_name : all_taken with_bind_item no_binds (name_item test ∷ locals_item (office ∷ []) ∷ []) ≡ None
unfolding taken_compute
networks_behind_name = refl

name_twice : all_taken with_bind_item no_binds (name_item test ∷ name_item test ∷ []) ≡ None
unfolding taken_compute
name_twice = refl

-- ---- Of every kind, with no files

abbrev nothing : Kept (Unit {0})
nothing = record { things = []; files = tt; binds = no_binds; stamp = None }

abbrev no_file : Unit {0} → Item → Option (Unit {0})
no_file files item = None

abbrev kept_of : Kept (Unit {0}) → Item → Option (Kept (Unit {0}))
kept_of kept item = with_item no_file (λ _. true) kept item

stamp_last : all_taken kept_of nothing (name_item test ∷ stamp_item 1000 ∷ []) ≡ Some (record { things = []; files = tt; binds = record { classes = []; locals = []; names = test ∷ [] }; stamp = Some 1000 })
unfolding taken_compute
stamp_last = refl

name_behind_stamp : all_taken kept_of nothing (stamp_item 1000 ∷ name_item test ∷ []) ≡ None
unfolding taken_compute
name_behind_stamp = refl

kind_0 : kept_of nothing (record { kind = 0; key = []; body = [] }) ≡ None
unfolding taken_compute
kind_0 = refl

kind_7 : kept_of nothing (record { kind = 7; key = []; body = [] }) ≡ None
unfolding taken_compute
kind_7 = refl
