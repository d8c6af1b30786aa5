-- Plans of commands on small lists.
use Rattle.std.proofs.Common.{◌≡◌, ℕ, [], ◌∷◌, refl}
use Rattle.mud_world.specs.declared.item.Put.TheVariants.{Set, Gone}
use Rattle.mud_world.specs.Items.{set_put, gone_put, puts_of}
use Rattle.item_codec.specs.declared.word.Word.TheVariants.{New, Bound, Unbound}
use Rattle.acl_model.specs.declared.binding.MemberKey.TheVariants as of_key
use Rattle.acl_model.specs.Keys.{same_key}
use Rattle.acl_model.specs.Changes.{same_spot, same_binding, has_binding, those_not_in}
use Rattle.base_rows.specs.Changes.{changed, sort_keys_of, old_rows}
use Rattle.table_model.specs.declared.bind.Class.TheVariants.{Uri}
use Rattle.table_model.specs.declared.bind.ClassRow.{ClassRow}
use Rattle.table_model.specs.declared.bind.NameRow.{NameRow}
use Rattle.table_model.specs.Expiries.{for_ever}
use Rattle.table_model.specs.BindItems.{class_item}
use Rattle.table_model.specs.BindRowChanges.{bind_cases_change, bind_change, class_left, unbind_cases_change, unbind_change, new_pair_change, kept_pair_change, observe_cases_change, observe_row_change, observe_change}
use Rattle.table_model.specs.Bindings.{binding, member_key, class_binding, class_bindings, name_binding, name_bindings}
use Rattle.table_model.specs.BindingChanges.{gone_of, come_of}
use Rattle.table_model.proofs.Literals.{binds_compute, dns_addr, test_addr, dns_class, test_name}
use Rattle.bind_book.specs.Plans.{class_plan, name_plan, locals_put}

unfoldable plans_compute : Unit {0}
unfolding binds_compute changed sort_keys_of old_rows set_put gone_put puts_of same_key same_spot same_binding has_binding those_not_in bind_cases_change bind_change class_left unbind_cases_change unbind_change new_pair_change kept_pair_change observe_cases_change observe_row_change observe_change member_key class_binding class_bindings name_binding name_bindings gone_of come_of class_plan name_plan
plans_compute = tt

abbrev dns_row : ClassRow
dns_row = record { class = Uri dns_class; addrs = dns_addr ∷ [] }

-- the name server is bound to its class: its item is put, and its binding comes
bound_puts : (class_plan Bound (bind_change (Uri dns_class) dns_addr []) []).puts ≡ Set (class_item dns_row) ∷ []
unfolding plans_compute
bound_puts = refl

bound_come : (class_plan Bound (bind_change (Uri dns_class) dns_addr []) []).come ≡ binding (of_key.Class dns_class) dns_addr for_ever ∷ []
unfolding plans_compute
bound_come = refl

-- it is unbound, and was the only one: the class goes, and the binding
unbound_puts : (class_plan Unbound (unbind_change (Uri dns_class) dns_addr (dns_row ∷ [])) (dns_row ∷ [])).puts ≡ Gone 3 (1 ∷ dns_class) ∷ []
unfolding plans_compute
unbound_puts = refl

unbound_gone : (class_plan Unbound (unbind_change (Uri dns_class) dns_addr (dns_row ∷ [])) (dns_row ∷ [])).gone ≡ binding (of_key.Class dns_class) dns_addr for_ever ∷ []
unfolding plans_compute
unbound_gone = refl

abbrev test_row : ℕ → NameRow
test_row until = record { name = test_name; addrs = (test_addr, until) ∷ [] }

-- an address whose expiry has come is observed again: the old expiry goes, and the new one comes
anew_gone : (name_plan New 1090 (observe_change test_name test_addr 30 1060 (test_row 1060 ∷ [])) (test_row 1060 ∷ [])).gone ≡ binding (of_key.Name test_name) test_addr 1060 ∷ []
unfolding plans_compute
anew_gone = refl

anew_come : (name_plan New 1090 (observe_change test_name test_addr 30 1060 (test_row 1060 ∷ [])) (test_row 1060 ∷ [])).come ≡ binding (of_key.Name test_name) test_addr 1090 ∷ []
unfolding plans_compute
anew_come = refl

-- no local network: there is no item
none_put : locals_put [] ≡ Gone 4 []
unfolding locals_put
none_put = refl
