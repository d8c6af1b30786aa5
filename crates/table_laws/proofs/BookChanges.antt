-- What a book's change of rows does to the bindings of the tables.
use Rattle.std.proofs.Common.{◌≡◌, true, List, subst}
use Rattle.table_model.specs.declared.thing.Thing.{Thing}
use Rattle.table_model.specs.declared.bind.ClassRow.{ClassRow}
use Rattle.table_model.specs.declared.bind.NameRow.{NameRow}
use Rattle.acl_model.specs.declared.binding.Binding.{Binding}
use Rattle.table_model.specs.Things.{mac_of, IsSoundThings}
use Rattle.table_model.specs.Binds.{class_key, name_of, IsSoundClasses, IsSoundNames}
use Rattle.table_model.specs.Tables.{Tables}
use Rattle.table_model.specs.Bindings.{thing_bindings, class_bindings, name_bindings, bindings_of}
use Rattle.base_rows.specs.Changes.{RowChange, changed, is_plain, sort_keys_of}
use Rattle.acl_model.specs.Changes.{IsBindingChange}
use Rattle.table_model.specs.BindingChanges.{gone_of, come_of}
use Rattle.table_laws.proofs.Differences.{gone_at, come_at}
use Rattle.table_laws.proofs.TableBindings.{things_change, classes_change, names_change}
use Rattle.table_laws.proofs.RowChanges.{elsewhere_same, gone_is, come_is}

renamed : (before after gone gone' come come' : List Binding) → gone ≡ gone' → come ≡ come' → IsBindingChange before after gone come → IsBindingChange before after gone' come'
renamed before after gone gone' come come' e f change = subst (λ g. IsBindingChange before after g come') e (subst (λ c. IsBindingChange before after gone c) f change)

pub thing_book_change : (tables : Tables) (change : RowChange Thing) → IsSoundThings tables.things → IsSoundThings (changed mac_of change tables.things) → is_plain mac_of change ≡ true
    → IsBindingChange (bindings_of tables) (bindings_of (record tables { things = changed mac_of change tables.things })) (gone_of mac_of thing_bindings change tables.things) (come_of mac_of thing_bindings change tables.things)
unfolding is_plain
thing_book_change tables change old new once =
    let after : List Thing = changed mac_of change tables.things in
    renamed (bindings_of tables) (bindings_of (record tables { things = after }))
    (gone_at mac_of thing_bindings (sort_keys_of mac_of change) tables.things after) (gone_of mac_of thing_bindings change tables.things)
    (come_at mac_of thing_bindings (sort_keys_of mac_of change) tables.things after) (come_of mac_of thing_bindings change tables.things)
    (gone_is mac_of thing_bindings change tables.things old.ascend once) (come_is mac_of thing_bindings change tables.things old.ascend once)
    (things_change tables after (sort_keys_of mac_of change) old new once (elsewhere_same mac_of thing_bindings change tables.things old.ascend))

pub class_book_change : (tables : Tables) (change : RowChange ClassRow) → IsSoundClasses tables.classes → IsSoundClasses (changed class_key change tables.classes) → is_plain class_key change ≡ true
    → IsBindingChange (bindings_of tables) (bindings_of (record tables { classes = changed class_key change tables.classes })) (gone_of class_key class_bindings change tables.classes) (come_of class_key class_bindings change tables.classes)
unfolding is_plain
class_book_change tables change old new once =
    let after : List ClassRow = changed class_key change tables.classes in
    renamed (bindings_of tables) (bindings_of (record tables { classes = after }))
    (gone_at class_key class_bindings (sort_keys_of class_key change) tables.classes after) (gone_of class_key class_bindings change tables.classes)
    (come_at class_key class_bindings (sort_keys_of class_key change) tables.classes after) (come_of class_key class_bindings change tables.classes)
    (gone_is class_key class_bindings change tables.classes old.ascend once) (come_is class_key class_bindings change tables.classes old.ascend once)
    (classes_change tables after (sort_keys_of class_key change) old new once (elsewhere_same class_key class_bindings change tables.classes old.ascend))

pub name_book_change : (tables : Tables) (change : RowChange NameRow) → IsSoundNames tables.names → IsSoundNames (changed name_of change tables.names) → is_plain name_of change ≡ true
    → IsBindingChange (bindings_of tables) (bindings_of (record tables { names = changed name_of change tables.names })) (gone_of name_of name_bindings change tables.names) (come_of name_of name_bindings change tables.names)
unfolding is_plain
name_book_change tables change old new once =
    let after : List NameRow = changed name_of change tables.names in
    renamed (bindings_of tables) (bindings_of (record tables { names = after }))
    (gone_at name_of name_bindings (sort_keys_of name_of change) tables.names after) (gone_of name_of name_bindings change tables.names)
    (come_at name_of name_bindings (sort_keys_of name_of change) tables.names after) (come_of name_of name_bindings change tables.names)
    (gone_is name_of name_bindings change tables.names old.ascend once) (come_is name_of name_bindings change tables.names old.ascend once)
    (names_change tables after (sort_keys_of name_of change) old new once (elsewhere_same name_of name_bindings change tables.names old.ascend))
