-- The items of the three lists, and what puts of one kind make of them.
use Rattle.std.proofs.Common.{◌≡◌, ℕ, ◌<◌, ◌≤◌, not, ◌&&◌, false, List, [], ◌∷◌, ◌++◌, map, refl, sym, ap, ◌∙◌, append_assoc, arith}
use Rattle.std.specs.List.{AllByRecursion}
use Rattle.std.specs.Ordering.{is_eq}
use Rattle.std.proofs.lemmas.List.{append-nil}
use Rattle.std.proofs.lemmas.List.Elements.{All-from_recursion}
use Rattle.std.proofs.lemmas.Option.{same_Some}
use Rattle.mud_base.specs.declared.prefix.Prefix.{Prefix}
use Rattle.base_rows.specs.Sortable.{row_at}
use Rattle.base_rows.specs.Changes.{RowChange, changed}
use Rattle.base_rows.proofs.SortableLaws.{sort_key_cmp_itself}
use Rattle.base_rows.proofs.Lists.{all-append}
use Rattle.mud_world.specs.declared.item.Item.{Item}
use Rattle.mud_world.specs.declared.item.Put.{Put}
use Rattle.mud_world.specs.Items.{sort_key_of, put_one, put_all, sort_key_of_put, is_apart, IsOrdered, IsDifference, ArePutsOf, AreOfLowerKinds, AreItemsOf, puts_of}
use Rattle.mud_world.proofs.ItemLaws.{touched, puts_among, ordered-append, puts_kept, puts_of_kind, ordered-items}
use Rattle.table_model.specs.declared.bind.ClassRow.{ClassRow}
use Rattle.table_model.specs.declared.bind.NameRow.{NameRow}
use Rattle.table_model.specs.Binds.{Binds, class_key, name_of, IsSoundBinds}
use Rattle.table_model.specs.BindItems.{class_item, locals_item, locals_items, name_item}
use Rattle.table_model.specs.TakenItems.{all_taken, no_binds, bind_items, with_bind_item}
use Rattle.table_model.proofs.TakenLaws.{binds_again}
use Rattle.table_model.proofs.Parts.{class_items, name_items}

-- ---- Differences

pub no_difference : (items : List Item) → IsDifference items items []
no_difference items = record { reaches = refl; needed = All-from_recursion (λ put. put_one items put ≡ items → ⊥) [] tt; apart = refl }

-- one put that leads to other items
pub one_difference : (before after : List Item) (put : Put) → put_one before put ≡ after → (after ≡ before → ⊥) → IsDifference before after (put ∷ [])
one_difference before after put leads differ = record {
  reaches = leads;
  needed = All-from_recursion (λ p. put_one before p ≡ before → ⊥) (put ∷ []) ((λ same. differ (sym leads ∙ same)), tt);
  apart = refl;
}

about_itself : (put : Put) (puts : List Put) → is_apart (sort_key_of_put put) (put ∷ puts) ≡ false
about_itself put puts = ap (λ o. not (is_eq o) && is_apart (sort_key_of_put put) puts) (sort_key_cmp_itself (sort_key_of_put put))

-- a difference of equal items has no put
pub none_between : (before after : List Item) (puts : List Put) → IsOrdered before → IsDifference before after puts → after ≡ before → puts ≡ []
none_between before after [] up difference same = refl
none_between before after (put ∷ puts) up difference same = absurd (touched before after (put ∷ puts) (sort_key_of_put put) up difference (about_itself put puts) (ap (row_at sort_key_of (sort_key_of_put put)) same))

pub equal_by_none : (before after : List Item) (puts : List Put) → IsDifference before after puts → puts ≡ [] → after ≡ before
equal_by_none before after puts difference none = sym difference.reaches ∙ ap (put_all before) none

-- ---- The kinds of the items

pub class_kinds : (P : ℕ → Type 0) → P 3 → (classes : List ClassRow) → AllByRecursion (λ item. P item.kind) (class_items classes)
unfolding class_item
class_kinds P three [] = tt
class_kinds P three (row ∷ rows) = (three, class_kinds P three rows)

pub locals_kinds : (P : ℕ → Type 0) → P 4 → (locals : List Prefix) → AllByRecursion (λ item. P item.kind) (locals_items locals)
unfolding locals_items locals_item
locals_kinds P four [] = tt
locals_kinds P four (prefix ∷ more) = (four, tt)

pub name_kinds : (P : ℕ → Type 0) → P 5 → (names : List NameRow) → AllByRecursion (λ item. P item.kind) (name_items names)
unfolding name_item
name_kinds P five [] = tt
name_kinds P five (row ∷ rows) = (five, name_kinds P five rows)

pub class_of_kind : AreItemsOf class_key 3 class_item
unfolding class_item
class_of_kind row = refl

pub name_of_kind : AreItemsOf name_of 5 name_item
unfolding name_item name_of
name_of_kind row = refl

-- ---- Their order

locals_ordered : (locals : List Prefix) → IsOrdered (locals_items locals)
unfolding locals_items
locals_ordered [] = tt
locals_ordered (prefix ∷ more) = (tt, tt)

pub binds_ordered : (binds : Binds) → IsSoundBinds binds → IsOrdered (bind_items binds)
unfolding bind_items
binds_ordered binds sound =
    ordered-append 3 (map class_item binds.classes) (locals_items binds.locals ++ map name_item binds.names)
    (class_kinds (λ k. k ≤ 3) (omega arith) binds.classes)
    (all-append (λ item. 3 < item.kind) (locals_items binds.locals) (map name_item binds.names) (locals_kinds (λ k. 3 < k) (omega arith) binds.locals) (name_kinds (λ k. 3 < k) (omega arith) binds.names))
    (ordered-items class_key 3 class_item class_of_kind binds.classes sound.classes.ascend)
    (ordered-append 4 (locals_items binds.locals) (map name_item binds.names)
    (locals_kinds (λ k. k ≤ 4) (omega arith) binds.locals) (name_kinds (λ k. 4 < k) (omega arith) binds.names)
    (locals_ordered binds.locals) (ordered-items name_of 5 name_item name_of_kind binds.names sound.names.ascend))

-- ---- They tell sound lists apart

pub binds_told : (a b : Binds) → IsSoundBinds a → IsSoundBinds b → bind_items a ≡ bind_items b → a ≡ b
binds_told a b sound_a sound_b same = same_Some a b (sym (binds_again a sound_a) ∙ ap (all_taken with_bind_item no_binds) same ∙ binds_again b sound_b)

-- ---- Puts of one kind

pub classes_reach : (binds : Binds) (change : RowChange ClassRow) → put_all (bind_items binds) (puts_of 3 class_item change) ≡ bind_items (record binds { classes = changed class_key change binds.classes })
unfolding bind_items
classes_reach binds change =
    let high : List Item = locals_items binds.locals ++ name_items binds.names in
    puts_among 3 [] (map class_item binds.classes) high (puts_of 3 class_item change) tt
    (all-append (λ item. 3 < item.kind) (locals_items binds.locals) (name_items binds.names) (locals_kinds (λ k. 3 < k) (omega arith) binds.locals) (name_kinds (λ k. 3 < k) (omega arith) binds.names))
    (puts_of_kind class_key 3 class_item class_of_kind change)
    ∙ ap (λ items. items ++ high) (puts_kept class_key 3 class_item class_of_kind change binds.classes)

lower_than_names : (binds : Binds) → AreOfLowerKinds 5 (class_items binds.classes ++ locals_items binds.locals)
lower_than_names binds = all-append (λ item. item.kind < 5) (class_items binds.classes) (locals_items binds.locals) (class_kinds (λ k. k < 5) (omega arith) binds.classes) (locals_kinds (λ k. k < 5) (omega arith) binds.locals)

-- puts of names among all items
pub among_names : (binds : Binds) (puts : List Put) → ArePutsOf 5 puts → put_all (bind_items binds) puts ≡ (class_items binds.classes ++ locals_items binds.locals) ++ put_all (name_items binds.names) puts
unfolding bind_items
among_names binds puts of =
    let low : List Item = class_items binds.classes ++ locals_items binds.locals in
    ap (λ items. put_all items puts) (sym (append_assoc (class_items binds.classes) (locals_items binds.locals) (name_items binds.names)) ∙ sym (append-nil (low ++ name_items binds.names)))
    ∙ puts_among 5 low (name_items binds.names) [] puts (lower_than_names binds) tt of
    ∙ append-nil (low ++ put_all (name_items binds.names) puts)

pub names_reach : (binds : Binds) (change : RowChange NameRow) → put_all (bind_items binds) (puts_of 5 name_item change) ≡ bind_items (record binds { names = changed name_of change binds.names })
unfolding bind_items
names_reach binds change =
    among_names binds (puts_of 5 name_item change) (puts_of_kind name_of 5 name_item name_of_kind change)
    ∙ ap (λ items. (class_items binds.classes ++ locals_items binds.locals) ++ items) (puts_kept name_of 5 name_item name_of_kind change binds.names)
    ∙ append_assoc (class_items binds.classes) (locals_items binds.locals) (map name_item (changed name_of change binds.names))

pub locals_reach : (binds : Binds) (put : Put) → ArePutsOf 4 (put ∷ []) → put_one (bind_items binds) put ≡ class_items binds.classes ++ (put_one (locals_items binds.locals) put ++ name_items binds.names)
unfolding bind_items
locals_reach binds put of =
    ap (λ items. put_one items put) (sym (append_assoc (class_items binds.classes) (locals_items binds.locals) (name_items binds.names)))
    ∙ puts_among 4 (class_items binds.classes) (locals_items binds.locals) (name_items binds.names) (put ∷ [])
    (class_kinds (λ k. k < 4) (omega arith) binds.classes) (name_kinds (λ k. 4 < k) (omega arith) binds.names) of
    ∙ append_assoc (class_items binds.classes) (put_one (locals_items binds.locals) put) (name_items binds.names)
