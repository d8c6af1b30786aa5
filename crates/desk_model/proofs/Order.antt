-- The items of a sound desk are in order.
use Rattle.std.proofs.Common.{◌≡◌, ℕ, ◌<◌, ◌≤◌, List, [], ◌∷◌, ◌++◌, Option, Some, None, refl, arith, lit<, lit≤}
use Rattle.std.specs.List.{AllByRecursion}
use Rattle.mud_base.specs.declared.prefix.Prefix.{Prefix}
use Rattle.mud_world.specs.declared.item.Item.{Item}
use Rattle.mud_world.specs.Items.{IsOrdered, AreOfHigherKinds, AreItemsOf}
use Rattle.mud_world.proofs.ItemLaws.{ordered-append, ordered-items}
use Rattle.table_model.specs.Things.{mac_of}
use Rattle.table_model.specs.Binds.{Binds, class_key, name_of, IsSoundBinds}
use Rattle.table_model.specs.Tables.{binds_of}
use Rattle.table_model.specs.ThingItems.{thing_item, thing_items}
use Rattle.table_model.specs.BindItems.{class_item, locals_item, locals_items, name_item, stamp_item, stamp_items}
use Rattle.table_model.specs.TakenItems.{bind_items}
use Rattle.table_model.proofs.ItemLaws.{are_things}
use Rattle.usage_tables.specs.Files.{url_of}
use Rattle.usage_tables.specs.FileItems.{file_item, file_items}
use Rattle.desk_model.specs.DeskTables.{DeskTables, IsSound}
use Rattle.desk_model.specs.Items.{items_of}
use Rattle.desk_model.proofs.ReadBack.{each_item, all_bind_items, parts}
use Rattle.usage_tables.proofs.EditLaws.{are_file_items}
use Rattle.base_rows.proofs.Lists.{all-append}
use Rattle.table_model.proofs.Parts.{class_items, name_items}

-- ---- The kinds of items

pub thing_kinds : (P : Item → Type 0) → ((item : Item) → item.kind ≡ 1 → P item) → (desk : DeskTables) → AllByRecursion P (thing_items desk.tables.things)
unfolding thing_items thing_item
thing_kinds P holds desk = each_item thing_item P (λ t. holds (thing_item t) refl) desk.tables.things

pub file_kinds : (P : Item → Type 0) → ((item : Item) → item.kind ≡ 2 → P item) → (desk : DeskTables) → AllByRecursion P (file_items desk.files)
unfolding file_items file_item
file_kinds P holds desk = each_item file_item P (λ row. holds (file_item row) refl) desk.files

pub stamp_kinds : (P : Item → Type 0) → ((item : Item) → item.kind ≡ 6 → P item) → (stamp : Option ℕ) → AllByRecursion P (stamp_items stamp)
unfolding stamp_items stamp_item
stamp_kinds P holds None = tt
stamp_kinds P holds (Some moment) = (holds (stamp_item moment) refl, tt)

-- ---- Each list

module _ (binds : Binds) (sound : IsSoundBinds binds) where
  classes_of : AreItemsOf class_key 3 class_item
  unfolding class_item
  classes_of row = refl

  names_of : AreItemsOf name_of 5 name_item
  unfolding name_item name_of
  names_of row = refl

  ordered-locals : (locals : List Prefix) → IsOrdered (locals_items locals)
  unfolding locals_items
  ordered-locals [] = tt
  ordered-locals (p ∷ ps) = (tt, tt)

  locals_are : (P : Item → Type 0) → ((item : Item) → item.kind ≡ 4 → P item) → (locals : List Prefix) → AllByRecursion P (locals_items locals)
  unfolding locals_items locals_item
  locals_are P holds [] = tt
  locals_are P holds (p ∷ ps) = (holds (locals_item (p ∷ ps)) refl, tt)

  pub ordered-binds : IsOrdered (bind_items binds)
  unfolding bind_items class_item name_item
  ordered-binds =
      ordered-append 3 (class_items binds.classes) (locals_items binds.locals ++ name_items binds.names)
      (each_item class_item (λ item. item.kind ≤ 3) (λ row. lit≤ tt) binds.classes)
      (all-append (λ item. 3 < item.kind) (locals_items binds.locals) (name_items binds.names)
      (locals_are (λ item. 3 < item.kind) (λ item e. omega (arith, e)) binds.locals)
      (each_item name_item (λ item. 3 < item.kind) (λ row. lit< tt) binds.names))
      (ordered-items class_key 3 class_item classes_of binds.classes sound.classes.ascend)
      (ordered-append 4 (locals_items binds.locals) (name_items binds.names)
      (locals_are (λ item. item.kind ≤ 4) (λ item e. omega (arith, e)) binds.locals)
      (each_item name_item (λ item. 4 < item.kind) (λ row. lit< tt) binds.names)
      (ordered-locals binds.locals)
      (ordered-items name_of 5 name_item names_of binds.names sound.names.ascend))

ordered-stamp : (stamp : Option ℕ) → IsOrdered (stamp_items stamp)
unfolding stamp_items
ordered-stamp None = tt
ordered-stamp (Some moment) = (tt, tt)

-- ---- The whole

module _ (desk : DeskTables) (sound : IsSound desk) where
  above : (k : ℕ) → k < 6 → AreOfHigherKinds k (stamp_items desk.stamp)
  above k low = stamp_kinds (λ item. k < item.kind) (λ item e. omega (arith, e, low)) desk.stamp

  binds_above : (k : ℕ) → k < 3 → AreOfHigherKinds k (bind_items (binds_of desk.tables) ++ stamp_items desk.stamp)
  binds_above k low =
      all-append (λ item. k < item.kind) (bind_items (binds_of desk.tables)) (stamp_items desk.stamp)
      (all_bind_items (λ item. k < item.kind) (λ item e f. omega (arith, e, low)) (binds_of desk.tables))
      (above k (omega (arith, low)))

  in_order_things : IsOrdered (thing_items desk.tables.things)
  unfolding thing_items
  in_order_things = ordered-items mac_of 1 thing_item are_things desk.tables.things sound.tables.things.ascend

  in_order_files : IsOrdered (file_items desk.files)
  unfolding file_items
  in_order_files = ordered-items url_of 2 file_item are_file_items desk.files sound.files.ascend

  pub ordered-items_of : IsOrdered (items_of desk)
  unfolding items_of
  ordered-items_of =
      let binds : List Item = bind_items (binds_of desk.tables) in
      ordered-append 1 (thing_items desk.tables.things) (file_items desk.files ++ (binds ++ stamp_items desk.stamp))
      (thing_kinds (λ item. item.kind ≤ 1) (λ item e. omega (arith, e)) desk)
      (all-append (λ item. 1 < item.kind) (file_items desk.files) (binds ++ stamp_items desk.stamp) (file_kinds (λ item. 1 < item.kind) (λ item e. omega (arith, e)) desk) (binds_above 1 (lit< tt)))
      in_order_things
      (ordered-append 2 (file_items desk.files) (binds ++ stamp_items desk.stamp) (file_kinds (λ item. item.kind ≤ 2) (λ item e. omega (arith, e)) desk) (binds_above 2 (lit< tt))
      in_order_files
      (ordered-append 5 binds (stamp_items desk.stamp) (all_bind_items (λ item. item.kind ≤ 5) (λ item e f. omega (arith, f)) (binds_of desk.tables)) (above 5 (lit< tt)) (ordered-binds (binds_of desk.tables) (parts desk sound)) (ordered-stamp desk.stamp)))
