-- A sound desk is read back from its items.
use Rattle.std.proofs.Common.{◌≡◌, ℕ, ◌<◌, List, [], ◌∷◌, ◌++◌, map, Option, Some, None, Ok, refl, sym, ap, subst, ◌∙◌, append_assoc, lit<}
use Rattle.std.specs.Prelude.{option_map}
use Rattle.std.specs.List.{AllByRecursion}
use Rattle.std.proofs.lemmas.List.{append-nil}
use Rattle.mud_base.specs.declared.prefix.Prefix.{Prefix}
use Rattle.mud_world.specs.declared.item.Item.{Item}
use Rattle.item_codec.specs.Records.{◌>>=◌}
use Rattle.table_model.specs.declared.thing.Thing.{Thing}
use Rattle.table_model.specs.Binds.{Binds, IsSoundBinds}
use Rattle.table_model.specs.Tables.{binds_of}
use Rattle.table_model.specs.ThingItems.{thing_item, thing_items, with_thing_item}
use Rattle.table_model.specs.BindItems.{class_item, locals_item, locals_items, name_item, stamp_item, stamp_items, with_stamp_item}
use Rattle.table_model.specs.TakenItems.{all_taken, no_binds, bind_items, with_bind_item}
use Rattle.table_model.proofs.ItemLaws.{stamp_back}
use Rattle.table_model.proofs.RowSets.{all_behind}
use Rattle.table_model.proofs.TakenLaws.{things_again, binds_again}
use Rattle.usage_tables.specs.declared.cached_file.CachedFile.{CachedFile}
use Rattle.usage_tables.specs.Files.{IsKeptFile, IsSoundFiles}
use Rattle.usage_tables.specs.FileItems.{file_item, file_items, with_file_item}
use Rattle.usage_tables.proofs.ItemLaws.{file_back}
use Rattle.usage_tables.proofs.ReadFiles.{behind-sound}
use Rattle.desk_model.specs.DeskTables.{DeskTables, IsStamp, IsSound}
use Rattle.desk_model.specs.Items.{KeptDesk, none_kept, desk_of, items_of, tables_in}
use Rattle.desk_model.proofs.Taking.{kept_by_taken, all_taken-append, taken_within, take_thing, take_file, take_bind, take_stamp}
use Rattle.base_rows.proofs.Lists.{all-append}
use Rattle.table_model.proofs.Parts.{class_items, name_items}
use Rattle.desk_model.proofs.Parts.{desk_in, with_desk_item}

-- ---- Files

file_step : (xs : List CachedFile) (row : CachedFile) (ys : List CachedFile) → IsSoundFiles (xs ++ row ∷ ys) → with_file_item xs (file_item row) ≡ Some (xs ++ row ∷ [])
unfolding with_file_item
file_step xs row ys sound = rw (file_back row (all_behind IsKeptFile xs row ys sound.each), behind-sound xs row ys sound) refl

files_from : (xs ys files : List CachedFile) → xs ++ ys ≡ files → IsSoundFiles files → all_taken with_file_item xs (map file_item ys) ≡ Some files
files_from xs [] files e sound = ap (λ (t : List CachedFile). Some t) (sym (append-nil xs) ∙ e)
files_from xs (row ∷ ys) files e sound =
    ap (λ (o : Option (List CachedFile)). o >>= λ next. all_taken with_file_item next (map file_item ys)) (file_step xs row ys (subst IsSoundFiles (sym e) sound))
    ∙ files_from (xs ++ row ∷ []) ys files (append_assoc xs (row ∷ []) ys ∙ e) sound

files_again : (files : List CachedFile) → IsSoundFiles files → all_taken with_file_item [] (file_items files) ≡ Some files
unfolding file_items
files_again files sound = files_from [] files files refl sound

-- ---- The kinds of items

pub each_item : {R : Type 0} (f : R → Item) (P : Item → Type 0) → ((r : R) → P (f r)) → (rows : List R) → AllByRecursion P (map f rows)
each_item f P holds [] = tt
each_item f P holds (r ∷ rows) = (holds r, each_item f P holds rows)

of_locals : (P : Item → Type 0) → ((item : Item) → 2 < item.kind → item.kind < 6 → P item) → (locals : List Prefix) → AllByRecursion P (locals_items locals)
unfolding locals_items locals_item
of_locals P holds [] = tt
of_locals P holds (p ∷ ps) = (holds (locals_item (p ∷ ps)) (lit< tt) (lit< tt), tt)

pub all_bind_items : (P : Item → Type 0) → ((item : Item) → 2 < item.kind → item.kind < 6 → P item) → (binds : Binds) → AllByRecursion P (bind_items binds)
unfolding bind_items class_item name_item
all_bind_items P holds binds =
    all-append P (class_items binds.classes) (locals_items binds.locals ++ name_items binds.names)
    (each_item class_item P (λ row. holds (class_item row) (lit< tt) (lit< tt)) binds.classes)
    (all-append P (locals_items binds.locals) (name_items binds.names) (of_locals P holds binds.locals) (each_item name_item P (λ row. holds (name_item row) (lit< tt) (lit< tt)) binds.names))

-- ---- The whole

unfoldable pub kept_of : DeskTables → KeptDesk
unfolding binds_of
kept_of desk = record { things = desk.tables.things; files = desk.files; binds = binds_of desk.tables; stamp = desk.stamp }

read_stamp : (moment : ℕ) → IsStamp (Some moment) → with_stamp_item None (stamp_item moment) ≡ Some moment
unfolding with_stamp_item
read_stamp moment early = stamp_back moment early

stamp_kind : (moment : ℕ) → (stamp_item moment).kind ≡ 6
unfolding stamp_item
stamp_kind moment = refl

module _ (desk : DeskTables) (sound : IsSound desk) where
  things_taken : all_taken with_desk_item none_kept (thing_items desk.tables.things) ≡ Some (record { things = desk.tables.things; files = []; binds = no_binds; stamp = None })
  unfolding none_kept thing_items thing_item
  things_taken =
      taken_within (λ (x : List Thing). record { things = x; files = []; binds = no_binds; stamp = None }) with_thing_item (thing_items desk.tables.things)
      (each_item thing_item (λ item. (a : List Thing) → with_desk_item (record { things = a; files = []; binds = no_binds; stamp = None }) item ≡ option_map (λ (x : List Thing). record { things = x; files = []; binds = no_binds; stamp = None }) (with_thing_item a item)) (λ t. take_thing (thing_item t) refl) desk.tables.things)
      [] desk.tables.things (things_again desk.tables.things sound.tables.things)

  files_taken : all_taken with_desk_item (record { things = desk.tables.things; files = []; binds = no_binds; stamp = None }) (file_items desk.files) ≡ Some (record { things = desk.tables.things; files = desk.files; binds = no_binds; stamp = None })
  unfolding file_items file_item
  files_taken =
      taken_within (λ (x : List CachedFile). record { things = desk.tables.things; files = x; binds = no_binds; stamp = None }) with_file_item (file_items desk.files)
      (each_item file_item (λ item. (a : List CachedFile) → with_desk_item (record { things = desk.tables.things; files = a; binds = no_binds; stamp = None }) item ≡ option_map (λ (x : List CachedFile). record { things = desk.tables.things; files = x; binds = no_binds; stamp = None }) (with_file_item a item)) (λ row. take_file (file_item row) refl desk.tables.things) desk.files)
      [] desk.files (files_again desk.files sound.files)

  pub parts : IsSoundBinds (binds_of desk.tables)
  unfolding binds_of
  parts = record { classes = sound.tables.classes; locals = sound.tables.locals; names = sound.tables.names }

  binds_taken : all_taken with_desk_item (record { things = desk.tables.things; files = desk.files; binds = no_binds; stamp = None }) (bind_items (binds_of desk.tables)) ≡ Some (record { things = desk.tables.things; files = desk.files; binds = binds_of desk.tables; stamp = None })
  binds_taken =
      taken_within (λ (x : Binds). record { things = desk.tables.things; files = desk.files; binds = x; stamp = None }) with_bind_item (bind_items (binds_of desk.tables))
      (all_bind_items (λ item. (a : Binds) → with_desk_item (record { things = desk.tables.things; files = desk.files; binds = a; stamp = None }) item ≡ option_map (λ (x : Binds). record { things = desk.tables.things; files = desk.files; binds = x; stamp = None }) (with_bind_item a item)) (λ item low high. take_bind item low high desk.tables.things desk.files) (binds_of desk.tables))
      no_binds (binds_of desk.tables) (binds_again (binds_of desk.tables) parts)

  stamp_taken : (stamp : Option ℕ) → IsStamp stamp → all_taken with_desk_item (record { things = desk.tables.things; files = desk.files; binds = binds_of desk.tables; stamp = None }) (stamp_items stamp) ≡ Some (record { things = desk.tables.things; files = desk.files; binds = binds_of desk.tables; stamp = stamp })
  unfolding stamp_items
  stamp_taken None early = refl
  stamp_taken (Some moment) early = ap (λ (o : Option KeptDesk). o >>= λ next. Some next) (take_stamp (stamp_item moment) (stamp_kind moment) desk.tables.things desk.files (binds_of desk.tables) None ∙ ap (option_map (λ (x : ℕ). record { things = desk.tables.things; files = desk.files; binds = binds_of desk.tables; stamp = Some x })) (read_stamp moment early))

  pub desk_taken : all_taken with_desk_item none_kept (items_of desk) ≡ Some (kept_of desk)
  unfolding items_of kept_of
  desk_taken =
      all_taken-append with_desk_item none_kept (thing_items desk.tables.things) _ _ things_taken
      ∙ all_taken-append with_desk_item _ (file_items desk.files) _ _ files_taken
      ∙ all_taken-append with_desk_item _ (bind_items (binds_of desk.tables)) (stamp_items desk.stamp) _ binds_taken
      ∙ stamp_taken desk.stamp sound.stamp

  pub desk_again : tables_in (items_of desk) ≡ Ok desk
  unfolding tables_in desk_of kept_of binds_of
  desk_again = ap desk_in (kept_by_taken none_kept (items_of desk) (kept_of desk) desk_taken)
