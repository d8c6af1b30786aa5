-- Items that are read are those of a sound desk, but for Things of version 1, which say the same as its own.
use Rattle.std.proofs.Common.{◌≡◌, ℕ, ◌<◌, ◌≤◌, Bool, true, false, cond, ◌&&◌, ◌==◌, List, [], ◌∷◌, ◌++◌, map, Option, Some, None, Result, Ok, Err, refl, sym, ap, subst, ◌∙◌, append_assoc, arith, inl, inr}
use Rattle.std.specs.Prelude.{option_map, nat_lt, is_none}
use Rattle.std.specs.List.{AllByRecursion}
use Rattle.std.proofs.lemmas.Bool.{eqb-true, ltb-true}
use Rattle.std.proofs.lemmas.List.{append-nil}
use Rattle.mud_world.specs.declared.item.Item.{Item}
use Rattle.mud_base.specs.Numbers.{IsOctets}
use Rattle.item_codec.specs.Records.{◌>>=◌}
use Rattle.item_codec.proofs.RecordLaws.{some_is, bind_some, pass_some, chosen}
use Rattle.base_rows.proofs.ListTests.{left_of, right_of}
use Rattle.table_model.specs.declared.thing.Thing.{Thing}
use Rattle.table_model.specs.Things.{IsSoundThings}
use Rattle.table_model.specs.Binds.{Binds, IsSoundBinds}
use Rattle.table_model.specs.Tables.{binds_of}
use Rattle.table_model.specs.ThingItems.{thing_items, thing_in, item_anew, in_second, with_thing_item}
use Rattle.table_model.specs.BindItems.{locals_items, stamp_items, stamp_in, with_stamp_item}
use Rattle.table_model.specs.TakenItems.{all_taken, no_binds, is_empty, bind_items, have_none, with_bind_item, with_item}
use Rattle.table_model.proofs.ItemLaws.{stamp_alone}
use Rattle.table_model.proofs.RowSets.{map_push}
use Rattle.table_model.proofs.TakenLaws.{things_taken, bind_taken, no_things, sound_no_binds, mapped_some, nothing_there}
use Rattle.usage_tables.specs.declared.cached_file.CachedFile.{CachedFile}
use Rattle.usage_tables.specs.Files.{IsSoundFiles, entry_count}
use Rattle.usage_tables.specs.FileItems.{file_item, file_items, file_in, IsFileItem, may_stand_behind, with_file_item}
use Rattle.usage_tables.proofs.ItemLaws.{file_alone}
use Rattle.usage_tables.proofs.ReadFiles.{sound-push}
use Rattle.desk_model.specs.DeskTables.{DeskTables, IsSound, empty_desk}
use Rattle.desk_model.specs.Items.{KeptDesk, none_kept, desk_of, items_of, tables_in, in_second_version}
use Rattle.desk_model.proofs.Taking.{taken_by_kept, unequal}
use Rattle.desk_model.proofs.Parts.{kept_in, desk_in, with_desk_item}

-- ---- Small steps

-- an item more behind the own items of a kind, where no items of later kinds stand
push_behind : (low own after rest : List Item) (item : Item) → after ≡ own ++ item ∷ [] → rest ≡ [] → low ++ (after ++ rest) ≡ (low ++ (own ++ rest)) ++ item ∷ []
push_behind low own after rest item e none =
    ap (λ r. low ++ (after ++ r)) none ∙ ap (λ a. low ++ a) (append-nil after ∙ e) ∙ sym (append_assoc low own (item ∷ []))
    ∙ ap (λ o. (low ++ o) ++ item ∷ []) (sym (append-nil own)) ∙ ap (λ r. (low ++ (own ++ r)) ++ item ∷ []) (sym none)

pub no_stamp : (stamp : Option ℕ) → is_none stamp ≡ true → stamp ≡ None
no_stamp None e = refl
no_stamp (Some moment) e = absurd cc

no_stamp_items : (stamp : Option ℕ) → is_none stamp ≡ true → stamp_items stamp ≡ []
unfolding stamp_items
no_stamp_items stamp e = rw (no_stamp stamp e) refl

no_file_items : (files : List CachedFile) → is_empty files ≡ true → file_items files ≡ []
unfolding file_items
no_file_items files e = rw (nothing_there files e) refl

no_bind_items : (binds : Binds) → have_none binds ≡ true → bind_items binds ≡ []
unfolding have_none bind_items locals_items
no_bind_items binds e =
    let both : (is_empty binds.classes && is_empty binds.locals) ≡ true = left_of (is_empty binds.classes && is_empty binds.locals) (is_empty binds.names) e in
    rw (
      nothing_there binds.classes (left_of (is_empty binds.classes) (is_empty binds.locals) both),
      nothing_there binds.locals (right_of (is_empty binds.classes) (is_empty binds.locals) both),
      nothing_there binds.names (right_of (is_empty binds.classes && is_empty binds.locals) (is_empty binds.names) e),
    )
    refl

-- an item of another kind is the same in both versions
pub second_of_other : (item : Item) → (item.kind == 1) ≡ false → in_second item ≡ item
unfolding in_second item_anew thing_in
second_of_other item e = rw e refl

-- ---- One item of each kind

-- the desk after it is sound, and has one item more
record IsOneMore (kept : KeptDesk) (item : Item) (after : KeptDesk) : Type 0 where
  pub sound : IsSound (desk_of after)
  pub items : items_of (desk_of after) ≡ items_of (desk_of kept) ++ in_second item ∷ []

module _ (kept : KeptDesk) (item : Item) (sound : IsSound (desk_of kept)) (octets : IsOctets item.body) where
  sound_things : IsSoundThings kept.things
  unfolding desk_of
  sound_things = sound.tables.things

  sound_files : IsSoundFiles kept.files
  unfolding desk_of
  sound_files = sound.files

  sound_binds : IsSoundBinds kept.binds
  unfolding desk_of
  sound_binds = record { classes = sound.tables.classes; locals = sound.tables.locals; names = sound.tables.names }

  thing_more : (things : List Thing) → is_empty kept.files ≡ true → have_none kept.binds ≡ true → is_none kept.stamp ≡ true → with_thing_item kept.things item ≡ Some things → IsOneMore kept item (record kept { things = things })
  unfolding desk_of items_of binds_of
  thing_more things no_file none unstamped e =
      let t = things_taken kept.things (item ∷ []) things sound_things (octets, tt) (ap (λ (o : Option (List Thing)). o >>= λ x. Some x) e) in
      record {
        sound = record { tables = record { things = t.0; classes = sound.tables.classes; locals = sound.tables.locals; names = sound.tables.names }; files = sound.files; stamp = sound.stamp };
        items = push_behind [] (thing_items kept.things) (thing_items things) (file_items kept.files ++ (bind_items kept.binds ++ stamp_items kept.stamp)) (in_second item) t.1
            (rw (no_file_items kept.files no_file, no_bind_items kept.binds none, no_stamp_items kept.stamp unstamped) refl);
      }

  file_more : (files : List CachedFile) → (item.kind == 1) ≡ false → have_none kept.binds ≡ true → is_none kept.stamp ≡ true → with_file_item kept.files item ≡ Some files → IsOneMore kept item (record kept { files = files })
  unfolding desk_of items_of binds_of with_file_item file_items
  file_more files other none unstamped e =
      let b = bind_some (file_in item) (λ row. cond (may_stand_behind kept.files row) (Some (kept.files ++ row ∷ [])) None) files e in
      let p = pass_some (may_stand_behind kept.files b.0) files (Some (kept.files ++ b.0 ∷ [])) b.2 in
      let of_row : IsFileItem item b.0 = file_alone item b.0 octets b.1 in
      let is : kept.files ++ b.0 ∷ [] ≡ files = some_is (kept.files ++ b.0 ∷ []) files p.1 in
      let own : file_items files ≡ file_items kept.files ++ in_second item ∷ [] =
      ap file_items (sym is) ∙ map_push file_item kept.files b.0 ∙ ap (λ (i : Item). map file_item kept.files ++ i ∷ []) (sym of_row.same ∙ sym (second_of_other item other)) in
      record {
        sound = record {
          tables = sound.tables;
          files = subst IsSoundFiles is (sound-push kept.files b.0 sound_files of_row.kept p.0);
          stamp = sound.stamp;
        };
        items = push_behind (thing_items kept.things) (file_items kept.files) (file_items files) (bind_items kept.binds ++ stamp_items kept.stamp) (in_second item) own
            (rw (no_bind_items kept.binds none, no_stamp_items kept.stamp unstamped) refl);
      }

  bind_more : (binds : Binds) → (item.kind == 1) ≡ false → is_none kept.stamp ≡ true → with_bind_item kept.binds item ≡ Some binds → IsOneMore kept item (record kept { binds = binds })
  unfolding desk_of items_of binds_of
  bind_more binds other unstamped e =
      let t = bind_taken kept.binds item binds sound_binds octets e in
      let own : bind_items binds ≡ bind_items kept.binds ++ in_second item ∷ [] = t.items ∙ ap (λ (i : Item). bind_items kept.binds ++ i ∷ []) (sym (second_of_other item other)) in
      let front : List Item = thing_items kept.things ++ file_items kept.files in
      record {
        sound = record { tables = record { things = sound.tables.things; classes = t.sound.classes; locals = t.sound.locals; names = t.sound.names }; files = sound.files; stamp = sound.stamp };
        items = sym (append_assoc (thing_items kept.things) (file_items kept.files) (bind_items binds ++ stamp_items kept.stamp))
            ∙ push_behind front (bind_items kept.binds) (bind_items binds) (stamp_items kept.stamp) (in_second item) own (no_stamp_items kept.stamp unstamped)
            ∙ ap (λ (xs : List Item). xs ++ in_second item ∷ []) (append_assoc (thing_items kept.things) (file_items kept.files) (bind_items kept.binds ++ stamp_items kept.stamp));
      }

  stamp_first : (stamp : Option ℕ) (moment : ℕ) → with_stamp_item stamp item ≡ Some moment → (stamp ≡ None) × (stamp_in item ≡ Some moment)
  unfolding with_stamp_item
  stamp_first None moment e = (refl, e)
  stamp_first (Some before) moment e = absurd cc

  stamp_more : (moment : ℕ) → (item.kind == 1) ≡ false → with_stamp_item kept.stamp item ≡ Some moment → IsOneMore kept item (record kept { stamp = Some moment })
  unfolding desk_of items_of binds_of stamp_items
  stamp_more moment other e =
      let f = stamp_first kept.stamp moment e in
      let a = stamp_alone item moment octets f.1 in
      let own : stamp_items (Some moment) ≡ stamp_items kept.stamp ++ in_second item ∷ [] = ap (λ (i : Item). i ∷ []) (sym a.0 ∙ sym (second_of_other item other)) ∙ ap (λ (o : Option ℕ). stamp_items o ++ in_second item ∷ []) (sym f.0) in
      let front : List Item = thing_items kept.things ++ (file_items kept.files ++ bind_items kept.binds) in
      record {
        sound = record { tables = sound.tables; files = sound.files; stamp = a.1 };
        items = ap (λ (xs : List Item). thing_items kept.things ++ (file_items kept.files ++ (bind_items kept.binds ++ xs))) own
            ∙ ap (λ (xs : List Item). thing_items kept.things ++ (file_items kept.files ++ xs)) (sym (append_assoc (bind_items kept.binds) (stamp_items kept.stamp) (in_second item ∷ [])))
            ∙ ap (λ (xs : List Item). thing_items kept.things ++ xs) (sym (append_assoc (file_items kept.files) (bind_items kept.binds ++ stamp_items kept.stamp) (in_second item ∷ [])))
            ∙ sym (append_assoc (thing_items kept.things) (file_items kept.files ++ (bind_items kept.binds ++ stamp_items kept.stamp)) (in_second item ∷ []));
      }

  -- which kind it is
  is_thing : Bool
  is_thing = item.kind == 1 && is_empty kept.files && have_none kept.binds && is_none kept.stamp

  is_file : Bool
  is_file = item.kind == 2 && have_none kept.binds && is_none kept.stamp

  is_bind : Bool
  is_bind = nat_lt 2 item.kind && nat_lt item.kind 6 && is_none kept.stamp

  is_last : Bool
  is_last = item.kind == 6

  of_thing : (o : Option KeptDesk) (after : KeptDesk) → is_thing ≡ true → option_map (λ (things : List Thing). record kept { things = things }) (with_thing_item kept.things item) ≡ Some after → IsOneMore kept item after
  unfolding is_thing
  of_thing o after b e =
      let m = mapped_some (λ (things : List Thing). record kept { things = things }) (with_thing_item kept.things item) after e in
      let three : (item.kind == 1 && is_empty kept.files && have_none kept.binds) ≡ true = left_of (item.kind == 1 && is_empty kept.files && have_none kept.binds) (is_none kept.stamp) b in
      let two : (item.kind == 1 && is_empty kept.files) ≡ true = left_of (item.kind == 1 && is_empty kept.files) (have_none kept.binds) three in
      subst (λ k. IsOneMore kept item k) m.2
      (thing_more m.0 (right_of (item.kind == 1) (is_empty kept.files) two) (right_of (item.kind == 1 && is_empty kept.files) (have_none kept.binds) three) (right_of (item.kind == 1 && is_empty kept.files && have_none kept.binds) (is_none kept.stamp) b) m.1)

  of_file : (after : KeptDesk) → is_file ≡ true → option_map (λ (files : List CachedFile). record kept { files = files }) (with_file_item kept.files item) ≡ Some after → IsOneMore kept item after
  unfolding is_file
  of_file after b e =
      let m = mapped_some (λ (files : List CachedFile). record kept { files = files }) (with_file_item kept.files item) after e in
      let two : (item.kind == 2 && have_none kept.binds) ≡ true = left_of (item.kind == 2 && have_none kept.binds) (is_none kept.stamp) b in
      let kind : item.kind ≡ 2 = eqb-true item.kind 2 (left_of (item.kind == 2) (have_none kept.binds) two) in
      subst (λ k. IsOneMore kept item k) m.2
      (file_more m.0 (unequal item.kind 1 (λ f. omega (arith, kind, f)) (item.kind == 1) refl) (right_of (item.kind == 2) (have_none kept.binds) two) (right_of (item.kind == 2 && have_none kept.binds) (is_none kept.stamp) b) m.1)

  of_bind : (after : KeptDesk) → is_bind ≡ true → option_map (λ (binds : Binds). record kept { binds = binds }) (with_bind_item kept.binds item) ≡ Some after → IsOneMore kept item after
  unfolding is_bind
  of_bind after b e =
      let m = mapped_some (λ (binds : Binds). record kept { binds = binds }) (with_bind_item kept.binds item) after e in
      let two : (nat_lt 2 item.kind && nat_lt item.kind 6) ≡ true = left_of (nat_lt 2 item.kind && nat_lt item.kind 6) (is_none kept.stamp) b in
      let low : 2 < item.kind = ltb-true 2 item.kind (left_of (nat_lt 2 item.kind) (nat_lt item.kind 6) two) in
      subst (λ k. IsOneMore kept item k) m.2
      (bind_more m.0 (unequal item.kind 1 (λ f. omega (arith, low, f)) (item.kind == 1) refl) (right_of (nat_lt 2 item.kind && nat_lt item.kind 6) (is_none kept.stamp) b) m.1)

  of_stamp : (after : KeptDesk) → is_last ≡ true → option_map (λ (moment : ℕ). record kept { stamp = Some moment }) (with_stamp_item kept.stamp item) ≡ Some after → IsOneMore kept item after
  unfolding is_last
  of_stamp after b e =
      let m = mapped_some (λ (moment : ℕ). record kept { stamp = Some moment }) (with_stamp_item kept.stamp item) after e in
      let kind : item.kind ≡ 6 = eqb-true item.kind 6 b in
      subst (λ k. IsOneMore kept item k) m.2 (stamp_more m.0 (unequal item.kind 1 (λ f. omega (arith, kind, f)) (item.kind == 1) refl) m.1)

  one_more : (after : KeptDesk) → with_desk_item kept item ≡ Some after → IsOneMore kept item after
  unfolding with_item is_thing is_file is_bind is_last
  one_more after e =
      let things : Option KeptDesk = option_map (λ (things : List Thing). record kept { things = things }) (with_thing_item kept.things item) in
      let files : Option KeptDesk = option_map (λ (files : List CachedFile). record kept { files = files }) (with_file_item kept.files item) in
      let binds : Option KeptDesk = option_map (λ (binds : Binds). record kept { binds = binds }) (with_bind_item kept.binds item) in
      let stamp : Option KeptDesk = option_map (λ (moment : ℕ). record kept { stamp = Some moment }) (with_stamp_item kept.stamp item) in
      elim (chosen is_thing things (cond is_file files (cond is_bind binds (cond is_last stamp None))) (Some after) e) [
        | inl a ↦ of_thing None after a.0 a.1
        | inr a ↦ elim (chosen is_file files (cond is_bind binds (cond is_last stamp None)) (Some after) a.1) [
          | inl b ↦ of_file after b.0 b.1
          | inr b ↦ elim (chosen is_bind binds (cond is_last stamp None) (Some after) b.1) [
            | inl d ↦ of_bind after d.0 d.1
            | inr d ↦ let p = pass_some is_last after stamp d.1 in of_stamp after p.0 p.1
          ]
        ]
      ]

-- ---- All items

desk_taken : (kept : KeptDesk) (items : List Item) (after : KeptDesk) → IsSound (desk_of kept) → AllByRecursion (λ item. IsOctets item.body) items → all_taken with_desk_item kept items ≡ Some after → IsSound (desk_of after) × (items_of (desk_of after) ≡ items_of (desk_of kept) ++ map in_second items)
desk_taken kept [] after sound octets e = (
  subst (λ k. IsSound (desk_of k)) (some_is kept after e) sound,
  ap (λ k. items_of (desk_of k)) (sym (some_is kept after e)) ∙ sym (append-nil (items_of (desk_of kept))),
)
desk_taken kept (item ∷ items) after sound octets e =
    let b = bind_some (with_desk_item kept item) (λ next. all_taken with_desk_item next items) after e in
    let one : IsOneMore kept item b.0 = one_more kept item sound octets.0 b.0 b.1 in
    let rest = desk_taken b.0 items after one.sound octets.1 b.2 in
    (rest.0, rest.1 ∙ ap (λ (t : List Item). t ++ map in_second items) one.items ∙ append_assoc (items_of (desk_of kept)) (in_second item ∷ []) (map in_second items))

no_entries : entry_count [] ≤ 4096
unfolding entry_count
no_entries = omega arith

none_sound : IsSound (desk_of none_kept)
unfolding desk_of none_kept no_binds
none_sound =
    let binds : IsSoundBinds no_binds = sound_no_binds in
    record {
      tables = record { things = no_things; classes = binds.classes; locals = binds.locals; names = binds.names };
      files = record { ascend = tt; each = tt; few = omega arith; entries = no_entries };
      stamp = tt;
    }

none_items : items_of (desk_of none_kept) ≡ []
unfolding items_of desk_of none_kept no_binds binds_of thing_items file_items bind_items locals_items stamp_items
none_items = refl

pub read_from : (items : List Item) (read : Result KeptDesk Item) (desk : DeskTables) → desk_in read ≡ Ok desk → (kept : KeptDesk) × (read ≡ Ok kept) × (desk_of kept ≡ desk)
read_from items (Ok kept) desk e = (kept, refl, cc)
read_from items (Err item) desk e = absurd cc

pub desk_alone : (items : List Item) (desk : DeskTables) → AllByRecursion (λ item. IsOctets item.body) items → tables_in items ≡ Ok desk → IsSound desk × (items_of desk ≡ in_second_version items)
unfolding tables_in in_second_version
desk_alone items desk octets e =
    let r = read_from items (kept_in none_kept items) desk e in
    let t = desk_taken none_kept items r.0 none_sound octets (taken_by_kept none_kept items r.0 r.1) in
    (subst IsSound r.2 t.0, ap items_of (sym r.2) ∙ t.1 ∙ ap (λ (xs : List Item). xs ++ map in_second items) none_items)

-- ---- A new desk

pub empty_sound : IsSound empty_desk × (items_of empty_desk ≡ [])
unfolding empty_desk desk_of none_kept no_binds
empty_sound = (none_sound, none_items)
