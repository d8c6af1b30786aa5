-- The puts of a change of one list and that of the stamp are a batch that makes of the items those after the change.
use Rattle.std.proofs.Common.{◌≡◌, ℕ, ◌+◌, ◌<◌, ◌≤◌, Bool, true, false, not, ◌&&◌, List, [], ◌∷◌, ◌++◌, length, Option, Some, None, refl, sym, ap, ◌∙◌, append_assoc, arith, length-append, lit<}
use Rattle.std.specs.Prelude.{nat_lt, nat_le}
use Rattle.std.specs.List.{AllByRecursion}
use Rattle.std.specs.Ordering.{is_eq}
use Rattle.std.specs.declared.cmp.Ordering.{Ordering}
use Rattle.std.specs.declared.cmp.Ordering.TheVariants.{Less, Equal, Greater}
use Rattle.std.proofs.lemmas.Bool.{lt-ltb, le-leb}
use Rattle.std.proofs.lemmas.List.{append-nil}
use Rattle.base_rows.specs.Sortable.{sort_key_cmp}
use Rattle.base_rows.proofs.SortableLaws.{sort_key_cmp_exact}
use Rattle.base_rows.proofs.ListTests.{left_of, right_of, both}
use Rattle.base_rows.proofs.Lists.{all-append}
use Rattle.mud_world.specs.declared.item.Item.{Item}
use Rattle.mud_world.specs.declared.item.Put.{Put}
use Rattle.mud_world.specs.declared.item.Put.TheVariants.{Set, Gone}
use Rattle.mud_world.specs.Items.{put_one, put_all, sort_key_of_put, is_apart, are_apart, is_batch, kind_of_put, set_put, IsDifference, ArePutsOf, AreOfLowerKinds, AreOfHigherKinds}
use Rattle.mud_world.proofs.ItemLaws.{puts_among}
use Rattle.table_model.specs.declared.thing.Thing.{Thing}
use Rattle.table_model.specs.Binds.{Binds}
use Rattle.table_model.specs.Tables.{binds_of, with_binds}
use Rattle.table_model.specs.ThingItems.{thing_items}
use Rattle.table_model.specs.BindItems.{stamp_item, stamp_items}
use Rattle.table_model.specs.TakenItems.{bind_items}
use Rattle.usage_tables.specs.declared.cached_file.CachedFile.{CachedFile}
use Rattle.usage_tables.specs.FileItems.{file_items}
use Rattle.desk_model.specs.DeskTables.{DeskTables, with_things, with_files, with_desk_binds}
use Rattle.desk_model.specs.Commands.{stamped}
use Rattle.desk_model.specs.Items.{items_of, with_stamp_put, IsKeptBy}
use Rattle.desk_model.proofs.ReadBack.{all_bind_items}
use Rattle.desk_model.proofs.Order.{thing_kinds, file_kinds, stamp_kinds}

-- ---- Puts one behind the other

put_all-append : (items : List Item) (xs ys : List Put) → put_all items (xs ++ ys) ≡ put_all (put_all items xs) ys
put_all-append items [] ys = refl
put_all-append items (x ∷ xs) ys = put_all-append (put_one items x) xs ys

-- each put is of a kind between those of the items in front and behind
abbrev StandAmong : List Item → List Item → List Put → Type 0
StandAmong low high puts = AllByRecursion (λ put. AreOfLowerKinds (kind_of_put put) low × AreOfHigherKinds (kind_of_put put) high) puts

put_all_among : (low own high : List Item) (puts : List Put) → StandAmong low high puts → put_all (low ++ own ++ high) puts ≡ low ++ put_all own puts ++ high
put_all_among low own high [] among = refl
put_all_among low own high (p ∷ ps) among =
    ap (λ items. put_all items ps) (puts_among (kind_of_put p) low own high (p ∷ []) among.0.0 among.0.1 (refl, tt))
    ∙ put_all_among low (put_one own p) high ps among.1

-- the stamp's put makes of any stamp this one
stamp_put : (front : List Item) (stamp : Option ℕ) (now : ℕ) → AreOfLowerKinds 6 front → put_all (front ++ stamp_items stamp) (set_put stamp_item now ∷ []) ≡ front ++ stamp_items (Some now)
unfolding set_put stamp_item stamp_items
stamp_put front None now below =
    ap (λ xs. put_all xs (Set (stamp_item now) ∷ [])) (sym (append-nil (front ++ []))) ∙ puts_among 6 front [] [] (Set (stamp_item now) ∷ []) below tt (refl, tt) ∙ append-nil (front ++ stamp_item now ∷ [])
stamp_put front (Some moment) now below =
    ap (λ xs. put_all xs (Set (stamp_item now) ∷ [])) (sym (append-nil (front ++ stamp_item moment ∷ []))) ∙ puts_among 6 front (stamp_item moment ∷ []) [] (Set (stamp_item now) ∷ []) below tt (refl, tt) ∙ append-nil (front ++ stamp_item now ∷ [])

-- ---- No two are about one sort key

of_kind : (put : Put) (k : ℕ) (key : List ℕ) → sort_key_of_put put ≡ k ∷ key → kind_of_put put ≡ k
of_kind (Set item) k key e = cc
of_kind (Gone kind key') k key e = cc

unlike : (sort_key other : List ℕ) → (sort_key ≡ other → ⊥) → (o : Ordering) → sort_key_cmp sort_key other ≡ o → is_eq o ≡ false
unlike sort_key other ne Less e = refl
unlike sort_key other ne Equal e = absurd (ne (sort_key_cmp_exact sort_key other e))
unlike sort_key other ne Greater e = refl

apart_from_stamp : (put : Put) (now : ℕ) → kind_of_put put < 6 → is_apart (sort_key_of_put put) (set_put stamp_item now ∷ []) ≡ true
unfolding set_put stamp_item
apart_from_stamp put now low = ap (λ b. not b && true) (unlike (sort_key_of_put put) (6 ∷ []) (λ e. omega (arith, low, of_kind put 6 [] e)) (sort_key_cmp (sort_key_of_put put) (6 ∷ [])) refl)

is_apart-append : (sort_key : List ℕ) (xs ys : List Put) → is_apart sort_key xs ≡ true → is_apart sort_key ys ≡ true → is_apart sort_key (xs ++ ys) ≡ true
is_apart-append sort_key [] ys here there = there
is_apart-append sort_key (x ∷ xs) ys here there =
    let b : Bool = not (is_eq (sort_key_cmp sort_key (sort_key_of_put x))) in
    both b (is_apart sort_key (xs ++ ys)) (left_of b (is_apart sort_key xs) here) (is_apart-append sort_key xs ys (right_of b (is_apart sort_key xs) here) there)

apart_with_stamp : (puts : List Put) (now : ℕ) → AllByRecursion (λ put. kind_of_put put < 6) puts → are_apart puts ≡ true → are_apart (puts ++ set_put stamp_item now ∷ []) ≡ true
apart_with_stamp [] now low apart = refl
apart_with_stamp (p ∷ ps) now low apart =
    both (is_apart (sort_key_of_put p) (ps ++ set_put stamp_item now ∷ [])) (are_apart (ps ++ set_put stamp_item now ∷ []))
    (is_apart-append (sort_key_of_put p) ps (set_put stamp_item now ∷ []) (left_of (is_apart (sort_key_of_put p) ps) (are_apart ps) apart) (apart_from_stamp p now low.0))
    (apart_with_stamp ps now low.1 (right_of (is_apart (sort_key_of_put p) ps) (are_apart ps) apart))

is_batch_with_stamp : (puts : List Put) (now : ℕ) → AllByRecursion (λ put. kind_of_put put < 6) puts → are_apart puts ≡ true → length puts ≤ 2 → is_batch (with_stamp_put now puts) ≡ true
unfolding with_stamp_put
is_batch_with_stamp puts now low apart few =
    let all : List Put = puts ++ set_put stamp_item now ∷ [] in
    let count : length (puts ++ set_put stamp_item now ∷ []) ≡ length puts + 1 = length-append puts (set_put stamp_item now ∷ []) in
    both (nat_lt 0 (length all) && nat_le (length all) 4) (are_apart all)
    (both (nat_lt 0 (length all)) (nat_le (length all) 4) (lt-ltb 0 (length all) (omega (arith, count))) (le-leb (length all) 4 (omega (arith, count, few))))
    (apart_with_stamp puts now low apart)

-- ---- A part of the items changes, and the stamp

record IsMadeOf (before after : List Item) (puts : List Put) : Type 0 where
  pub batch : is_batch puts ≡ true
  pub reaches : put_all before puts ≡ after

made : (low own new rest : List Item) (stamp : Option ℕ) (now : ℕ) (puts : List Put) → IsDifference own new puts → length puts ≤ 2 → StandAmong low (rest ++ stamp_items stamp) puts → AllByRecursion (λ put. kind_of_put put < 6) puts → AreOfLowerKinds 6 low → AreOfLowerKinds 6 new → AreOfLowerKinds 6 rest → IsMadeOf ((low ++ own ++ rest) ++ stamp_items stamp) ((low ++ new ++ rest) ++ stamp_items (Some now)) (with_stamp_put now puts)
unfolding with_stamp_put
made low own new rest stamp now puts difference few among below low_below new_below rest_below = record {
  batch = is_batch_with_stamp puts now below difference.apart few;
  reaches =
      put_all-append ((low ++ own ++ rest) ++ stamp_items stamp) puts (set_put stamp_item now ∷ [])
      ∙ ap (λ items. put_all (put_all items puts) (set_put stamp_item now ∷ [])) (append_assoc (low ++ own) rest (stamp_items stamp))
      ∙ ap (λ items. put_all items (set_put stamp_item now ∷ [])) (put_all_among low own (rest ++ stamp_items stamp) puts among ∙ ap (λ n. low ++ n ++ (rest ++ stamp_items stamp)) difference.reaches ∙ sym (append_assoc (low ++ new) rest (stamp_items stamp)))
      ∙ stamp_put (low ++ new ++ rest) stamp now (all-append (λ item. item.kind < 6) (low ++ new) rest (all-append (λ item. item.kind < 6) low new low_below new_below) rest_below);
}

-- ---- Each list of the desk

all_puts : (P Q : Put → Type 0) → ((put : Put) → P put → Q put) → (puts : List Put) → AllByRecursion P puts → AllByRecursion Q puts
all_puts P Q step [] all = tt
all_puts P Q step (p ∷ ps) all = (step p all.0, all_puts P Q step ps all.1)

module _ (desk : DeskTables) (now : ℕ) where
  thing_below : (k : ℕ) → 1 < k → AreOfLowerKinds k (thing_items desk.tables.things)
  thing_below k low = thing_kinds (λ item. item.kind < k) (λ item e. omega (arith, e, low)) desk

  file_below : (k : ℕ) → 2 < k → AreOfLowerKinds k (file_items desk.files)
  file_below k low = file_kinds (λ item. item.kind < k) (λ item e. omega (arith, e, low)) desk

  file_above : (k : ℕ) → k < 2 → AreOfHigherKinds k (file_items desk.files)
  file_above k low = file_kinds (λ item. k < item.kind) (λ item e. omega (arith, e, low)) desk

  binds_below : (binds : Binds) → AreOfLowerKinds 6 (bind_items binds)
  binds_below binds = all_bind_items (λ item. item.kind < 6) (λ item e f. f) binds

  binds_above : (k : ℕ) → k < 3 → AreOfHigherKinds k (bind_items (binds_of desk.tables))
  binds_above k low = all_bind_items (λ item. k < item.kind) (λ item e f. omega (arith, e, low)) (binds_of desk.tables)

  stamp_above : (k : ℕ) → k < 6 → AreOfHigherKinds k (stamp_items desk.stamp)
  stamp_above k low = stamp_kinds (λ item. k < item.kind) (λ item e. omega (arith, e, low)) desk.stamp

  pub things_kept : (things : List Thing) (puts : List Put) → IsDifference (thing_items desk.tables.things) (thing_items things) puts → ArePutsOf 1 puts → length puts ≤ 2 → IsKeptBy desk (stamped true now (with_things things desk)) (with_stamp_put now puts)
  unfolding items_of stamped with_things binds_of
  things_kept things puts difference kind few =
      let binds : List Item = bind_items (binds_of desk.tables) in
      let rest : List Item = file_items desk.files ++ binds in
      let rest_above : (k : ℕ) → k < 2 → AreOfHigherKinds k (rest ++ stamp_items desk.stamp) =
      λ k low. all-append (λ item. k < item.kind) rest (stamp_items desk.stamp) (all-append (λ item. k < item.kind) (file_items desk.files) binds (file_above k low) (binds_above k (omega (arith, low)))) (stamp_above k (omega (arith, low))) in
      let m = made [] (thing_items desk.tables.things) (thing_items things) rest desk.stamp now puts difference few
      (all_puts (λ put. kind_of_put put ≡ 1) (λ put. Unit {0} × AreOfHigherKinds (kind_of_put put) (rest ++ stamp_items desk.stamp)) (λ put e. (tt, rest_above (kind_of_put put) (omega (arith, e)))) puts kind)
      (all_puts (λ put. kind_of_put put ≡ 1) (λ put. kind_of_put put < 6) (λ put e. omega (arith, e)) puts kind) tt
      (thing_kinds (λ item. item.kind < 6) (λ item e. omega (arith, e)) (with_things things desk))
      (all-append (λ item. item.kind < 6) (file_items desk.files) binds (file_below 6 (lit< tt)) (binds_below (binds_of desk.tables))) in
      let flat : (t s : List Item) → t ++ (file_items desk.files ++ (binds ++ s)) ≡ (t ++ rest) ++ s = λ t s. ap (λ (x : List Item). t ++ x) (sym (append_assoc (file_items desk.files) binds s)) ∙ sym (append_assoc t rest s) in
      record {
        batch = m.batch;
        reaches = ap (λ (items : List Item). put_all items (with_stamp_put now puts)) (flat (thing_items desk.tables.things) (stamp_items desk.stamp)) ∙ m.reaches ∙ sym (flat (thing_items things) (stamp_items (Some now)));
      }

  pub files_kept : (files : List CachedFile) (puts : List Put) → IsDifference (file_items desk.files) (file_items files) puts → ArePutsOf 2 puts → length puts ≤ 2 → IsKeptBy desk (stamped true now (with_files files desk)) (with_stamp_put now puts)
  unfolding items_of stamped with_files binds_of
  files_kept files puts difference kind few =
      let binds : List Item = bind_items (binds_of desk.tables) in
      let things : List Item = thing_items desk.tables.things in
      let m = made things (file_items desk.files) (file_items files) binds desk.stamp now puts difference few
      (all_puts (λ put. kind_of_put put ≡ 2) (λ put. AreOfLowerKinds (kind_of_put put) things × AreOfHigherKinds (kind_of_put put) (binds ++ stamp_items desk.stamp)) (λ put e. (thing_below (kind_of_put put) (omega (arith, e)), all-append (λ item. kind_of_put put < item.kind) binds (stamp_items desk.stamp) (binds_above (kind_of_put put) (omega (arith, e))) (stamp_above (kind_of_put put) (omega (arith, e))))) puts kind)
      (all_puts (λ put. kind_of_put put ≡ 2) (λ put. kind_of_put put < 6) (λ put e. omega (arith, e)) puts kind)
      (thing_below 6 (lit< tt))
      (file_kinds (λ item. item.kind < 6) (λ item e. omega (arith, e)) (with_files files desk))
      (binds_below (binds_of desk.tables)) in
      let flat : (f s : List Item) → things ++ (f ++ (binds ++ s)) ≡ (things ++ f ++ binds) ++ s = λ f s. sym (append_assoc things f (binds ++ s)) ∙ sym (append_assoc (things ++ f) binds s) in
      record {
        batch = m.batch;
        reaches = ap (λ (items : List Item). put_all items (with_stamp_put now puts)) (flat (file_items desk.files) (stamp_items desk.stamp)) ∙ m.reaches ∙ sym (flat (file_items files) (stamp_items (Some now)));
      }

  pub binds_kept : (binds : Binds) (puts : List Put) → IsDifference (bind_items (binds_of desk.tables)) (bind_items binds) puts → AllByRecursion (λ put. (2 < kind_of_put put) × (kind_of_put put < 6)) puts → length puts ≤ 2 → IsKeptBy desk (stamped true now (with_desk_binds binds desk)) (with_stamp_put now puts)
  unfolding items_of stamped with_desk_binds with_binds binds_of
  binds_kept binds puts difference kind few =
      let front : List Item = thing_items desk.tables.things ++ file_items desk.files in
      let front_below : (k : ℕ) → 2 < k → AreOfLowerKinds k front =
      λ k low. all-append (λ item. item.kind < k) (thing_items desk.tables.things) (file_items desk.files) (thing_below k (omega (arith, low))) (file_below k low) in
      let m = made front (bind_items (binds_of desk.tables)) (bind_items binds) [] desk.stamp now puts difference few
      (all_puts (λ put. (2 < kind_of_put put) × (kind_of_put put < 6)) (λ put. AreOfLowerKinds (kind_of_put put) front × AreOfHigherKinds (kind_of_put put) (stamp_items desk.stamp)) (λ put e. (front_below (kind_of_put put) e.0, stamp_above (kind_of_put put) e.1)) puts kind)
      (all_puts (λ put. (2 < kind_of_put put) × (kind_of_put put < 6)) (λ put. kind_of_put put < 6) (λ put e. e.1) puts kind)
      (front_below 6 (lit< tt)) (binds_below binds) tt in
      let flat : (b s : List Item) → thing_items desk.tables.things ++ (file_items desk.files ++ (b ++ s)) ≡ (front ++ b ++ []) ++ s = λ b s. sym (append_assoc (thing_items desk.tables.things) (file_items desk.files) (b ++ s)) ∙ sym (append_assoc front b s) ∙ ap (λ (x : List Item). x ++ s) (sym (append-nil (front ++ b))) in
      record {
        batch = m.batch;
        reaches = ap (λ (items : List Item). put_all items (with_stamp_put now puts)) (flat (bind_items (binds_of desk.tables)) (stamp_items desk.stamp)) ∙ m.reaches ∙ sym (flat (bind_items binds) (stamp_items (Some now)));
      }
