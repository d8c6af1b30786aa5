-- The items that a crash may leave.
use Rattle.std.proofs.Common.{◌≡◌, ◌⊎◌, inl, inr, false, Ok, Err, Result, List, [], OnOk, IsTrue, refl, sym, ap, subst, ◌∙◌}
use Rattle.std.proofs.Math.Logic.{∥∥₁_map}
use Rattle.sqlite_disk.specs.declared.Disk as disk
use Rattle.sqlite_trees.specs.declared.store.Store.{Ghosts}
use Rattle.sqlite.specs.declared.FileStore.{FileStore}
use Rattle.sqlite.specs.FileStore.{recovers, view}
use Rattle.sqlite.specs.Effect.{Database, IsDatabase}
use Rattle.sqlite.specs.Held.{state, AreDatabases}
use Rattle.sqlite.specs.State.{HasCleanDisk, IsLive, Survives}
use Rattle.sqlite_trees.specs.Tree.{Trees}
use Rattle.sqlite.proofs.Theorems.{opens_again}
use Rattle.mud_world.specs.declared.item.Item.{Item}
use Rattle.mud_world.specs.declared.item.Put.{Put}
use Rattle.mud_world.specs.Items.{put_all}
use Rattle.keep_sqlite.specs.Reopened.{IsFoundNext, IsHeldNext}
use Rattle.keep_sqlite.specs.Rows.{held_items, items_of, AreTreesOf, HoldsItems, MayHold}
use Rattle.keep_sqlite.specs.Table.{item_schema}
use Rattle.keep_sqlite.specs.Telling.{database, told, IsUp, KeeperView, Leaves, LeavesNow, LeavesStore, LeavesTold, MayBeLeft, MayLeave, MayLeaveMade, Tells}
use Rattle.keep_sqlite.proofs.Reopens.{clean_before, same_database}
use Rattle.keep_sqlite.proofs.Tellings.{held_is, held_none}

items_left : (items : List Item) (db : Database) → IsDatabase db → AreTreesOf items db.trees → held_items db ≡ items
items_left items db sound are =
    let holder : Database = record { schema = item_schema; trees = db.trees } in
    ap held_items (same_database db holder sound are.0.sound refl) ∙ held_is holder are.0 ∙ are.1

holds_left : (items : List Item) (db : Database) → IsDatabase db → AreTreesOf items db.trees → HoldsItems db
holds_left items db sound are =
    let holder : Database = record { schema = item_schema; trees = db.trees } in
    subst HoldsItems (sym (same_database db holder sound are.0.sound refl)) are.0

holds_opened : (b : _) (db : Database) → IsTrue b → MayHold b db → HoldsItems db
holds_opened b db opened (inl holds) = holds
holds_opened b db opened (inr blank) = absurd (let e = sym opened ∙ blank.0 in cc)

module _ {S : Type 0} (g : Ghosts S) (old new : KeeperView S) where
  was_left : {P : Trees → Type 0} → (crash : Survives (state g old.connection) (state g new.connection) P) → (list : List Item) → (it : MayBeLeft g new list)
      → (state g old.connection).may_leave it.db.trees → MayBeLeft g old list
  was_left crash list it before = record { clean = clean_before _ _ crash.clean it.clean; db = it.db; sound = it.sound; left = before; items = it.items }

  -- what an opening leaves
  pub read_left : MayLeaveMade g old new → (list : List Item) → MayBeLeft g new list → MayBeLeft g old list ⊎ (list ≡ told g old)
  read_left crash list it = elim (crash.crash it.clean it.db.trees it.left) [
    | inl before ↦ inl (was_left crash list it before)
    | inr made ↦ inr (sym it.items ∙ items_left [] it.db it.sound made.1 ∙ sym (held_none (database g old) made.0))
  ]

  -- what a batch leaves
  pub put_left : (batch : List Put) → IsTrue old.has_opened → MayLeave g old new (put_all (items_of (database g old)) batch)
      → (list : List Item) → MayBeLeft g new list → MayBeLeft g old list ⊎ (Tells g old × (list ≡ put_all (told g old) batch))
  put_left batch opened crash list it = elim (crash.crash it.clean it.db.trees it.left) [
    | inl before ↦ inl (was_left crash list it before)
    | inr made ↦ inr (
      made.0,
      sym it.items ∙ items_left (put_all (items_of (database g old)) batch) it.db it.sound made.1
          ∙ ap (λ items. put_all items batch) (sym (held_is (database g old) (holds_opened old.has_opened (database g old) opened made.0.1))),
    )
  ]

  -- what is told behind an opening
  pub told_read : MayLeaveMade g old new → (Tells g new → Tells g old) → (Tells g new → told g new ≡ told g old) → LeavesTold g old → LeavesTold g new
  told_read crash before same was tells list it = elim (read_left crash list it) [ inl m ↦ was (before tells) list m ∙ sym (same tells) | inr is ↦ is ∙ sym (same tells) ]

  -- and behind a batch
  pub told_put : (new.connection ≡ old.connection) ⊎ (new.connection.in_transaction ≡ false) → new.has_opened ≡ old.has_opened
      → (new.connection.in_transaction ≡ false → LeavesTold g new) → LeavesTold g old → LeavesTold g new
  told_put (inr none) opened rests was tells list it = rests none tells list it
  told_put (inl same) opened rests was tells list it =
      let before : Tells g old = subst (λ c. IsUp g c × MayHold old.has_opened (state g c).now) same (subst (λ b. IsUp g new.connection × MayHold b (database g new)) opened tells) in
      let left : MayBeLeft g old list = record {
        clean = before.0.0;
        db = it.db;
        sound = it.sound;
        left = subst (λ c. (state g c).may_leave it.db.trees) same it.left;
        items = it.items;
      } in
      was before list left ∙ ap (λ c. held_items (state g c).now) (sym same)

  -- what is left is a store, where it was before
  pub store_left : (P : Trees → Type 0) → Survives (state g old.connection) (state g new.connection) P → ((db : Database) → IsDatabase db → P db.trees → HoldsItems db)
      → LeavesStore g old → LeavesStore g new
  store_left P crash holds was clean db sound left = elim (crash.crash clean db.trees left) [
    | inl before ↦ was (clean_before _ _ crash.clean clean) db sound before
    | inr made ↦ inl (holds db sound made)
  ]

  pub store_read : MayLeaveMade g old new → LeavesStore g old → LeavesStore g new
  store_read crash = store_left _ crash (λ db sound made. holds_left [] db sound made.1)

  pub store_put : (items : List Item) → MayLeave g old new items → LeavesStore g old → LeavesStore g new
  store_put items crash = store_left _ crash (λ db sound made. holds_left items db sound made.1)

  pub rests_left : (HasCleanDisk (state g new.connection) → Tells g new) → (Tells g new → Leaves g new (told g new))
      → (list : List Item) → MayBeLeft g new list → Tells g new × (list ≡ told g new)
  rests_left tells leaves list it =
      let told = tells it.clean in (told, sym it.items ∙ items_left _ it.db it.sound (leaves told it.db.trees it.left))

-- what is left of a store that is open and settled
pub now_left : {S : Type 0} (g : Ghosts S) (keeper : KeeperView S)
    → ((trees : Trees) → IsTrue (state g keeper.connection).is_open → (state g keeper.connection).may_leave trees → trees ≡ (state g keeper.connection).committed.trees)
    → (IsTrue (state g keeper.connection).is_open → (state g keeper.connection).now ≡ (state g keeper.connection).committed) → IsLive (state g keeper.connection) → LeavesNow g keeper
now_left g keeper settled same live up db sound left =
    same_database db (database g keeper) sound (live up.1).0 (settled db.trees up.1 left ∙ ap (λ (d : Database). d.trees) (sym (same up.1)))

pub told_left : {S : Type 0} (g : Ghosts S) (keeper : KeeperView S) → LeavesNow g keeper → LeavesTold g keeper
told_left g keeper now tells list it = sym it.items ∙ ap held_items (now tells.0 it.db it.sound it.left)

-- what holds behind an Ok under a premise
pub on_ok_given : {A E T C P Q : Type 0} (r : Result A E) → (C → OnOk r T) → (T → OnOk r P) → ((C → T) → (T → P) → Q) → OnOk r Q
on_ok_given (Ok a) t p f = f t p
on_ok_given (Err e) t p f = tt

-- what is left of a store, the next first opening finds
pub left_next : {D : Type 0} {g : disk.Ghosts D} (it : FileStore D g) (Lists : List Item → Type 0) → IsTrue (view it).is_numbered → AreDatabases (recovers it)
    → ((db : Database) → IsDatabase db → recovers it db.trees → Lists (held_items db)) → IsFoundNext it Lists
left_next it Lists numbered sound may left list leaves reads =
    ∥∥₁_map (opens_again it numbered sound left leaves) (λ db.
    let schema = sound db.0 db.1 in
    let held : Database = record { schema = schema.0; trees = db.0 } in
    subst Lists (sym (reads held (schema.1, db.2))) (may held schema.1 db.1))

-- and where that is a store, finds a store
pub store_next : {D : Type 0} {g : disk.Ghosts D} (it : FileStore D g) → IsTrue (view it).is_numbered → AreDatabases (recovers it)
    → ((db : Database) → IsDatabase db → recovers it db.trees → MayHold false db) → IsHeldNext it
store_next it numbered sound may left leaves =
    ∥∥₁_map (opens_again it numbered sound left leaves) (λ db.
    let schema = sound db.0 db.1 in
    let held : Database = record { schema = schema.0; trees = db.0 } in
    inl (held, (schema.1, db.2), may held schema.1 db.1))

-- a first opening answers one of fewer lists
pub found_as : {D : Type 0} {g : disk.Ghosts D} (it : FileStore D g) (Lists Fewer : List Item → Type 0) → ((list : List Item) → Lists list → Fewer list)
    → IsFoundNext it Lists → IsFoundNext it Fewer
found_as it Lists Fewer fewer found left list leaves reads = ∥∥₁_map (found left list leaves reads) (fewer list)
