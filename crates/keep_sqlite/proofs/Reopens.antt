-- A database that is found is the one that the files held.
use Rattle.std.proofs.Common.{◌≡◌, ◌⊎◌, arith, inl, inr, ℕ, ◌≤◌, Ok, Err, Result, IfOk, IfErr, OnOk, List, IsTrue, refl, sym, ap, subst, ◌∙◌}
use Rattle.std.proofs.Math.Logic.{∥∥₁_map}
use Rattle.sqlite_disk.specs.declared.Disk.{Ghosts}
use Rattle.sqlite_catalog.specs.Listing.{Lists}
use Rattle.sqlite_catalog.proofs.ReadLemmas.{lists_once}
use Rattle.sqlite_trees.specs.Tree.{Trees}
use Rattle.sqlite_trees.specs.Objects.{catalog_tree}
use Rattle.sqlite.specs.declared.FileStore.{FileStore}
use Rattle.sqlite.specs.FileStore.{recovers, view}
use Rattle.sqlite.specs.Schema.{Schema}
use Rattle.sqlite.specs.Effect.{Database, IsDatabase}
use Rattle.sqlite.specs.State.{HasCleanDisk}
use Rattle.sqlite.specs.Held.{state, AreDatabases, Held}
use Rattle.sqlite.specs.Recovery.{Image}
use Rattle.sqlite.specs.Files.{file_state, over_files, IsOpened}
use Rattle.sqlite.specs.Start.{FindsIn}
use Rattle.sqlite.proofs.Theorems.{opens_again}
use Rattle.mud_world.specs.declared.item.Item.{Item}
use Rattle.keep_sqlite.specs.Table.{item_schema}
use Rattle.keep_sqlite.specs.Rows.{held_items, AreTreesOf}
use Rattle.keep_sqlite.specs.Reopened.{HeldDatabase, IsFoundNext}
use Rattle.keep_sqlite.specs.Telling.{IsUp}
use Rattle.keep_sqlite.proofs.Tellings.{held_is}

abbrev database_of : Schema → Trees → Database
database_of schema trees = record { schema = schema; trees = trees }

same_parts : (s t : Schema) (one other : Trees) → s ≡ t → one ≡ other → database_of s one ≡ database_of t other
same_parts s t one other schemas trees = ap (λ schema. database_of schema one) schemas ∙ ap (database_of t) trees

-- two databases with the same trees are the same, since the trees list the schema
pub same_database : (a b : Database) → IsDatabase a → IsDatabase b → a.trees ≡ b.trees → a ≡ b
same_database a b one other trees =
    let lists = subst (λ (t : Trees). Lists (t catalog_tree) a.schema) trees one.lists in
    same_parts a.schema b.schema a.trees b.trees (lists_once (b.trees catalog_tree) a.schema b.schema lists other.lists) trees

module _ {D : Type 0} {g : Ghosts D} (opened adopted : Held (FileStore D g)) (image : Image) (held : Database) (same : adopted ≡ opened) (up : IsUp over_files adopted)
    (is_opened : HasCleanDisk (file_state opened) → IsOpened opened) (finds : HasCleanDisk (file_state opened) → FindsIn image (file_state opened)) (holds : HeldDatabase image held) where
  pub found_in : (state over_files adopted).now ≡ held
  found_in =
      let clean = (subst (IsUp over_files) same up).0 in
      let it = is_opened clean in
      let settled = ap (λ (d : Database). d.trees) it.0.clean ∙ (finds clean).holds held.trees holds.1 in
      ap (λ connection. (state over_files connection).now) same ∙ same_database (file_state opened).now held (it.1 it.0.is_open).0 holds.0 settled

  pub reads_file : (list : List Item) → list ≡ held_items (state over_files adopted).now → list ≡ held_items held
  reads_file list read = read ∙ ap held_items found_in

-- an error that is told in another way
pub if_ok_told : {C E F : Type 0} (tell : E → F) (answer : Result C E) (told : Result C F) (P : C → Type 0)
    → IfOk answer (λ c. told ≡ Ok c) → IfErr answer (λ e. told ≡ Err (tell e)) → IfOk answer P → IfOk told P
if_ok_told tell (Ok c) told P ok err p = subst (λ r. IfOk r P) (sym ok) p
if_ok_told tell (Err e) told P ok err p = subst (λ r. IfOk r P) (sym err) tt

-- the items of what a crash leaves are those that a first opening of it answers
pub found_next : {D : Type 0} {g : Ghosts D} (it : FileStore D g) (Items : List Item → Type 0) → IsTrue (view it).is_numbered → AreDatabases (recovers it)
    → ((trees : Trees) → recovers it trees → (items : List Item) × Items items × AreTreesOf items trees) → IsFoundNext it Items
found_next it Items numbered sound leaves left list may reads =
    ∥∥₁_map (opens_again it numbered sound left may) (λ db.
    let found = leaves db.0 db.1 in
    let held : Database = record { schema = item_schema; trees = db.0 } in
    let holds = found.2.0 in
    let same = reads held (holds.sound, db.2) ∙ held_is held holds ∙ found.2.1 in
    subst Items (sym same) found.1)

pub one_of : (one other : List Item) (trees : Trees) → AreTreesOf one trees ⊎ AreTreesOf other trees
    → (items : List Item) × ((items ≡ one) ⊎ (items ≡ other)) × AreTreesOf items trees
one_of one other trees (inl are) = (one, inl refl, are)
one_of one other trees (inr are) = (other, inr refl, are)

pub clean_before : (before after : ℕ) → before ≤ after → after ≡ 0 → before ≡ 0
clean_before before after below none = omega arith

pub on_ok_then : {A E : Type 0} {T P L Q : Type 0} (r : Result A E) → OnOk r T → (T → OnOk r P) → (T → OnOk r L) → (P → L → Q) → OnOk r Q
on_ok_then (Ok a) t p l f = f (p t) (l t)
on_ok_then (Err e) t p l f = tt
