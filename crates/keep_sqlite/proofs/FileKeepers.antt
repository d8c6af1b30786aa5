-- What a keeper tells whose file was just opened.
use Rattle.std.proofs.Common.{◌≡◌, inl, inr, false, IsTrue, Ok, Err, Result, Option, Some, None, [], IfOk, IfErr, IfSome, refl, sym, subst}
use Rattle.sqlite_disk.specs.declared.Disk.{Ghosts}
use Rattle.sqlite_trees.specs.Objects.{catalog_tree}
use Rattle.sqlite.specs.declared.FileStore.{FileStore}
use Rattle.sqlite.specs.declared.error.Error.{Error}
use Rattle.sqlite.specs.declared.file.Leftover.{Leftover}
use Rattle.sqlite.specs.Effect.{Database}
use Rattle.sqlite.specs.FileStore.{view}
use Rattle.sqlite.specs.State.{HasCleanDisk}
use Rattle.sqlite.specs.Held.{Held, IsNew}
use Rattle.sqlite.specs.Recovery.{Image}
use Rattle.sqlite.specs.Files.{file_state, over_files, IsBlankAs, IsOpened}
use Rattle.sqlite.specs.Start.{FindsIn}
use Rattle.keep_sqlite.specs.declared.refusal.Refusal.{Refusal}
use Rattle.keep_sqlite.specs.FileKeepers.{is_read, opened_items, FailsOnFiles, FailsToConnect, IsAdopted, IsJustOpened, IsOpenedOver, IsSystemError, OpenedIsClean, OpenedLeavesTold, OpenedSees, OpenedTells, UnconnectedFor, UnopenedFor}
use Rattle.keep_sqlite.specs.Refusals.{refusal_of}
use Rattle.keep_sqlite.specs.Reopened.{HeldDatabase, HeldStore, ReadsFile}
use Rattle.keep_sqlite.specs.Rows.{MayHold}
use Rattle.keep_sqlite.specs.Standing.{IsAtRest}
use Rattle.keep_sqlite.specs.Table.{no_schema}
use Rattle.keep_sqlite.specs.Telling.{database, told, IsUp, KeeperView}
use Rattle.keep_sqlite.proofs.Reopens.{found_in, reads_file}
use Rattle.keep_sqlite.proofs.Blank.{empty_found, empty_schema}
use Rattle.keep_sqlite.proofs.Tellings.{held_none}

pub if_some_map : {A : Type 0} {P Q : A → Type 0} (o : Option A) → IfSome o P → ((a : A) → P a → Q a) → IfSome o Q
if_some_map None p f = tt
if_some_map (Some a) p f = f a p

pub if_ok_map : {A E : Type 0} {P Q : A → Type 0} (r : Result A E) → IfOk r P → ((a : A) → P a → Q a) → IfOk r Q
if_ok_map (Ok a) p f = f a p
if_ok_map (Err e) p f = tt

pub if_err_later : {A E C : Type 0} (P : E → Type 0) (r : Result A E) → (C → IfErr r P) → IfErr r (λ e. C → P e)
if_err_later P (Ok a) p = tt
if_err_later P (Err e) p = p

module _ {D : Type 0} {g : Ghosts D} (image : Image) where
  -- what the database says of a connection, in one
  pub just_opened : {E : Type 0} (answer : Result (Held (FileStore D g)) E) → IfOk answer IsNew → IfOk answer (λ c. HasCleanDisk (file_state c) → IsOpened c)
      → IfOk answer (λ c. HasCleanDisk (file_state c) → FindsIn image (file_state c))
      → IfOk answer (λ c. HasCleanDisk (file_state c) → IsBlankAs false image → (view c.store).has_sums ≡ false)
      → IfOk answer (λ c. HasCleanDisk (file_state c) → (file_state c).IsShielded) → IfOk answer (IsJustOpened image)
  just_opened (Ok c) fresh is_opened finds sums guarded = record { fresh = fresh; opened = is_opened; finds = finds; plain = sums; guarded = guarded }
  just_opened (Err e) fresh is_opened finds sums guarded = tt

  -- what holds of the connection holds of the keeper's
  adopted_is : (P : Held (FileStore D g) → Type 0) (opened : Result (Held (FileStore D g)) Refusal) (keeper : Result (KeeperView (FileStore D g)) Refusal)
      → IsAdopted opened keeper → IfOk opened P → IfOk keeper (λ k. P k.connection)
  adopted_is P (Ok connection) (Ok keeper) adopted p = subst P (sym adopted.0) p
  adopted_is P (Ok connection) (Err refusal) adopted p = tt
  adopted_is P (Err refusal) (Ok keeper) adopted p = absurd adopted
  adopted_is P (Err refusal) (Err again) adopted p = tt

  found_file : (opened : Result (Held (FileStore D g)) Refusal) (keeper : Result (KeeperView (FileStore D g)) Refusal) → IsAdopted opened keeper
      → IfOk opened (λ c. HasCleanDisk (file_state c) → IsOpened c)
      → IfOk opened (λ c. HasCleanDisk (file_state c) → FindsIn image (file_state c))
      → OpenedTells over_files keeper → ReadsFile image (opened_items over_files keeper)
  found_file (Ok connection) (Ok keeper) adopted is_opened finds tells held holds =
      reads_file connection keeper.connection image held adopted.0 tells.0 is_opened finds holds (told over_files keeper) refl
  found_file (Ok connection) (Err refusal) adopted is_opened finds tells held holds = absurd tells
  found_file (Err refusal) (Ok keeper) adopted is_opened finds tells held holds = absurd adopted
  found_file (Err refusal) (Err again) adopted is_opened finds tells held holds = absurd tells

  -- a connection that was just opened is open
  up_file : (opened adopted : Held (FileStore D g)) → adopted ≡ opened → (HasCleanDisk (file_state opened) → IsOpened opened) → HasCleanDisk (file_state adopted) → IsUp over_files adopted
  up_file opened adopted same is_opened clean =
      let first = subst (λ c. HasCleanDisk (file_state c)) same clean in
      (clean, subst (λ c. IsTrue (file_state c).is_open) (sym same) (is_opened first).0.is_open)

  sees_file : (opened : Result (Held (FileStore D g)) Refusal) (keeper : Result (KeeperView (FileStore D g)) Refusal) → IsAdopted opened keeper
      → IfOk opened (λ c. HasCleanDisk (file_state c) → IsOpened c)
      → IfOk opened (λ c. HasCleanDisk (file_state c) → FindsIn image (file_state c))
      → (held : Database) → HeldDatabase image held → OpenedIsClean over_files keeper → OpenedSees over_files keeper held
  sees_file (Ok connection) (Ok keeper) adopted is_opened finds held holds clean =
      found_in connection keeper.connection image held adopted.0 (up_file connection keeper.connection adopted.0 is_opened clean) is_opened finds holds
  sees_file (Ok connection) (Err refusal) adopted is_opened finds held holds clean = absurd clean
  sees_file (Err refusal) (Ok keeper) adopted is_opened finds held holds clean = absurd adopted
  sees_file (Err refusal) (Err again) adopted is_opened finds held holds clean = absurd clean

  -- where there was no file, or an empty one, there is no table
  blank_schema : (connection : Held (FileStore D g)) → IsJustOpened image connection → image.db ≡ [] → HasCleanDisk (file_state connection) → (file_state connection).now.schema ≡ no_schema
  blank_schema connection just none clean =
      let opened = just.opened clean in
      let committed = empty_found image (file_state connection).committed.trees none (just.finds clean).reads in
      empty_schema (file_state connection).now (opened.1 opened.0.is_open).0 (subst (λ (d : Database). d.trees catalog_tree ≡ []) (sym opened.0.clean) committed.1)

  blank_file : (keeper : Result (KeeperView (FileStore D g)) Refusal) → IfOk keeper (λ k. IsJustOpened image k.connection)
      → image.db ≡ [] → OpenedIsClean over_files keeper → opened_items over_files keeper ≡ []
  blank_file (Ok keeper) just none clean = held_none (database over_files keeper) (blank_schema keeper.connection just none clean)
  blank_file (Err refusal) just none clean = absurd clean

  -- it is outside a transaction, and sees a store where the files held one
  pub rest_file : (connection : Held (FileStore D g)) → IsJustOpened image connection → IsAtRest over_files image connection
  rest_file connection just = record {
    is_open = λ clean. (just.opened clean).0.is_open;
    autocommit = λ clean. (just.opened clean).0.autocommit;
    sees = λ clean held. elim held [
      | inl (db, holds, may) ↦
          subst (MayHold false) (sym (found_in connection connection image db refl (clean, (just.opened clean).0.is_open) just.opened just.finds holds)) may
      | inr none ↦ inr (refl, blank_schema connection just none clean)
    ];
  }

  -- it tells its items where the files held a store
  tells_file : (keeper : Result (KeeperView (FileStore D g)) Refusal) → is_read keeper ≡ false → IfOk keeper (λ k. IsJustOpened image k.connection)
      → HeldStore image → OpenedIsClean over_files keeper → OpenedTells over_files keeper
  tells_file (Ok keeper) unread just held clean =
      let rest = rest_file keeper.connection just in
      ((clean, rest.is_open clean), subst (λ b. MayHold b (database over_files keeper)) (sym unread) (rest.sees clean held))
  tells_file (Err refusal) unread just held clean = absurd clean

  unopened_file : (opened : Result (Held (FileStore D g)) Refusal) (keeper : Result (KeeperView (FileStore D g)) Refusal) → IsAdopted opened keeper
      → UnconnectedFor image opened → UnopenedFor image keeper
  unopened_file (Ok connection) (Ok keeper) adopted why = tt
  unopened_file (Ok connection) (Err refusal) adopted why = absurd adopted
  unopened_file (Err refusal) (Ok keeper) adopted why = absurd adopted
  unopened_file (Err refusal) (Err again) adopted why = subst (FailsToConnect g image) (sym adopted) why

  -- all that is known of it
  pub opened_file : (opened : Result (Held (FileStore D g)) Refusal) (keeper : Result (KeeperView (FileStore D g)) Refusal) → IsAdopted opened keeper → is_read keeper ≡ false
      → IfOk opened (IsJustOpened image) → OpenedLeavesTold over_files keeper → UnconnectedFor image opened → IsOpenedOver image keeper
  opened_file opened keeper adopted unread just rests why =
      let is_opened = if_ok_map opened just (λ c it. it.opened) in
      let finds = if_ok_map opened just (λ c it. it.finds) in
      let connection = adopted_is (IsJustOpened image) opened keeper adopted just in
      record {
        found = found_file opened keeper adopted is_opened finds;
        rests = rests;
        tells = tells_file keeper unread connection;
        sees = sees_file opened keeper adopted is_opened finds;
        blank = blank_file keeper connection;
        connection = connection;
        unopened = unopened_file opened keeper adopted why;
        unread = unread;
      }

  -- the error of an opening, as it is told
  pub unconnected : (answer : Result (Held (FileStore D g)) (Error × Option (Leftover D g))) (told : Result (Held (FileStore D g)) Refusal)
      → IfOk answer (λ c. told ≡ Ok c) → IfErr answer (λ e. told ≡ Err (refusal_of e.0))
      → IfErr answer (λ e. e.1 ≡ None → IsSystemError e.0)
      → IfErr answer (λ e. IfSome e.1 (λ left. FailsOnFiles g image e.0)) → UnconnectedFor image told
  unconnected (Ok c) told ok err system cause = subst (UnconnectedFor image) (sym ok) tt
  unconnected (Err (e, None)) told ok err system cause =
      subst (UnconnectedFor image) (sym err) (record { error = e; told = refl; fails = inl (system refl) })
  unconnected (Err (e, Some left)) told ok err system cause =
      subst (UnconnectedFor image) (sym err) (record { error = e; told = refl; fails = inr cause })
