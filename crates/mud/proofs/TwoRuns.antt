-- What the next run over a file begins with.
use Rattle.std.proofs.Common.{◌≡◌, inl, inr, List, Result, Option, Some, None, IfSome, sym, subst}
use Rattle.std.proofs.Math.Logic.{∥∥₁_elim, ∥∥₁_map}
use Rattle.sqlite_disk.specs.declared.Disk as disk
use Rattle.sqlite.specs.declared.FileStore.{FileStore}
use Rattle.sqlite.specs.Files.{over_files}
use Rattle.sqlite.specs.FileStore.{view}
use Rattle.sqlite.specs.Recovery.{Image}
use Rattle.sqlite_trees.specs.View.{IsClean}
use Rattle.mud_world.specs.declared.item.Item.{Item}
use Rattle.mud_world.specs.declared.keeper.Keeper.{Ghosts}
use Rattle.keep_sqlite.specs.declared.file_keeper.FileKeeper.{FileKeeper}
use Rattle.keep_sqlite.specs.declared.refusal.Refusal.{Refusal}
use Rattle.keep_sqlite.specs.FileKeepers.{opened_items, OpenedMayLeave, OpenedTells}
use Rattle.keep_sqlite.specs.Reopened.{HeldStore, IsFoundNext, IsHeldNext}
use Rattle.keep_sqlite.specs.Telling.{KeeperView}
use Rattle.keep_sqlite.proofs.LeftItems.{found_as}
use Rattle.mud_cli.specs.NextRun.{IsKeptBehind}
use Rattle.mud.specs.TwoRuns.{first_items, IsFoundBehind, IsNextOver, LeavesNext, RanOver, TellsNext}
use Rattle.mud.specs.declared.store.StoreKeeper.{StoreKeeper}
use Rattle.mud.specs.declared.store.StoreKeeper.TheVariants.{File}

module _ {D E : Type 0} {g : disk.Ghosts D} {h : disk.Ghosts E} (store : FileStore D g) (next : Result (KeeperView (FileStore E h)) Refusal) (is : IsNextOver store next) where
  -- a keeper over what was left tells its items
  pub tells_next : (Lists : List Item → Type 0) → IsHeldNext store → IsFoundNext store Lists → ∥ TellsNext next Lists ∥₁
  tells_next Lists held found =
      ∥∥₁_elim (held is.left is.may) squash₁ (λ store.
      let tells = is.opened.tells store is.clean in
      ∥∥₁_map (found is.left (opened_items over_files next) is.may (is.opened.found tells)) (λ lists. (tells, lists)))

module _ {M D S : Type 0} {g : disk.Ghosts D} (members : Ghosts (StoreKeeper M (FileKeeper (FileStore D g) S))) where
  -- what may be left in the end was there in the beginning, or was kept
  pub found_behind : (store : FileStore D g) (returned : StoreKeeper M (FileKeeper (FileStore D g) S)) (image : Image) (run : RanOver members image returned)
      → ((k : FileKeeper (FileStore D g) S) → OpenedTells over_files k.keeper → members.tells (File k))
      → ((k : FileKeeper (FileStore D g) S) (list : List Item) → members.left (File k) list → OpenedMayLeave over_files k.keeper list)
      → members.items (File run.first) ≡ opened_items over_files run.first.keeper
      → IsFoundNext store (members.left returned) → IsFoundNext store (IsFoundBehind members (first_items run) returned)
  found_behind store returned image run tells was items found left list may reads =
      ∥∥₁_map (found left list may reads) (λ m. elim (run.left (tells run.first run.told) list m) [
        | inl before ↦ inl (run.opened.rests run.told list (was run.first list before))
        | inr kept ↦ inr (subst (λ its. IsKeptBehind members its returned list) items kept)
      ])

  -- what is left of a run whose keeper is that of a file
  pub leaves_next : (image : Image) (returned : StoreKeeper M (FileKeeper (FileStore D g) S)) (keeper : FileKeeper (FileStore D g) S) → returned ≡ File keeper
      → ((k : FileKeeper (FileStore D g) S) (list : List Item) → OpenedMayLeave over_files k.keeper list → members.left (File k) list)
      → ((k : FileKeeper (FileStore D g) S) → members.tells (File k) → OpenedTells over_files k.keeper)
      → ((k : FileKeeper (FileStore D g) S) → opened_items over_files k.keeper ≡ members.items (File k))
      → (left : Option (FileStore D g)) → IfSome left (λ store. IsClean (view store) → IsFoundNext store (OpenedMayLeave over_files keeper.keeper))
      → IfSome left (λ store. IsClean (view store) → OpenedTells over_files keeper.keeper → IsFoundNext store (λ list. list ≡ opened_items over_files keeper.keeper))
      → IfSome left (λ store. IsClean (view store) → HeldStore image → IsHeldNext store)
      → IfSome left (λ store. IsClean (view store) → LeavesNext members image returned store)
  leaves_next image returned keeper is leaves tells items None found told held = tt
  leaves_next image returned keeper is leaves tells items (Some store) found told held = λ clean. subst (λ r. LeavesNext members image r store) (sym is) (record {
    found = found_as store _ (members.left (File keeper)) (leaves keeper) (found clean);
    told = λ now. subst (λ its. IsFoundNext store (λ list. list ≡ its)) (items keeper) (told clean (tells keeper now));
    held = held clean;
  })
