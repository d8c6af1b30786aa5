-- What stays true of a keeper over a file.
use Rattle.std.proofs.Common.{◌≡◌, ◌⊎◌, false, List, sym, subst}
use Rattle.sqlite_trees.specs.declared.store.Store.{Ghosts}
use Rattle.sqlite.specs.Held.{Held}
use Rattle.sqlite.specs.Recovery.{Image}
use Rattle.mud_world.specs.declared.item.Item.{Item}
use Rattle.keep_sqlite.specs.Rows.{MayHold}
use Rattle.keep_sqlite.specs.Standing.{IsAtRest, StandsOver}
use Rattle.keep_sqlite.specs.Telling.{told, KeeperView, LeavesNow, LeavesTold, MayLeave, MayLeaveMade, Tells}
use Rattle.keep_sqlite.proofs.LeftItems.{store_put, store_read, told_put, told_read}

module _ {S : Type 0} (g : Ghosts S) (image : Image) where
  -- of a keeper that is made over a connection
  pub stands_adopted : (connection : Held S) (keeper : KeeperView S) → keeper.connection ≡ connection → IsAtRest g image connection
      → (keeper.connection.in_transaction ≡ false → LeavesTold g keeper) → (keeper.connection.in_transaction ≡ false → LeavesNow g keeper) → StandsOver g image keeper
  stands_adopted connection keeper same rest leaves_told leaves_now =
      let rests = subst (IsAtRest g image) (sym same) rest in
      record {
        told = λ tells. leaves_told (rests.autocommit tells.0.0) tells;
        store = λ held clean db sound left.
            subst (MayHold false) (sym (leaves_now (rests.autocommit clean) (clean, rests.is_open clean) db sound left)) (rests.sees clean held);
      }

  -- behind an opening
  pub stands_read : (old new : KeeperView S) → MayLeaveMade g old new → (Tells g new → Tells g old) → (Tells g new → told g new ≡ told g old)
      → StandsOver g image old → StandsOver g image new
  stands_read old new crash before same stands = record {
    told = told_read g old new crash before same stands.told;
    store = λ held. store_read g old new crash (stands.store held);
  }

  -- behind a batch
  pub stands_put : (old new : KeeperView S) (items : List Item) → MayLeave g old new items → (new.connection ≡ old.connection) ⊎ (new.connection.in_transaction ≡ false)
      → new.has_opened ≡ old.has_opened → (new.connection.in_transaction ≡ false → LeavesTold g new) → StandsOver g image old → StandsOver g image new
  stands_put old new items crash ended opened leaves stands = record {
    told = told_put g old new ended opened leaves stands.told;
    store = λ held. store_put g old new items crash (stands.store held);
  }
