-- What stays true of a keeper over a file, whatever is called on it.
use Rattle.std.specs.Prelude.{◌≡◌, false, IsTrue}
use Rattle.sqlite_trees.specs.declared.store.Store.{Ghosts}
use Rattle.sqlite.specs.Held.{Held, state}
use Rattle.sqlite.specs.Recovery.{Image}
use Rattle.sqlite.specs.State.{HasCleanDisk}
use Rattle.keep_sqlite.specs.Reopened.{HeldStore}
use Rattle.keep_sqlite.specs.Rows.{MayHold}
use Rattle.keep_sqlite.specs.Telling.{KeeperView, LeavesStore, LeavesTold}

module _ {S : Type 0} (g : Ghosts S) (image : Image) where
  -- A connection to files that held this, outside a transaction: where they held a store, it sees one.
  pub record IsAtRest (connection : Held S) : Type 0 where
    pub is_open : HasCleanDisk (state g connection) → IsTrue (state g connection).is_open
    pub autocommit : HasCleanDisk (state g connection) → connection.in_transaction ≡ false
    pub sees : HasCleanDisk (state g connection) → HeldStore image → MayHold false (state g connection).now

  -- While the keeper tells its items, a crash leaves these and nothing else. Where the files held a store when they were opened, whatever a
  -- crash leaves is a store.
  pub record StandsOver (keeper : KeeperView S) : Type 0 where
    pub told : LeavesTold g keeper
    pub store : HeldStore image → LeavesStore g keeper
