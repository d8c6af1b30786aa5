-- What a keeper over a connection tells.
use Rattle.std.specs.Prelude.{◌≡◌, ◌⊎◌, ℕ, Bool, false, List, IsTrue, refl}
use Rattle.std.specs.Coded.{Coded, code_by, coded×, coded_bool, coded_ℕ}
use Rattle.sqlite_trees.specs.declared.store.Store.{Ghosts}
use Rattle.sqlite_trees.specs.Tree.{Trees}
use Rattle.sqlite.specs.Effect.{Database, IsDatabase}
use Rattle.sqlite.specs.State.{HasCleanDisk, Survives}
use Rattle.sqlite.specs.Held.{Held, held_code, state}
use Rattle.mud_world.specs.declared.item.Item.{Item}
use Rattle.keep_sqlite.specs.Rows.{held_items, AreMadeTrees, AreTreesOf, HoldsItems, MayHold}

-- A keeper over a connection, as contracts see it.
pub record KeeperView (S : Type 0) : Type 0 where
  pub connection : Held S
  -- an `open` has answered Ok
  pub has_opened : Bool
  -- how often a call has failed
  pub faults : ℕ

abbrev pub view_code : {S : Type 0} → Coded S → Coded (KeeperView S)
view_code {S} store =
    code_by (Held S × (Bool × ℕ)) (coded× (held_code store) (coded× coded_bool coded_ℕ)) (λ k. (k.connection, (k.has_opened, k.faults)))
    (λ p. record { connection = p.0; has_opened = p.1.0; faults = p.1.1 }) (λ _. refl)

module _ {S : Type 0} (g : Ghosts S) where
  -- The connection is open and its store clean: the disk has given back what was written.
  abbrev pub IsUp : Held S → Type 0
  IsUp connection = HasCleanDisk (state g connection) × IsTrue (state g connection).is_open

  -- Once an `open` has answered Ok, the database holds items wherever the connection is up.
  abbrev pub IsKept : Held S → Bool → Type 0
  IsKept connection has_opened = IsTrue has_opened → IsUp connection → HoldsItems (state g connection).now

  -- what the connection sees
  abbrev pub database : KeeperView S → Database
  database keeper = (state g keeper.connection).now

  -- A keeper tells its items while the connection is up: those that its database holds, or none where it has no table and no `open` has answered Ok.
  abbrev pub Tells : KeeperView S → Type 0
  Tells keeper = IsUp keeper.connection × MayHold keeper.has_opened (database keeper)

  -- the items that it tells
  abbrev pub told : KeeperView S → List Item
  told keeper = held_items (database keeper)

  -- Whatever a crash leaves at this moment are the trees of these items.
  abbrev pub Leaves : KeeperView S → List Item → Type 0
  Leaves keeper items = (trees : Trees) → (state g keeper.connection).may_leave trees → AreTreesOf items trees

  -- Whatever a crash leaves at this moment are the trees of the one items or of the other.
  abbrev pub LeavesEither : KeeperView S → List Item → List Item → Type 0
  LeavesEither keeper one other =
      (trees : Trees) → (state g keeper.connection).may_leave trees → AreTreesOf one trees ⊎ AreTreesOf other trees

  -- After a call a crash leaves what it could leave before or, where the keeper told its items then, the trees of these, whole. Only a
  -- fault shuts the connection.
  abbrev pub MayLeave : KeeperView S → KeeperView S → List Item → Type 0
  MayLeave old new items = Survives (state g old.connection) (state g new.connection) (λ trees. Tells old × AreTreesOf items trees)

  -- After an opening a crash leaves what it could leave before or, where there was no table, the table without a row.
  abbrev pub MayLeaveMade : KeeperView S → KeeperView S → Type 0
  MayLeaveMade old new = Survives (state g old.connection) (state g new.connection) (AreMadeTrees (database old))

  -- Where the disk has given back what was written, a crash at this moment may leave a database that tells these items.
  pub record MayBeLeft (keeper : KeeperView S) (list : List Item) : Type 0 where
    pub clean : HasCleanDisk (state g keeper.connection)
    pub db : Database
    pub sound : IsDatabase db
    pub left : (state g keeper.connection).may_leave db.trees
    pub items : held_items db ≡ list

  -- While the keeper tells its items, a crash leaves these and nothing else.
  abbrev pub LeavesTold : KeeperView S → Type 0
  LeavesTold keeper = Tells keeper → (list : List Item) → MayBeLeft keeper list → list ≡ told keeper

  -- While the connection is up, a crash leaves the database that it sees and no other.
  abbrev pub LeavesNow : KeeperView S → Type 0
  LeavesNow keeper = IsUp keeper.connection → (db : Database) → IsDatabase db → (state g keeper.connection).may_leave db.trees → db ≡ database keeper

  -- Each database that a crash may leave holds items or has no table.
  abbrev pub LeavesStore : KeeperView S → Type 0
  LeavesStore keeper =
      HasCleanDisk (state g keeper.connection) → (db : Database) → IsDatabase db → (state g keeper.connection).may_leave db.trees → MayHold false db
