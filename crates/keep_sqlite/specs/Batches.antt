-- What the inner calls of an `open` and of a batch leave.
use Rattle.std.specs.Prelude.{◌≡◌, true, List, [], IsTrue}
use Rattle.sqlite_trees.specs.declared.store.Store.{Ghosts}
use Rattle.sqlite.specs.State.{State, HasCleanDisk, KeepsCommit, Survives}
use Rattle.sqlite.specs.Held.{Held, state}
use Rattle.mud_world.specs.declared.item.Put.{Put}
use Rattle.mud_world.specs.Items.{put_all}
use Rattle.keep_sqlite.specs.Rows.{items_of, HoldsItems, MayMake}

-- What some puts of a transaction leave: it goes on, and the puts that are left make of its items what all of them make of those before.
pub record Reaches (old now : State) (left all : List Put) : Type 0 where
  pub was_open : IsTrue old.is_open
  pub is_open : IsTrue now.is_open
  pub mode : now.in_transaction ≡ true
  pub holds : HoldsItems now.now
  pub items : put_all (items_of now.now) left ≡ put_all (items_of old.now) all

-- What a call leaves that changes nothing, also where it fails: the database of before, if no transaction was begun.
pub record Stays (old new : State) : Type 0 where
  pub was_open : IsTrue new.is_open → IsTrue old.is_open
  pub now_is : IsTrue new.is_open → old.now ≡ old.committed → new.now ≡ old.now
  pub committed_is : IsTrue new.is_open → new.committed ≡ old.committed

-- What an `open` leaves: the database of before, or the table that it made, and no transaction.
pub record Makes (old new : State) : Type 0 where
  pub was_open : IsTrue new.is_open → IsTrue old.is_open
  pub made : IsTrue new.is_open → MayMake old.now new.now
  pub settled : IsTrue new.is_open → new.now ≡ new.committed

module _ {S : Type 0} (g : Ghosts S) (old new : Held S) where
  -- a crash leaves nothing that it couldn't leave before
  abbrev pub LeavesNothing : Type 0
  LeavesNothing = Survives (state g old) (state g new) (λ _. ⊥)

  abbrev pub CommitsNothing : Type 0
  CommitsNothing = HasCleanDisk (state g new) → KeepsCommit (state g old) (state g new)

  -- the puts are done within a transaction
  abbrev pub Puts : List Put → Type 0
  Puts puts = HasCleanDisk (state g new) → (IsTrue (state g old).is_open → HoldsItems (state g old).now) → Reaches (state g old) (state g new) [] puts
