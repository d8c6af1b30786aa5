-- Why a batch isn't kept, and why an opening answers no items.
use Rattle.std.specs.Prelude.{◌≡◌, ◌⊎◌, true, ℕ, pos, List, [], ◌∷◌, ◌++◌, codes, IsTrue, Err}
use Rattle.mud_world.specs.declared.item.Put.{Put}
use Rattle.mud_world.specs.declared.item.Put.TheVariants.{Set, Gone}
use Rattle.sqlite_trees.specs.declared.store.Store.{Ghosts}
use Rattle.sqlite.specs.declared.error.Error.{Error}
use Rattle.sqlite.specs.declared.types.Value.TheVariants.{Int, Blob}
use Rattle.sqlite.specs.State.{State, Executes, ExecutesInside, FailsToQuery}
use Rattle.sqlite.specs.Steps.{FailsToCommit}
use Rattle.sqlite.specs.Held.{Held, state}
use Rattle.keep_sqlite.specs.declared.refusal.Refusal.{Refusal}
use Rattle.keep_sqlite.specs.declared.refusal.Refusal.TheVariants.{Memory, NoStore, Other}
use Rattle.keep_sqlite.specs.Batches.{Makes, Reaches}
use Rattle.keep_sqlite.specs.Refusals.{refusal_of}
use Rattle.keep_sqlite.specs.Rows.{HoldsItems, MayHold}
use Rattle.keep_sqlite.specs.Table.{item_schema, no_schema}
use Rattle.keep_sqlite.specs.Telling.{database, KeeperView}

abbrev pub create_text : List ℕ
create_text = codes "CREATE TABLE item (kind INTEGER NOT NULL, name BLOB NOT NULL, body BLOB NOT NULL, PRIMARY KEY (kind, name)) STRICT"

abbrev pub ids_text : List ℕ
ids_text = codes "SELECT rowid FROM item ORDER BY rowid"

abbrev pub select_text : List ℕ
select_text = codes "SELECT kind, name, body FROM item ORDER BY kind, name"

abbrev pub upsert_text : List ℕ
upsert_text = codes "INSERT INTO item (kind, name, body) VALUES (?1, ?2, ?3) ON CONFLICT (kind, name) DO UPDATE SET body = excluded.body"

abbrev pub delete_text : List ℕ
delete_text = codes "DELETE FROM item WHERE kind = ?1 AND name = ?2"

-- The refusal is what an error of the database is told as, and with that the database failed so.
pub record TellsError (Fails : Error → Type 0) (refusal : Refusal) : Type 0 where
  pub error : Error
  pub told : refusal ≡ refusal_of error
  pub fails : Fails error

-- The database answered the statement of the put with this error.
abbrev pub RefusesPut : Put → State → State → Error → Type 0
RefusesPut (Set item) before after error = ExecutesInside 0 upsert_text (Int (pos item.kind) ∷ Blob item.key ∷ Blob item.body ∷ []) before after (Err error)
RefusesPut (Gone kind key) before after error = ExecutesInside 0 delete_text (Int (pos kind) ∷ Blob key ∷ []) before after (Err error)

-- It answered the statement of the first of these puts so or, where none is left, the commit.
abbrev pub RefusesNext : List Put → State → State → Error → Type 0
RefusesNext [] before after error = FailsToCommit before after error
RefusesNext (put ∷ left) before after error = RefusesPut put before after error

-- Why something isn't read that must hold of a database: the database failed so or, of `NoStore`, it doesn't hold. Want of memory
-- may come at any time.
abbrev pub IsUnread : (Error → Type 0) → Type 0 → Refusal → Type 0
IsUnread Fails Holds Memory = Unit {0}
IsUnread Fails Holds NoStore = (Holds → ⊥) ⊎ TellsError Fails NoStore
IsUnread Fails Holds refusal = TellsError Fails refusal

-- The database answered a statement of an opening with this error: the making of the table, where it has none, or a reading of the
-- table of items, where it has that or is shut.
abbrev pub RefusesStatement : State → State → Error → Type 0
RefusesStatement before after error = ((before.now.schema ≡ no_schema) × Executes create_text [] before after (Err error))
    ⊎ ((IsTrue before.is_open → before.now.schema ≡ item_schema)
    × (FailsToQuery ids_text [] before after error ⊎ FailsToQuery select_text [] before after error))

module _ {S : Type 0} (g : Ghosts S) where
  -- In a transaction the puts of a batch were done, from the first on, up to one, or all of them; then the database answered with
  -- this error.
  pub record RefusesBatch (old : Held S) (batch : List Put) (error : Error) : Type 0 where
    pub finished : List Put
    pub left : List Put
    pub split : batch ≡ finished ++ left
    pub before : Held S
    pub after : Held S
    pub done : ((left ≡ batch) × (before ≡ old)) ⊎ Reaches (state g old) (state g before) left batch
    pub limit : (state g before).step_limit ≡ (state g old).step_limit
    pub next : RefusesNext left (state g before) (state g after) error

  -- The batch is refused since a transaction was begun before, or with an error of the database.
  abbrev pub IsRefused : Held S → List Put → Refusal → Type 0
  IsRefused old batch refusal =
      (IsTrue (state g old).in_transaction × (refusal ≡ Other)) ⊎ TellsError (RefusesBatch (record old { in_transaction = true }) batch) refusal

  -- In an opening the table was found or made, or nothing was done yet; then the database answered with this error.
  pub record RefusesOpening (old new : Held S) (error : Error) : Type 0 where
    pub before : Held S
    pub made : Makes (state g old) (state g before)
    pub is_open : IsTrue (state g old).is_open → IsTrue (state g before).is_open
    pub limit : (state g before).step_limit ≡ (state g old).step_limit
    pub next : RefusesStatement (state g before) (state g new) error

  -- An opening is refused since a transaction was begun before, with an error of the database, for want of memory or, as `NoStore`,
  -- where the database neither holds items nor is one without a table that may be made.
  abbrev pub GivesNoItems : KeeperView S → KeeperView S → Refusal → Type 0
  GivesNoItems old new refusal = (IsTrue (state g old.connection).in_transaction × (refusal ≡ Other))
      ⊎ IsUnread (RefusesOpening old.connection new.connection) (MayHold old.has_opened (database g old)) refusal

  -- The table was found, and nothing was done; or there was none, and it was made.
  abbrev pub FindsOrMakes : Held S → Held S → Type 0
  FindsOrMakes old new = ((new ≡ old) × ((state g old).now.schema ≡ no_schema → ⊥))
      ⊎ (((state g old).now.schema ≡ no_schema) × IsTrue (state g new).is_open × HoldsItems (state g new).now)
