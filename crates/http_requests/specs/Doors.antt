-- What calls of a door make of the counts of its failures. No port is bound and no connection left by them.
use Rattle.std.specs.Prelude.{◌≡◌, Bool, IsTrue}
use Rattle.mud_world.specs.Causes.{Counts, StopsAtFailure}
use Rattle.mud_world.specs.View.{DoorView}

-- Reads alone can have failed. One that did was the last call of the door, and nothing else of the counts changed.
pub record ReadsAlone (failed : Bool) (old new : DoorView) : Type 0 where
  pub reads : Counts failed old.reads new.reads
  pub stop : IsTrue failed → StopsAtFailure new.failed old.reads new.reads
  pub turns : new.turns ≡ old.turns
  pub writes : new.writes ≡ old.writes

-- The same of writes.
pub record WritesAlone (failed : Bool) (old new : DoorView) : Type 0 where
  pub writes : Counts failed old.writes new.writes
  pub stop : IsTrue failed → StopsAtFailure new.failed old.writes new.writes
  pub turns : new.turns ≡ old.turns
  pub reads : new.reads ≡ old.reads

-- A read can have failed, or a write. The one that did was the last call of the door.
pub record ReadsAndWrites (read_failed write_failed : Bool) (old new : DoorView) : Type 0 where
  pub reads : Counts read_failed old.reads new.reads
  pub writes : Counts write_failed old.writes new.writes
  pub read_stop : IsTrue read_failed → StopsAtFailure new.failed old.reads new.reads
  pub write_stop : IsTrue write_failed → StopsAtFailure new.failed old.writes new.writes
  pub turns : new.turns ≡ old.turns
