-- What counts of a door, a spool and a clock at a moment.
use Rattle.std.specs.Prelude.{ℕ, Bool, List}
use Rattle.mud_world.specs.Door.{DoorState}

-- a door at a moment: its connections, where it tells them, how often its calls have failed, and whether the last one did
pub record DoorView : Type 0 where
  pub state : DoorState
  pub turns : ℕ
  pub reads : ℕ
  pub writes : ℕ
  pub failed : Bool

abbrev pub viewed : DoorState → ℕ → ℕ → ℕ → Bool → DoorView
viewed state turns reads writes failed = record { state = state; turns = turns; reads = reads; writes = writes; failed = failed }

-- a spool at a moment: its files, where it tells them, how often its calls have failed, and whether the last one did
pub record SpoolView : Type 0 where
  pub files : List (List ℕ × List ℕ)
  pub faults : ℕ
  pub failed : Bool

abbrev pub spool_viewed : List (List ℕ × List ℕ) → ℕ → Bool → SpoolView
spool_viewed files faults failed = record { files = files; faults = faults; failed = failed }

-- what a run works with beside its keeper: the door, the spool, and the moments that the clock will give
pub record OutsideView : Type 0 where
  pub door : DoorView
  pub spool : SpoolView
  pub moments : List ℕ

abbrev pub outside : DoorView → SpoolView → List ℕ → OutsideView
outside door spool moments = record { door = door; spool = spool; moments = moments }
