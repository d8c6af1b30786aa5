-- How a run ends that a failing call of the outside stops.
use Rattle.std.specs.Prelude.{◌≡◌, ◌⊎◌}
use Rattle.mud_world.specs.Causes.{EndsAtFailure, StopsAtFailure}
use Rattle.mud_world.specs.View.{DoorView, SpoolView}

-- One read or write of the door failed, and the door wasn't called again.
abbrev pub IsStopped : DoorView → DoorView → Type 0
IsStopped old new = EndsAtFailure new.failed old.reads new.reads old.writes new.writes

-- One write of the door failed, and the door wasn't called again.
abbrev pub IsStoppedWriting : DoorView → DoorView → Type 0
IsStoppedWriting old new = StopsAtFailure new.failed old.writes new.writes

-- One call failed that binds the port or goes on to a connection, or one write, and the door wasn't called again.
abbrev pub IsStoppedListening : DoorView → DoorView → Type 0
IsStoppedListening old new = StopsAtFailure new.failed old.turns new.turns ⊎ IsStoppedWriting old new

-- One write of the door or one call of the spool failed, and it was the last call of that one. The count of the other stays.
abbrev pub IsStoppedByDoorOrSpool : DoorView → DoorView → SpoolView → SpoolView → Type 0
IsStoppedByDoorOrSpool door door_now spool spool_now =
    (IsStoppedWriting door door_now × (spool_now.faults ≡ spool.faults))
    ⊎ (StopsAtFailure spool_now.failed spool.faults spool_now.faults × (door_now.writes ≡ door.writes))

-- No read or write of the door failed.
abbrev pub IsSteady : DoorView → DoorView → Type 0
IsSteady old new = (new.reads ≡ old.reads) × (new.writes ≡ old.writes)

-- No write of the door failed, and no call of the spool.
abbrev pub AreSteady : DoorView → DoorView → SpoolView → SpoolView → Type 0
AreSteady door door_now spool spool_now = (door_now.writes ≡ door.writes) × (spool_now.faults ≡ spool.faults)
