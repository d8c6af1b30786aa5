-- What a door in memory tells, and which of its calls fail.
use Rattle.std.specs.Prelude.{◌≡◌, ℕ, ◌-◌, Bool, false, ◌||◌, ◌&&◌, nat_lt, nat_eq, if◌then◌else◌, List, [], length, drop, slice_index_or}
use Rattle.mud_world.specs.declared.memory_door.MemoryDoor.{MemoryDoor}
use Rattle.mud_world.specs.declared.memory_door.DoorCalls.{DoorCalls}
use Rattle.mud_world.specs.Calls.{is_listed, next_call}
use Rattle.mud_world.specs.Door.{DoorState}
use Rattle.mud_world.specs.Wire.{WireState, fresh, rest_of}
use Rattle.mud_world.specs.MemoryConnections.{connections_of, first_state, state_at}

-- the connections that the door tells
unfoldable pub memory_state : MemoryDoor → DoorState
memory_state door = state_at door.bound door.stands door.at (connections_of door.inputs door.wires.items)

abbrev pub pieces_here : MemoryDoor → List (List ℕ)
pieces_here door = slice_index_or door.inputs door.at []

abbrev pub wire_here : MemoryDoor → WireState
wire_here door = slice_index_or door.wires.items door.at (fresh 0)

-- the most octets that can be written to each connection
abbrev pub room_of : MemoryDoor → ℕ
room_of door = door.room

-- how many octets can still be written to the connection at which the door stands
abbrev pub room_left : MemoryDoor → ℕ
room_left door = (if (memory_state door).stands then room_of door - length (memory_state door).written else 0)

-- the octets that are left of the piece from which the next read takes
unfoldable pub piece_left : MemoryDoor → List ℕ
piece_left door = (if door.stands then rest_of (wire_here door).offset (drop (wire_here door).piece (pieces_here door)) else [])

abbrev pub bind_fails : MemoryDoor → Bool
bind_fails door = is_listed door.failing_bind (next_call door.calls.bind)

abbrev pub next_fails : MemoryDoor → Bool
next_fails door = is_listed door.failing_next (next_call door.calls.next)

abbrev pub read_fails : MemoryDoor → Bool
read_fails door = is_listed door.failing_read (next_call door.calls.read)

-- a write fails where it is listed, and where no octet of a piece that isn't empty can be written
abbrev pub write_fails : MemoryDoor → List ℕ → Bool
write_fails door piece = is_listed door.failing_write (next_call door.calls.write) || (nat_lt 0 (length piece) && nat_eq (room_left door) 0)

abbrev pub no_calls : DoorCalls
no_calls = record { bind = 0; next = 0; read = 0; write = 0 }

-- A door that was just made.
pub record IsNew (inputs : List (List (List ℕ))) (most : ℕ) (door : MemoryDoor) : Type 0 where
  pub given : door.inputs ≡ inputs
  pub state : memory_state door ≡ first_state inputs
  pub room : room_of door ≡ most
  pub failing_bind : door.failing_bind ≡ []
  pub failing_next : door.failing_next ≡ []
  pub failing_read : door.failing_read ≡ []
  pub failing_write : door.failing_write ≡ []
  pub turns : door.turn_count ≡ 0
  pub reads : door.read_count ≡ 0
  pub writes : door.write_count ≡ 0
  pub fine : door.failed ≡ false
  pub calls : door.calls ≡ no_calls

-- What no call changes: the pieces, the room, and the calls that are to fail.
pub record SameScript (old new : MemoryDoor) : Type 0 where
  pub inputs : new.inputs ≡ old.inputs
  pub room : room_of new ≡ room_of old
  pub failing_bind : new.failing_bind ≡ old.failing_bind
  pub failing_next : new.failing_next ≡ old.failing_next
  pub failing_read : new.failing_read ≡ old.failing_read
  pub failing_write : new.failing_write ≡ old.failing_write
