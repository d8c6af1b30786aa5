-- The output of a run of the program, and what it makes of its door.
use Rattle.std.specs.Prelude.{◌≡◌, ℕ, ◌≤◌, List, ◌++◌, length, take}
use Rattle.mud_world.specs.Door.{DoorState, with_left, put_out}

-- what a run of the program writes, and its status
pub record Output : Type 0 where
  pub text : List ℕ
  pub status : ℕ

-- The status is that of the output. Octets were read of the front of the connection, the text of the output was written
-- to it, and nothing else changed.
pub record WritesOutput (output : Output) (old new : DoorState) (status : ℕ) : Type 0 where
  pub read : List ℕ
  pub status_is : status ≡ output.status
  pub left_is : old.left ≡ read ++ new.left
  pub door_is : new ≡ put_out output.text (with_left new.left old)

-- The same with a first part of the text, which may be none of it.
pub record WritesPart (output : Output) (old new : DoorState) : Type 0 where
  pub read : List ℕ
  pub count : ℕ
  pub left_is : old.left ≡ read ++ new.left
  pub door_is : new ≡ put_out (take count output.text) (with_left new.left old)

-- A first part of the text was written, which may be all of it.
pub record WroteFirst (text : List ℕ) (old new : DoorState) : Type 0 where
  pub count : ℕ
  pub within : count ≤ length text
  pub wrote : new ≡ put_out (take count text) old

-- A front of the text was written, and the rest stays to be written.
pub record WroteFront (text rest : List ℕ) (old new : DoorState) : Type 0 where
  pub front : List ℕ
  pub split : text ≡ front ++ rest
  pub wrote : new ≡ put_out front old
