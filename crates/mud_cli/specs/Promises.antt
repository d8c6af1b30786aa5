-- What the commands promise that read their input from the door and write what it says.
use Rattle.std.specs.Prelude.{◌≡◌, ◌≢◌, ℕ, ◌+◌, ◌≤◌, List, ◌++◌, length, [], ◌∷◌}
use Rattle.mud_world.specs.Door.{DoorState}
use Rattle.run_captures.specs.Capture.{WritesTaken, output_of_capture}
use Rattle.run_captures.specs.Fold.{no_ending}
use Rattle.run_common.specs.Ends.{IsSteady, IsStopped}
use Rattle.run_common.specs.Output.{Output, WritesOutput, WritesPart}
pub use Rattle.mud_world.specs.View.{DoorView}
use Rattle.mud_cli.specs.Answers.{output_of_input, most_of}
use Rattle.mud_cli.specs.Frames.Lines.{frame_step}
use Rattle.mud_cli.specs.declared.answer.Input.{Input}
use Rattle.run_common.specs.Status.{Is, IsNot, IsOneOf}
use Rattle.run_common.specs.declared.status.Status.TheVariants.{Done, Refused, DoorFailed, NoMemory}

-- At most so many octets were read of the front of the connection.
pub record ReadUpTo (most : ℕ) (old new : DoorState) : Type 0 where
  pub read : List ℕ
  pub left_is : old.left ≡ read ++ new.left
  pub within : length read ≤ most

-- The output is that for the octets of the connection. `tells` says that the door tells its connections.
pub record Promises (tells : Type 0) (output : List ℕ → Output) (old new : DoorView) (status : ℕ) : Type 0 where
  -- The status is 0, 3, 4 or 5. It is 4 only where one read or write failed in this call, and then the door isn't called again;
  -- where it isn't 4, none failed.
  pub statuses : IsOneOf (Done ∷ Refused ∷ DoorFailed ∷ NoMemory ∷ []) status
  pub fault : Is DoorFailed status → IsStopped old new
  pub steady : IsNot DoorFailed status → IsSteady old new
  -- With 0 and 3 all of the output was written, with 4 and 5 a first part of it.
  pub done : tells → IsOneOf (Done ∷ Refused ∷ []) status → WritesOutput (output old.state.left) old.state new.state status
  pub part : tells → IsOneOf (DoorFailed ∷ NoMemory ∷ []) status → WritesPart (output old.state.left) old.state new.state
  -- No port is bound, and the connection isn't left.
  pub same_turns : new.turns ≡ old.turns

-- of `hear` and `check`: at most one octet too many is read
pub record AnswersInput (tells : Type 0) (what : Input) (old new : DoorView) (status : ℕ) : Type 0 where
  pub writes : Promises tells (output_of_input what) old new status
  pub within : tells → ReadUpTo (most_of what + 1) old.state new.state

-- of `frames`: where a read failed, the lines of the packets in the octets that were read were written
pub record WritesFrames (tells : Type 0) (old new : DoorView) (status : ℕ) : Type 0 where
  pub writes : Promises tells (output_of_capture frame_step no_ending tt) old new status
  pub taken : tells → new.reads ≢ old.reads → WritesTaken frame_step tt old.state new.state
