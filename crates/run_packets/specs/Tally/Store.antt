-- What a run of `tally` over a store does.
use Rattle.std.specs.Prelude.{ℕ, List}
use Rattle.mud_world.specs.declared.keeper.Keeper.{Ghosts}
use Rattle.run_captures.specs.Captures.{captured_of}
use Rattle.run_captures.specs.Capture.{output_behind}
use Rattle.run_common.specs.Output.{Output}
use Rattle.mud_world.specs.View.{DoorView}
use Rattle.desk_model.specs.Sessions.{Session, opened}
use Rattle.run_desk.specs.Store.{ReadsByStore}
use Rattle.run_packets.specs.Tally.Tallied.{begun, seen_in, tally_step, tally_text}

-- The output for a capture in a session: the lines that the list of its packets tells, and that of the fault that ends
-- them.
abbrev pub output_of_tally : Session → List ℕ → Output
output_of_tally session octets = output_behind (tally_text (seen_in session (captured_of octets).all)) (captured_of octets).fault

module _ {K : Type 0} (members : Ghosts K) where
  -- A run of `tally`, in the session that begins with the tables of the store. Where a read failed, the lines of the hours that were
  -- over were written. `tells` says that the door tells its connections.
  abbrev pub TalliesStore : Type 0 → K → K → DoorView → DoorView → ℕ → Type 0
  TalliesStore tells keeper returned old new status =
      ReadsByStore members (λ tables. output_of_tally (opened tables)) tally_step (λ tables. begun (opened tables)) tells keeper returned old new status
