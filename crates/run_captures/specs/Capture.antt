-- The lines of a capture: those of its packets, those at their end, and that of the fault that ends them.
use Rattle.std.specs.Prelude.{◌≡◌, ℕ, List, [], ◌++◌, codes, Option, Some, None}
use Rattle.mud_world.specs.Door.{DoorState, with_left, put_out}
use Rattle.read_buffer.specs.Packets.{Packet}
use Rattle.run_captures.specs.Captures.{captured_of}
use Rattle.run_captures.specs.Fault as capture_fault
use Rattle.run_captures.specs.declared.fault.CaptureFault.{CaptureFault}
use Rattle.text_values.specs.Numbers.{offset_text}
use Rattle.run_common.specs.Output.{Output}
use Rattle.run_captures.specs.Fold.{LineStep, lines_from, state_after}

-- the line of the fault, where one ends the packets: its name, and its offset where it has one
abbrev pub end_line : Option CaptureFault → List ℕ
end_line None = []
end_line (Some fault) = codes "fault " ++ capture_fault.name_of fault ++ offset_text (capture_fault.offset_of fault) ++ codes "\n"

-- the status of a capture that was read to its end, or to the fault that ends it
abbrev pub status_at : Option CaptureFault → ℕ
status_at None = 0
status_at (Some fault) = 3

-- the output where this text was made of all packets, and where they end so
abbrev pub output_behind : List ℕ → Option CaptureFault → Output
output_behind text end = record { text = text ++ end_line end; status = status_at end }

module _ {S : Type 0} (step : S → Packet → LineStep S) (ending : S → List ℕ) (from : S) where
  -- the lines of packets, and those at their end
  abbrev pub text_of : List Packet → List ℕ
  text_of packets = lines_from step from packets ++ ending (state_after step from packets)

  -- the output for a capture: the lines of its packets, those at their end, and that of the fault that ends them
  abbrev pub output_of_capture : List ℕ → Output
  output_of_capture octets = output_behind (text_of (captured_of octets).all) (captured_of octets).fault

-- Octets were read of the front of the connection, the lines of their packets were written to it, and nothing else changed.
pub record WritesTaken {S : Type 0} (step : S → Packet → LineStep S) (from : S) (old new : DoorState) : Type 0 where
  pub read : List ℕ
  pub left_is : old.left ≡ read ++ new.left
  pub door_is : new ≡ put_out (lines_from step from (captured_of read).all) (with_left new.left old)
