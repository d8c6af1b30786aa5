-- How far a command is that reads a capture.
use Rattle.std.specs.Prelude.{◌≡◌, ℕ, ◌≤◌, Bool, true, false, List, [], ◌∷◌, ◌++◌, length, take, Option, Some, None}
use Rattle.mud_world.specs.Door.{DoorState, with_left, put_out}
use Rattle.read_buffer.specs.Packets.{Packet}
use Rattle.run_captures.specs.Captures.{captured_of}
use Rattle.run_captures.specs.Reading.{HasRead, packet_at}
use Rattle.run_captures.specs.declared.fault.CaptureFault.{CaptureFault}
use Rattle.run_captures.specs.declared.reader.CaptureReader.{CaptureReader}
use Rattle.run_captures.specs.declared.run.Way.{Way}
use Rattle.run_captures.specs.declared.run.Way.TheVariants as way

-- These packets were read since the door stood at the first of the two states, and this text was made of them. A front of it was
-- written, and the lines are the rest.
pub record HasDone (packets : List Packet) (text : List ℕ) (reader : CaptureReader) (first now : DoorState) (lines : List ℕ) : Type 0 where
  pub written : List ℕ
  pub read : HasRead packets reader first (with_left now.left first)
  pub split : text ≡ written ++ lines
  pub wrote : now ≡ put_out written (with_left now.left first)

-- One packet more was read, at which the reader stands.
pub record HasGoneOn (packets : List Packet) (text : List ℕ) (reader : CaptureReader) (first now : DoorState) (lines : List ℕ) : Type 0 where
  pub packet : Packet
  pub here : packet_at reader ≡ Some packet
  pub done : HasDone (packets ++ packet ∷ []) text reader first now lines

-- The packets are all of the capture, and it ends with this fault or none. Of the text that was made of them a front was written,
-- and the lines are the rest.
pub record HasAll (packets : List Packet) (text : List ℕ) (end : Option CaptureFault) (first now : DoorState) (lines : List ℕ) : Type 0 where
  pub read : List ℕ
  pub written : List ℕ
  pub all : captured_of first.left ≡ record { all = packets; fault = end }
  pub left_is : first.left ≡ read ++ now.left
  pub split : text ≡ written ++ lines
  pub wrote : now ≡ put_out written (with_left now.left first)

-- Octets were read of the front of the connection, a first part of the text was written to it, and nothing else changed.
pub record WroteSome (text : List ℕ) (first now : DoorState) : Type 0 where
  pub read : List ℕ
  pub count : ℕ
  pub within : count ≤ length text
  pub left_is : first.left ≡ read ++ now.left
  pub door_is : now ≡ put_out (take count text) (with_left now.left first)

-- Octets were read of the front of the connection, and these are all packets in them. All of the text was written to it, and
-- nothing else changed.
pub record WroteTaken (packets : List Packet) (text : List ℕ) (first now : DoorState) : Type 0 where
  pub read : List ℕ
  pub left_is : first.left ≡ read ++ now.left
  pub all : (captured_of read).all ≡ packets
  pub door_is : now ≡ put_out text (with_left now.left first)

-- What a run leads to that went on.
abbrev pub LedTo : Way → List Packet → List ℕ → CaptureReader → DoorState → DoorState → List ℕ → Type 0
LedTo way.Packet packets text reader first now lines = HasGoneOn packets text reader first now lines
LedTo way.Ended packets text reader first now lines = HasAll packets text None first now lines
LedTo (way.Broken fault) packets text reader first now lines = HasAll packets text (Some fault) first now lines
LedTo way.Failed packets text reader first now lines = WroteSome text first now

-- whether a read or a write failed
abbrev pub has_failed : Way → Bool
has_failed way.Packet = false
has_failed way.Ended = false
has_failed (way.Broken fault) = false
has_failed way.Failed = true
