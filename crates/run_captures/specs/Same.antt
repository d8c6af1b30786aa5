-- Captures that hold the same packets.
use Rattle.std.specs.Prelude.{◌≡◌, ℕ, List, map, None}
use Rattle.read_buffer.specs.Packets.{Packet}
use Rattle.run_captures.specs.Captures.{captured_of}

-- what counts of a packet beside its number and its offset, which its capture makes
pub record Seen : Type 0 where
  pub seconds : ℕ
  pub octets : List ℕ

abbrev pub seen_of : Packet → Seen
seen_of packet = record { seconds = packet.seconds; octets = packet.octets }

-- The packets of both, in their order, have the same seconds and octets, and both captures are whole.
pub record HoldTheSame (one other : List ℕ) : Type 0 where
  pub same : map seen_of (captured_of one).all ≡ map seen_of (captured_of other).all
  pub whole : (captured_of one).fault ≡ None
  pub other_whole : (captured_of other).fault ≡ None
