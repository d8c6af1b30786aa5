-- The packets of a capture, in whichever format.
use Rattle.std.specs.Prelude.{ℕ, Bool, if◌then◌else◌, List, [], ◌∷◌, take, option_map}
use Rattle.std.specs.Str.{bytes_eq}
use Rattle.read_buffer.specs.Packets.{Told}
use Rattle.pcap_read.specs.Packets.{packets_of}
use Rattle.pcapng_read.specs.Blocks.{ng_packets_of}
use Rattle.run_captures.specs.declared.fault.CaptureFault.{CaptureFault}
use Rattle.run_captures.specs.declared.fault.CaptureFault.TheVariants.{Classic, Next}

-- the packets of a capture, and why they end
abbrev pub Captures : Type 0
Captures = Told CaptureFault

-- the same packets, with the fault of a format as that of a capture
abbrev pub with_fault : {F : Type 0} → (F → CaptureFault) → Told F → Captures
with_fault of told = record { all = told.all; fault = option_map of told.fault }

unfoldable pub is_next : List ℕ → Bool
is_next octets = bytes_eq (take 4 octets) next_first
  where
    -- the first four octets of a capture in pcapng: the type of a section header, in either order of octets
    next_first : List ℕ
    next_first = 0x0A ∷ 0x0D ∷ 0x0D ∷ 0x0A ∷ []

-- the packets of a capture: it is in pcapng where its first four octets say so, and else in the classic format
abbrev pub captured_of : List ℕ → Captures
captured_of octets = if is_next octets then with_fault Next (ng_packets_of octets) else with_fault Classic (packets_of octets)
