-- What `next` answers, and where it leaves a capture.
use Rattle.std.specs.Prelude.{◌≡◌, ◌<◌, false, is_some, IsTrue, Option, Some, None, Result, Err, IfOk, IfErr, OnOk, OnErr}
use Rattle.mud_world.specs.Causes.{Counts, StopsAtFailure}
use Rattle.mud_world.specs.View.{DoorView}
use Rattle.pcap_read.specs.declared.fault.CapFault.{CapFault}
use Rattle.pcap_read.specs.declared.reader.Captured.{Captured}
use Rattle.pcap_read.specs.declared.stage.Stage.TheVariants.{Failed}
use Rattle.pcap_read.specs.Captured.{packet_of}
use Rattle.pcap_read.specs.Fault.{has_failed}
use Rattle.read_buffer.specs.Packets.{Packet, with_next}
use Rattle.pcap_read.specs.Parts.{is_broken, most_to_come}
use Rattle.read_buffer.specs.Reading.{Follows}
use Rattle.pcap_read.specs.Reading.{EndsIn, fails}
use Rattle.pcap_read.specs.CaptureState.{CaptureState, AtEnd, is_ready, to_come}

-- the packet that was found, if any
abbrev pub packet_found : Option Captured → Option Packet
packet_found None = None
packet_found (Some packet) = Some (packet_of packet)

-- What was found, and where the source and what is kept beside it stand then: clause by clause as `advance` says it. `view`
-- says what counts of the source.
pub record WentOn {S : Type 0} (tells : Type 0) (view : S → DoorView) (old : S × CaptureState)
    (result : Result (Option Captured) CapFault) (new : S × CaptureState) : Type 0 where
  pub found : IfOk result (λ found. packet_found found ≡ new.1.packet)
  pub going : OnOk result (is_broken new.1.progress.stage ≡ false)
  pub fewer : IfOk result (λ found. IsTrue (is_some found) → most_to_come new.1.progress < most_to_come old.1.progress)
  pub next : tells → OnOk result (Follows (to_come old.1) (λ octets. with_next new.1.packet (to_come new.1 octets)) (view old.0).state (view new.0).state)
  pub end : tells → IfOk result (λ found. found ≡ None → AtEnd new.1 (view new.0).state)
  pub fault : tells → IfErr result (λ fault. EndsIn fault (to_come old.1) (view old.0).state (view new.0).state)
  pub failed : IfErr result (λ fault. new.1.progress.stage ≡ Failed fault)
  pub none : OnErr result (new.1.packet ≡ None)
  pub again : (fault : CapFault) → old.1.progress.stage ≡ Failed fault → (result ≡ Err fault) × (new.0 ≡ old.0)
  pub ready : IsTrue (is_ready old.1) → new.0 ≡ old.0
  pub cause : Counts (fails old.1.progress.stage (has_failed result)) (view old.0).reads (view new.0).reads
  pub stop : IsTrue (fails old.1.progress.stage (has_failed result)) → StopsAtFailure (view new.0).failed (view old.0).reads (view new.0).reads
  pub turns_kept : (view new.0).turns ≡ (view old.0).turns
  pub writes_kept : (view new.0).writes ≡ (view old.0).writes
