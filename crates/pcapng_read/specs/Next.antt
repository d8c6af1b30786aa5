-- What `next` answers, and where it leaves a capture.
use Rattle.std.specs.Prelude.{◌≡◌, ◌<◌, is_some, IsTrue, Option, Some, None, Result, Err, IfOk, IfErr, OnOk, OnErr}
use Rattle.mud_world.specs.Causes.{Counts, StopsAtFailure}
use Rattle.mud_world.specs.View.{DoorView}
use Rattle.read_buffer.specs.Packets.{with_next}
use Rattle.read_buffer.specs.Reading.{Follows}
use Rattle.pcap_read.specs.declared.reader.Captured.{Captured}
use Rattle.pcap_read.specs.Next.{packet_found}
use Rattle.pcapng_read.specs.declared.fault.NgFault.{NgFault}
use Rattle.pcapng_read.specs.Fault.{has_failed}
use Rattle.pcapng_read.specs.Parts.{most_to_come}
use Rattle.pcapng_read.specs.Reading.{EndsIn, fails}
use Rattle.pcapng_read.specs.CaptureState.{NgState, AtEnd, is_ready, to_come}

-- What was found, and where the source and what is kept beside it stand then: clause by clause as `advance` says it. `view`
-- says what counts of the source.
pub record WentOn {S : Type 0} (tells : Type 0) (view : S → DoorView) (old : S × NgState)
    (result : Result (Option Captured) NgFault) (new : S × NgState) : Type 0 where
  pub found : IfOk result (λ found. packet_found found ≡ new.1.packet)
  pub going : OnOk result (new.1.fault ≡ None)
  pub fewer : IfOk result (λ found. IsTrue (is_some found) → most_to_come new.1.fault new.1.standing < most_to_come old.1.fault old.1.standing)
  pub next : tells → OnOk result (Follows (to_come old.1) (λ octets. with_next new.1.packet (to_come new.1 octets)) (view old.0).state (view new.0).state)
  pub end : tells → IfOk result (λ found. found ≡ None → AtEnd new.1 (view new.0).state)
  pub fault : tells → IfErr result (λ fault. EndsIn fault (to_come old.1) (view old.0).state (view new.0).state)
  pub failed : IfErr result (λ fault. new.1.fault ≡ Some fault)
  pub none : OnErr result (new.1.packet ≡ None)
  pub again : (fault : NgFault) → old.1.fault ≡ Some fault → (result ≡ Err fault) × (new.0 ≡ old.0)
  pub ready : IsTrue (is_ready old.1) → new.0 ≡ old.0
  pub cause : Counts (fails old.1.fault (has_failed result)) (view old.0).reads (view new.0).reads
  pub stop : IsTrue (fails old.1.fault (has_failed result)) → StopsAtFailure (view new.0).failed (view old.0).reads (view new.0).reads
  pub turns_kept : (view new.0).turns ≡ (view old.0).turns
  pub writes_kept : (view new.0).writes ≡ (view old.0).writes
