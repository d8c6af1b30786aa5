-- Captures that hold the same packets are counted alike.
use Rattle.std.proofs.Common.{◌≡◌, ℕ, List, [], ◌∷◌, map, Option, refl, sym, ap, ap₂, ◌∙◌}
use Rattle.frame_view.specs.Frame.{frame_of}
use Rattle.read_buffer.specs.Packets.{Packet}
use Rattle.run_captures.specs.Captures.{captured_of}
use Rattle.run_captures.specs.Same.{HoldTheSame, Seen as Held, seen_of as held_of}
use Rattle.run_captures.specs.declared.fault.CaptureFault.{CaptureFault}
use Rattle.run_captures.specs.Capture.{output_behind}
use Rattle.desk_model.specs.Sessions.{Session, frame_in}
use Rattle.drop_ledger.specs.declared.seen.Seen.{Seen}
use Rattle.run_packets.specs.Tally.Store.{output_of_tally}
use Rattle.run_packets.specs.Tally.Tallied.{seen_as, seen_of, seen_in, tally_text}

-- what is counted, told from the seconds and octets alone
counted : Session → List Held → List Seen
counted session [] = []
counted session (held ∷ more) =
    seen_as (frame_in session held.seconds held.octets).session.moment (frame_in session held.seconds held.octets).verdict (frame_of held.octets)
    ∷ counted (frame_in session held.seconds held.octets).session more

counted_is : (session : Session) (packets : List Packet) → seen_in session packets ≡ counted session (map held_of packets)
unfolding seen_in seen_of counted
counted_is session [] = refl
counted_is session (packet ∷ packets) =
    ap (λ (more : List Seen). seen_as (frame_in session packet.seconds packet.octets).session.moment (frame_in session packet.seconds packet.octets).verdict (frame_of packet.octets) ∷ more)
    (counted_is (frame_in session packet.seconds packet.octets).session packets)

pub tallied_alike : (session : Session) (one other : List ℕ) → HoldTheSame one other → output_of_tally session one ≡ output_of_tally session other
tallied_alike session one other h =
    ap₂ (λ (all : List Seen) (fault : Option CaptureFault). output_behind (tally_text all) fault)
    (counted_is session (captured_of one).all ∙ ap (counted session) h.same ∙ sym (counted_is session (captured_of other).all))
    (h.whole ∙ sym h.other_whole)
