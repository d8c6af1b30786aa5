-- A packet in which names are heard.
use Rattle.std.proofs.Common.{◌≡◌, Bool, true, List, Some, refl, sym, ◌∙◌}
use Rattle.frame_view.specs.PacketFrame.{PacketFrame}
use Rattle.frame_view.specs.Carried.{payload_of}
use Rattle.frame_view.specs.declared.views.Frame.{Frame}
use Rattle.frame_view.specs.declared.views.Frame.TheVariants as frame
use Rattle.table_model.specs.declared.bind.ClassRow.{ClassRow}
use Rattle.table_model.specs.Tables.{is_bound}
use Rattle.packet_judge.specs.declared.verdict.Verdict.{Verdict}
use Rattle.run_packets.specs.Snoop.Learning.{is_from_dns, is_let_through, heard_in}
use Rattle.run_packets.proofs.Parts.{dns_class}

pub true_of : (test defined : Bool) → test ≡ true → test ≡ defined → defined ≡ true
true_of test defined passed is = sym is ∙ passed

pub heard_here : (classes : List ClassRow) (of : Frame) (verdict : Verdict) (packet : PacketFrame) → is_let_through verdict ≡ true → of ≡ frame.Packet packet
    → is_from_dns packet.fields.transport ≡ true → is_bound dns_class packet.fields.src classes ≡ true → Some (payload_of packet.octets) ≡ heard_in classes of verdict
unfolding heard_in
heard_here classes of verdict packet through is from bound = rw (through, is, from, bound) refl
