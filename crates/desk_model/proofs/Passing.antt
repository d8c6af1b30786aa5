-- A packet of a Thing passes where both endpoints let it pass.
use Rattle.std.proofs.Common.{◌≡◌, ℕ, Bool, true, false, cond, not, ◌&&◌, List, Option, Some, None, refl}
use Rattle.mud_base.specs.declared.packet.Direction.{Direction}
use Rattle.mud_base.specs.declared.packet.Direction.TheVariants.{From, To}
use Rattle.mud_base.specs.declared.packet.Fields.{Fields}
use Rattle.frame_view.specs.declared.views.Frame.TheVariants as frame
use Rattle.frame_view.specs.Frame.{frame_of}
use Rattle.frame_view.specs.PacketFrame.{PacketFrame}
use Rattle.acl_model.specs.declared.ruling.Ruling.{Ruling}
use Rattle.acl_model.specs.declared.ruling.Ruling.TheVariants.{DropHeld}
use Rattle.table_model.specs.declared.thing.Thing.{Thing}
use Rattle.table_model.specs.declared.segment.Segment.{Segment}
use Rattle.packet_judge.specs.Verdicts.{Endpoints, endpoints_of, endpoint_ruling, is_managed, if_managed, verdict_on, verdict_of, rulings_of, accepts, forwarded}
use Rattle.desk_model.specs.DeskTables.{DeskTables}
use Rattle.desk_model.specs.Forwarding.{is_forwarded_by, lets_pass}
use Rattle.desk_model.specs.Verdicts.{policy_at, verdict_at}
use Rattle.packet_judge.proofs.Parts.{governed}

held_drops : (held : Bool) (ruling : Ruling) → accepts (Some (cond held DropHeld ruling)) ≡ (not held && accepts (Some ruling))
unfolding accepts
held_drops true ruling = refl
held_drops false ruling = refl

module _ (desk : DeskTables) (history : List Segment) (now : ℕ) where
  endpoint_lets_pass : (side : Direction) (fields : Fields) (endpoint : Option Thing) → accepts (endpoint_ruling (rulings_of desk.tables (policy_at desk) history now) side fields endpoint) ≡ lets_pass desk history now side fields endpoint
  unfolding endpoint_ruling rulings_of lets_pass accepts
  endpoint_lets_pass side fields None = refl
  endpoint_lets_pass side fields (Some thing) = held_drops thing.held (rulings_of desk.tables (policy_at desk) history now side thing fields)

  endpoints_let_pass : (fields : Fields) (endpoints : Endpoints) → is_managed endpoints ≡ true → forwarded (if_managed endpoints (governed (rulings_of desk.tables (policy_at desk) history now) fields endpoints)) ≡ (lets_pass desk history now From fields endpoints.source && lets_pass desk history now To fields endpoints.destination)
  unfolding if_managed forwarded
  endpoints_let_pass fields endpoints managed =
      rw (managed, endpoint_lets_pass From fields endpoints.source, endpoint_lets_pass To fields endpoints.destination) refl

  pub packet_passes : (octets : List ℕ) (packet : PacketFrame) → frame_of octets ≡ frame.Packet packet → is_managed (endpoints_of desk.tables.things packet.octets) ≡ true → forwarded (verdict_at desk history now octets) ≡ is_forwarded_by desk history now packet
  unfolding verdict_at verdict_of verdict_on
  packet_passes octets packet e managed = rw e (endpoints_let_pass packet.fields (endpoints_of desk.tables.things packet.octets) managed)
