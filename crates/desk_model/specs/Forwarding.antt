-- When a packet of a Thing is forwarded: what the manager is there for.
use Rattle.std.specs.Prelude.{ℕ, Bool, true, not, ◌&&◌, List, Option, Some, None}
use Rattle.mud_base.specs.declared.packet.Direction.{Direction}
use Rattle.mud_base.specs.declared.packet.Direction.TheVariants.{From, To}
use Rattle.mud_base.specs.declared.packet.Fields.{Fields}
use Rattle.frame_view.specs.PacketFrame.{PacketFrame}
use Rattle.table_model.specs.declared.thing.Thing.{Thing}
use Rattle.table_model.specs.declared.segment.Segment.{Segment}
use Rattle.table_model.specs.Tables.{ruling_of}
use Rattle.table_model.specs.History.{begun_of}
use Rattle.packet_judge.specs.Verdicts.{accepts, endpoints_of}
use Rattle.desk_model.specs.DeskTables.{DeskTables}
use Rattle.desk_model.specs.Verdicts.{policy_at}

-- An endpoint of a packet lets it pass: it is no Thing, or the operator doesn't hold it and the first matching entry of
-- its URL's approved file, and behind that of the defaults, accepts.
unfoldable pub lets_pass : DeskTables → List Segment → ℕ → Direction → Fields → Option Thing → Bool
lets_pass desk history now side fields None = true
lets_pass desk history now side fields (Some thing) =
    not thing.held && accepts (Some (ruling_of desk.tables now thing.url (policy_at desk thing.url) side fields (begun_of history side fields now)))

-- A packet is forwarded where the endpoint that sent it and the endpoint that it is for let it pass.
abbrev pub is_forwarded_by : DeskTables → List Segment → ℕ → PacketFrame → Bool
is_forwarded_by desk history now packet =
    lets_pass desk history now From packet.fields (endpoints_of desk.tables.things packet.octets).source
    && lets_pass desk history now To packet.fields (endpoints_of desk.tables.things packet.octets).destination
