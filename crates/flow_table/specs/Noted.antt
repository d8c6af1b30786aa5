-- What contracts see of a table of connections: the packets that were noted, and what is planned of one more.
use Rattle.std.specs.Prelude.{ℕ, Bool, true, nat_le, IsTrue, List, Option, Some, None}
use Rattle.table_model.specs.History.{last_packet_at}
use Rattle.table_model.specs.declared.segment.Segment.{Segment}
use Rattle.flow_table.specs.declared.table.FlowPlan.{FlowPlan}

-- the packets that were noted, oldest first, and whether memory for one connection more is ready
pub record Noted : Type 0 where
  pub history : List Segment
  pub has_room : Bool

-- the moment isn't before the last one
unfoldable pub is_since : Option ℕ → ℕ → Bool
is_since None now = true
is_since (Some last) now = nat_le last now

-- the moment isn't before that of the last packet
abbrev pub follows : List Segment → ℕ → Bool
follows history now = is_since (last_packet_at history) now

-- ---- The packet that a plan is for, and when it can be noted

unfoldable pub segment_planned : FlowPlan → Segment
segment_planned plan = plan.packet

-- there is room for a connection more, and the packet's moment isn't before the last one
pub record IsPlanned (noted : Noted) (plan : FlowPlan) : Type 0 where
  pub since : IsTrue (follows noted.history (segment_planned plan).at)
  pub room : IsTrue noted.has_room
