-- What a table of connections keeps of two endpoints, and what it keeps after one packet more.
use Rattle.std.specs.Prelude.{ℕ, ◌-◌, nat_le, option_map, Option, Some, None, if◌then◌else◌}
use Rattle.table_model.specs.Limits.{most}
use Rattle.table_model.specs.History.{Endpoint, Begun, opens, resets, with_moment}
use Rattle.table_model.specs.declared.segment.Segment.{Segment}
pub use Rattle.table_model.specs.History.{Flows, StandsFor}
unfoldable pub use Rattle.flow_table.specs.Noted.{is_since}

-- the beginner that is kept, unless there was a pause
unfoldable pub beginner_kept : Option Begun → ℕ → Option Endpoint
beginner_kept None now = None
beginner_kept (Some begun) now = if nat_le (now - begun.1) most.pause then Some begun.0 else None

-- what is kept of two endpoints after a packet between them
unfoldable pub kept_after : Segment → Option Begun → Option Begun
kept_after p kept =
    if opens p then Some (p.source, p.at)
    else (if resets p then None else option_map (with_moment p.at) (beginner_kept kept p.at))
