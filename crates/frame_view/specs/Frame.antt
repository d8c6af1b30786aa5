-- What the headers of an Ethernet frame say.
use Rattle.std.specs.Prelude.{ℕ, nat_lt, List, length, drop, Option, Some, None, Result, Ok, Err, if◌then◌else◌}
use Rattle.mud_base.specs.Ethernet.{type_offset, head_len}
use Rattle.frame_view.specs.declared.views.Part.{Part}
use Rattle.frame_view.specs.declared.views.Part.TheVariants as part
use Rattle.frame_view.specs.declared.views.Frame.{Frame}
use Rattle.frame_view.specs.declared.views.Frame.TheVariants.{Link, Unreadable, Packet}
use Rattle.frame_view.specs.Carried.{carried}
use Rattle.frame_view.specs.PacketFrame.{Contents}

-- What a frame is. Its head is that of Ethernet, whose type is the first one that is looked at (IEEE 802.3).
unfoldable pub frame_of : List ℕ → Frame
frame_of frame =
    if nat_lt (length frame) head_len then (Unreadable None part.Ethernet) else (answered frame (carried (drop type_offset frame)))
  where
    answered : List ℕ → Result (Option Contents) Part → Frame
    answered frame (Ok None) = Link frame
    answered frame (Ok (Some contents)) = Packet (record { octets = frame; fields = contents.fields })
    answered frame (Err part) = Unreadable (Some frame) part
