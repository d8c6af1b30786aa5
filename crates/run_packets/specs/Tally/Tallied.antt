-- What `tally` makes of a packet, and the lines of a tally, told from the list of the packets.
use Rattle.std.specs.Prelude.{◌≡◌, ℕ, ◌==◌, Bool, false, not, List, [], ◌∷◌, ◌++◌, filter, flat_map, Option, Some, None, if◌then◌else◌}
use Rattle.mud_base.specs.declared.addr.Mac.{Mac}
use Rattle.frame_view.specs.declared.views.Frame.{Frame}
use Rattle.frame_view.specs.declared.views.Frame.TheVariants as frame
use Rattle.frame_view.specs.Ethernet.{destination_of, source_of}
use Rattle.frame_view.specs.Frame.{frame_of}
use Rattle.read_buffer.specs.Packets.{Packet}
use Rattle.packet_judge.specs.declared.verdict.Verdict.{Verdict}
use Rattle.drop_ledger.specs.Counted.{first_rows, late_rows}
use Rattle.run_captures.specs.Fold.{LineStep}
use Rattle.desk_model.specs.Sessions.{Session, Judged}
use Rattle.mud_desk.specs.DeskState.{DeskState, session_of}
use Rattle.run_desk.specs.Judged.{judged_packet}
use Rattle.drop_ledger.specs.declared.seen.Seen.{Seen}
use Rattle.drop_ledger.specs.Seen.{hour_of, is_ruled, rulings, totals_in}
use Rattle.drop_ledger.specs.Ledger.{TallyState, StandsFor, counts_of, denials, denied_kinds, hour_in}
use Rattle.run_packets.specs.Tally.Texts.{hour_lines, end_lines}

-- ---- A packet

-- what is counted of a frame that isn't a readable packet: its verdict alone
abbrev pub unread : ℕ → Verdict → Seen
unread moment verdict = record { moment = moment; verdict = verdict; source = no_mac; destination = no_mac; fields = None }
  where
    no_mac : Mac
    no_mac = record { 0 = 0 ∷ 0 ∷ 0 ∷ 0 ∷ 0 ∷ 0 ∷ [] }

unfoldable pub seen_as : ℕ → Verdict → Frame → Seen
seen_as moment verdict (frame.Packet packet) = record { moment = moment; verdict = verdict; source = source_of packet.octets; destination = destination_of packet.octets; fields = Some packet.fields }
seen_as moment verdict (frame.Link octets) = unread moment verdict
seen_as moment verdict (frame.Unreadable octets part) = unread moment verdict

-- a packet that was judged, at the session's moment
unfoldable pub seen_of : Judged → Packet → Seen
seen_of judged packet = seen_as judged.session.moment judged.verdict (frame_of packet.octets)

-- the packets that were judged, one after the other from a session on
unfoldable pub seen_in : Session → List Packet → List Seen
seen_in session [] = []
seen_in session (packet ∷ packets) = seen_of (judged_packet session packet) packet ∷ seen_in (judged_packet session packet).session packets

-- ---- The lines, from the list alone

-- each hour in which there are rulings, once, in the order in which they appear first
unfoldable pub hours : List Seen → List ℕ
hours [] = []
hours (s ∷ all) = if is_ruled s then (hour_of s ∷ filter (λ hour. not (hour == hour_of s)) (hours all)) else hours all

unfoldable pub in_hour : ℕ → List Seen → List Seen
in_hour hour all = filter (λ s. hour_of s == hour) all

-- what was denied of all packets, the others, and the totals
unfoldable pub ending_of : List Seen → List ℕ
ending_of all = end_lines (first_rows denied_kinds (denials (rulings all))) (late_rows denied_kinds (denials (rulings all))) (totals_in all)

-- the hours that have rulings, each with its counts, and then what is told at the end
unfoldable pub tally_text : List Seen → List ℕ
tally_text all = flat_map (text_of_hour all) (hours all) ++ ending_of all
  where
    -- the line of an hour, and the counts of the rulings in it
    text_of_hour : List Seen → ℕ → List ℕ
    text_of_hour all hour = hour_lines (Some hour) (counts_of (rulings (in_hour hour all)))

-- ---- The lines as they are written

-- the session, all packets that were judged, and those of them since the last hour was closed
pub record Tallied : Type 0 where
  pub session : Session
  pub all : List Seen
  pub latest : List Seen

abbrev pub begun : Session → Tallied
begun session = record { session = session; all = []; latest = [] }

-- there are rulings of another hour
unfoldable pub is_over : Option ℕ → ℕ → Bool
is_over None now = false
is_over (Some hour) now = not (hour == now)

-- the lines of the hour of these packets
unfoldable pub closing : List Seen → List ℕ
closing latest = hour_lines (hour_in latest) (counts_of (rulings latest))

-- the packets since the last hour was closed, with this one
unfoldable pub latest_with : List Seen → Seen → List Seen
latest_with latest s = (if is_over (hour_in latest) (hour_of s) then [] else latest) ++ s ∷ []

-- An hour's lines are written before the first packet of a later hour is counted, whatever the verdict on it.
unfoldable pub tally_step : Tallied → Packet → LineStep Tallied
tally_step t packet = tallied t (judged_packet t.session packet) (seen_of (judged_packet t.session packet) packet)
  where
    -- the lines of the last hour, where the packet is of another one
    closed_before : List Seen → Seen → List ℕ
    closed_before latest s = if is_over (hour_in latest) (hour_of s) then closing latest else []

    tallied : Tallied → Judged → Seen → LineStep Tallied
    tallied t judged s = record { line = closed_before t.latest s; next = record { session = judged.session; all = t.all ++ s ∷ []; latest = latest_with t.latest s } }

-- the lines of the last hour, and those at the end
unfoldable pub tally_ending : Tallied → List ℕ
tally_ending t = closing t.latest ++ ending_of t.all

-- What the run holds stands for the packets that were judged.
pub record IsTallied (t : Tallied) (state : DeskState) (now : ℕ) (tally : TallyState) : Type 0 where
  pub session : session_of state ≡ t.session
  pub moment : now ≡ t.session.moment
  pub stands : StandsFor t.all t.latest tally
