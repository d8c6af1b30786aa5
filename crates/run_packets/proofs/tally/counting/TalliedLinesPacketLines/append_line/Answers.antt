use Rattle.std.proofs.Common.{ℕ, max, sym, ap, ◌∙◌}
use Rattle.pcap_read.specs.Captured.{packet_of}
use Rattle.desk_model.specs.Sessions.{Session}
use Rattle.run_desk.specs.Judged.{judged_packet}
use Rattle.frame_view.specs.declared.views.Frame.{Frame}
use Rattle.run_packets.specs.Tally.Tallied.{seen_as}
use Rattle.run_packets.proofs.TallyLaws.Stepped.{same_stands, closed_line, seen_is, next_tallied}
use Rattle.run_packets.proofs.tally.counting.TalliedLinesPacketLines.append_line.Goals as goal

pub returns-clause-line : goal.returns-clause-line
returns-clause-line c = λ t is.
    closed_line t (packet_of c.args.packet.now) c.moment_after-moment.result c.args.lines.now c.append_closed.new.lines
    (c.moment_after-moment.ensures ∙ ap (λ (n : ℕ). max n c.args.packet.now.seconds) is.moment)
    (λ s hour. c.in_ok-append_closed.ensures t.all t.latest s is.stands (hour ∙ sym c.hour_at.ensures))

pub returns-clause-next : goal.returns-clause-next
returns-clause-next c = λ t is.
    let moment_is = c.moment_after-moment.ensures ∙ ap (λ (n : ℕ). max n c.args.packet.now.seconds) is.moment in
    next_tallied t (packet_of c.args.packet.now) c.judge_packet.new.state c.moment_after-moment.result c.count_seen.new.tally c.seen_as.result moment_is
    (seen_is t.session (packet_of c.args.packet.now) c.moment_after-moment.result c.in_ok-judged.judged.verdict c.seen_as.result moment_is (c.in_ok-judged.ensures.verdict ∙ ap (λ (s : Session). (judged_packet s (packet_of c.args.packet.now)).verdict) is.session)
    (c.seen_as.ensures ∙ ap (λ (f : Frame). seen_as c.moment_after-moment.result c.in_ok-judged.judged.verdict f) c.in_ok-judged.ensures.frame))
    (c.in_ok-judged.ensures.next ∙ ap (λ (s : Session). (judged_packet s (packet_of c.args.packet.now)).session) is.session)
    (c.count_seen.ensures t.all t.latest (same_stands t.all t.latest c.args.self.now.tally c.make_room.new.tally c.make_room.ensures.same is.stands))
