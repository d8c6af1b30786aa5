use Rattle.std.proofs.Common.{refl}
use Rattle.mud_desk.specs.DeskState.{session_of}
use Rattle.run_desk.proofs.JudgedPackets.{next_is, verdict_is}
use Rattle.run_drills.proofs.PacketCounts.{counted_next, none_counted, reached_next, small_next}
use Rattle.run_drills.proofs.judging.judge_packets.Goals as goal

pub loop-before-init : goal.loop-before-init
loop-before-init c = record {
  reached = refl;
  counted = c.none-counts.ensures;
  small = none_counted c.none-counts.result c.none-counts.ensures;
}

pub loop-before-preserved : goal.loop-before-preserved
loop-before-preserved c =
    let n = c.loop-before.before in
    let s = session_of c.args.state.now in
    let here = session_of c.loop-before.state in
    let reached = c.loop-before.invariant.reached in
    let after = session_of c.judge_frame.new.self in
    let at = c.packet_moment.result in
    let octets = c.octets.result.now in
    let verdict = c.in_ok-judged.judged.verdict in
    record {
      reached =
          reached_next c.args.packets n s here reached c.packet_moment.result c.octets.result.now c.write_packet.new.frame c.packet_moment.ensures c.octets.ensures c.in_ok-write_packet.ensures
          after (next_is here after at octets at refl verdict c.in_ok-judged.ensures.judged);
      counted =
          counted_next c.args.packets n s here reached c.packet_moment.result c.octets.result.now c.write_packet.new.frame c.packet_moment.ensures c.octets.ensures c.in_ok-write_packet.ensures
          c.loop-before.counts c.add.new.self verdict c.loop-before.invariant.counted (verdict_is here after at octets at refl verdict c.in_ok-judged.ensures.judged) c.add.ensures;
      small = small_next n c.loop-before.counts c.add.new.self verdict c.loop-before.invariant.small c.add.ensures;
    }
