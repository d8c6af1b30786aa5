use Rattle.std.proofs.Common.{rules, ◌≡◌, ◌++◌, ◌∙◌, ◌⊎◌, Some, None}
use Rattle.pcap_read.specs.Captured.{packet_of}
use Rattle.run_common.specs.Status.{status_number}
use Rattle.run_captures.specs.Fold.{lines_from, state_after}
use Rattle.run_captures.proofs.Folded.{on_ok, on_err, left_none, left_more, left_err, has_written_none, has_written_more, part_at_failure, part_at_packet, output_at_end, part_at_end, taken_at_failure}
use Rattle.run_captures.proofs.lines.write_packets.Goals as goal

pub packets-init : goal.packets-init
packets-init g c = record {
  left = λ s keeps. left_none (g.L.PacketLines.keeps c.args.writer.now) g.L.PacketLines.step s keeps;
  written = λ s first keeps tells start.
      has_written_none (g.L.PacketLines.keeps c.args.writer.now) g.L.PacketLines.step s c.args.reader.now first (g.D.Door.view c.args.door.now).state c.args.lines.now keeps start;
  going = search rules;
  writes = search rules;
  turns = search rules;
  reads = search rules;
}

pub returns-in-Ended-clause-done : goal.returns-in-Ended-clause-done
returns-in-Ended-clause-done g c = λ s first keeps tells start which.
    let writer = g.L.PacketLines in
    let now = c.packets.invariant.written s first keeps tells start in
    let text = lines_from writer.step s now.packets in
    let all = c.in-Ended.ensures.led now.packets text first tells now.done in
    output_at_end writer.step writer.ending s now.packets None first (g.D.Door.view c.go_on.new.door).state (g.D.Door.view c.finish.new.door).state c.go_on.new.lines all (status_number c.finish.result)
    (c.finish.ensures.done (state_after writer.step s now.packets) now.packets text first now.kept tells all which)

pub returns-in-Ended-clause-part : goal.returns-in-Ended-clause-part
returns-in-Ended-clause-part g c = λ s first keeps tells start which.
    let writer = g.L.PacketLines in
    let now = c.packets.invariant.written s first keeps tells start in
    let text = lines_from writer.step s now.packets in
    let all = c.in-Ended.ensures.led now.packets text first tells now.done in
    part_at_end writer.step writer.ending s now.packets None first (g.D.Door.view c.go_on.new.door).state (g.D.Door.view c.finish.new.door).state c.go_on.new.lines all
    (c.finish.ensures.part (state_after writer.step s now.packets) now.packets text first now.kept tells all which)

pub returns-in-Broken-clause-done : goal.returns-in-Broken-clause-done
returns-in-Broken-clause-done g c = λ s first keeps tells start which.
    let writer = g.L.PacketLines in
    let now = c.packets.invariant.written s first keeps tells start in
    let text = lines_from writer.step s now.packets in
    let all = c.in-Broken.ensures.led now.packets text first tells now.done in
    output_at_end writer.step writer.ending s now.packets (Some c.in-Broken.fault) first (g.D.Door.view c.go_on.new.door).state (g.D.Door.view c.finish-in-Broken.new.door).state c.go_on.new.lines all (status_number c.finish-in-Broken.result)
    (c.finish-in-Broken.ensures.done (state_after writer.step s now.packets) now.packets text first now.kept tells all which)

pub returns-in-Broken-clause-part : goal.returns-in-Broken-clause-part
returns-in-Broken-clause-part g c = λ s first keeps tells start which.
    let writer = g.L.PacketLines in
    let now = c.packets.invariant.written s first keeps tells start in
    let text = lines_from writer.step s now.packets in
    let all = c.in-Broken.ensures.led now.packets text first tells now.done in
    part_at_end writer.step writer.ending s now.packets (Some c.in-Broken.fault) first (g.D.Door.view c.go_on.new.door).state (g.D.Door.view c.finish-in-Broken.new.door).state c.go_on.new.lines all
    (c.finish-in-Broken.ensures.part (state_after writer.step s now.packets) now.packets text first now.kept tells all which)

pub returns-in-Failed-clause-part : goal.returns-in-Failed-clause-part
returns-in-Failed-clause-part g c = λ s first keeps tells start which.
    let writer = g.L.PacketLines in
    let now = c.packets.invariant.written s first keeps tells start in
    let text = lines_from writer.step s now.packets in
    part_at_failure writer.step writer.ending s now.packets c.packets.reader first (g.D.Door.view c.packets.door).state (g.D.Door.view c.go_on.new.door).state c.packets.lines now.done
    (c.in-Failed.ensures.led now.packets text first tells now.done)

pub returns-in-Failed-clause-taken : goal.returns-in-Failed-clause-taken
returns-in-Failed-clause-taken g c = λ s first keeps tells start changed.
    let writer = g.L.PacketLines in
    let now = c.packets.invariant.written s first keeps tells start in
    let text = lines_from writer.step s now.packets in
    taken_at_failure writer.step s now.packets first (g.D.Door.view c.go_on.new.door).state
    (c.in-Failed.ensures.taken now.packets text first tells now.done (λ same. changed (same ∙ c.packets.invariant.reads)))

pub returns-then-is_err-clause-part : goal.returns-then-is_err-clause-part
returns-then-is_err-clause-part g c = λ s first keeps tells start which.
    let writer = g.L.PacketLines in
    let now = c.packets.invariant.written s first keeps tells start in
    let text = lines_from writer.step s now.packets in
    part_at_packet writer.step writer.ending s now.packets c.packets.reader c.go_on.new.reader first (g.D.Door.view c.packets.door).state (g.D.Door.view c.go_on.new.door).state c.packets.lines c.go_on.new.lines now.done
    (c.in-Packet.ensures.led now.packets text first tells now.done)

pub returns-then-is_err-clause-left : goal.returns-then-is_err-clause-left
returns-then-is_err-clause-left g c = λ s keeps.
    let writer = g.L.PacketLines in
    let packet = packet_of c.packet.result in
    left_err (writer.keeps c.packets.writer) (writer.keeps c.append_line.new.self) writer.step s packet (c.packets.invariant.left s keeps)
    (λ at kept. on_err c.append_line.result (writer.keeps c.append_line.new.self at ⊎ writer.keeps c.append_line.new.self (writer.step at packet).next) (search rules) (c.append_line.ensures.err at kept))

pub packets-preserved : goal.packets-preserved
packets-preserved g c =
    let writer = g.L.PacketLines in
    let packet = packet_of c.packet.result in
    let next : (at : writer.State) → writer.keeps c.packets.writer at → writer.keeps c.append_line.new.self (writer.step at packet).next = λ at kept.
    on_ok c.append_line.result (writer.keeps c.append_line.new.self (writer.step at packet).next) (search rules) (c.append_line.ensures.next at kept) in
    record {
      left = λ s keeps. left_more (writer.keeps c.packets.writer) (writer.keeps c.append_line.new.self) writer.step s packet (c.packets.invariant.left s keeps) next;
      written = λ s first keeps tells start.
          let now = c.packets.invariant.written s first keeps tells start in
          let at = state_after writer.step s now.packets in
          let longer : c.append_line.new.lines ≡ c.go_on.new.lines ++ (writer.step at packet).line =
          on_ok c.append_line.result (c.append_line.new.lines ≡ c.go_on.new.lines ++ (writer.step at packet).line) (search rules) (c.append_line.ensures.line at now.kept) in
          has_written_more (writer.keeps c.packets.writer) (writer.keeps c.append_line.new.self) writer.step s c.packets.reader c.go_on.new.reader first (g.D.Door.view c.packets.door).state (g.D.Door.view c.go_on.new.door).state
          c.packets.lines c.go_on.new.lines c.append_line.new.lines packet now (c.in-Packet.ensures.led now.packets (lines_from writer.step s now.packets) first tells now.done) c.packet.ensures (next at now.kept) longer;
      going = search rules;
      writes = search rules;
      turns = search rules;
      reads = search rules;
    }
