use Rattle.std.proofs.Common.{rules, ◌∙◌, ap, Some, None}
use Rattle.mud_world.specs.Kept.{faults_of}
use Rattle.pcap_read.specs.Captured.{packet_of}
use Rattle.run_common.specs.Status.{status_number}
use Rattle.mud_desk.specs.DeskState.{session_of}
use Rattle.mud_desk.proofs.Stays.{stays_further}
use Rattle.run_packets.specs.Snoop.Entries.{packets_of, lines_of}
use Rattle.run_packets.proofs.SnoopLaws.LearntRows.{counts_either}
use Rattle.run_packets.proofs.SnoopLaws.Snooped.{snooped_more, all_at_end, part_at_end, part_at_failure, part_at_packet, taken_at_failure}
use Rattle.run_packets.proofs.SnoopLaws.Statuses.{was_read, was_cut}
use Rattle.run_packets.proofs.snoop.capture.snoop_packets.Goals as goal

pub returns-in-Ended-clause-done : goal.returns-in-Ended-clause-done
returns-in-Ended-clause-done g c = λ first tells start which.
    let door = g.D.Door in
    let members = g.K.Keeper in
    let now = c.packets.invariant.snooped first tells start in
    let all = c.in-Ended.ensures.led (packets_of now.entries) (lines_of now.entries) first tells now.done in
    let end = c.end_capture.ensures in
    let read = was_read c.packets.failed (status_number c.end_capture.result) (status_number c.with_failure.result) end.statuses
    (λ e. ap status_number (c.with_failure.ensures.kept e)) (λ e. ap status_number (c.with_failure.ensures.early e)) c.with_failure.ensures.failed which in
    all_at_end (session_of c.args.desk.now.state) first (faults_of members c.args.desk.now.keeper) (session_of c.packets.desk.state) (door.view c.packets.door).state (faults_of members c.packets.desk.keeper) c.packets.reader c.packets.lines c.packets.failed now
    None (door.view c.go_on.new.door).state c.go_on.new.lines all (door.view c.end_capture.new.door).state (status_number c.end_capture.result) (status_number c.with_failure.result)
    (end.done (packets_of now.entries) (lines_of now.entries) first tells all read)
    (λ e. ap status_number (c.with_failure.ensures.kept e)) (λ e. c.with_failure.ensures.failed e read)

pub returns-in-Ended-clause-part : goal.returns-in-Ended-clause-part
returns-in-Ended-clause-part g c = λ first tells start which.
    let door = g.D.Door in
    let members = g.K.Keeper in
    let now = c.packets.invariant.snooped first tells start in
    let all = c.in-Ended.ensures.led (packets_of now.entries) (lines_of now.entries) first tells now.done in
    let end = c.end_capture.ensures in
    let cut = was_cut c.packets.failed (status_number c.end_capture.result) (status_number c.with_failure.result) end.statuses
    (λ e. ap status_number (c.with_failure.ensures.kept e)) (λ e. ap status_number (c.with_failure.ensures.early e)) c.with_failure.ensures.failed which in
    part_at_end (session_of c.args.desk.now.state) first (faults_of members c.args.desk.now.keeper) (session_of c.packets.desk.state) (door.view c.packets.door).state (faults_of members c.packets.desk.keeper) c.packets.reader c.packets.lines c.packets.failed now
    None (door.view c.go_on.new.door).state c.go_on.new.lines all (door.view c.end_capture.new.door).state
    (end.part (packets_of now.entries) (lines_of now.entries) first tells all cut)

pub returns-in-Broken-clause-done : goal.returns-in-Broken-clause-done
returns-in-Broken-clause-done g c = λ first tells start which.
    let door = g.D.Door in
    let members = g.K.Keeper in
    let now = c.packets.invariant.snooped first tells start in
    let all = c.in-Broken.ensures.led (packets_of now.entries) (lines_of now.entries) first tells now.done in
    let end = c.end_capture-in-Broken.ensures in
    let with = c.with_failure-in-Broken in
    let read = was_read c.packets.failed (status_number c.end_capture-in-Broken.result) (status_number with.result) end.statuses
    (λ e. ap status_number (with.ensures.kept e)) (λ e. ap status_number (with.ensures.early e)) with.ensures.failed which in
    all_at_end (session_of c.args.desk.now.state) first (faults_of members c.args.desk.now.keeper) (session_of c.packets.desk.state) (door.view c.packets.door).state (faults_of members c.packets.desk.keeper) c.packets.reader c.packets.lines c.packets.failed now
    (Some c.in-Broken.fault) (door.view c.go_on.new.door).state c.go_on.new.lines all (door.view c.end_capture-in-Broken.new.door).state (status_number c.end_capture-in-Broken.result) (status_number with.result)
    (end.done (packets_of now.entries) (lines_of now.entries) first tells all read)
    (λ e. ap status_number (with.ensures.kept e)) (λ e. with.ensures.failed e read)

pub returns-in-Broken-clause-part : goal.returns-in-Broken-clause-part
returns-in-Broken-clause-part g c = λ first tells start which.
    let door = g.D.Door in
    let members = g.K.Keeper in
    let now = c.packets.invariant.snooped first tells start in
    let all = c.in-Broken.ensures.led (packets_of now.entries) (lines_of now.entries) first tells now.done in
    let end = c.end_capture-in-Broken.ensures in
    let with = c.with_failure-in-Broken in
    let cut = was_cut c.packets.failed (status_number c.end_capture-in-Broken.result) (status_number with.result) end.statuses
    (λ e. ap status_number (with.ensures.kept e)) (λ e. ap status_number (with.ensures.early e)) with.ensures.failed which in
    part_at_end (session_of c.args.desk.now.state) first (faults_of members c.args.desk.now.keeper) (session_of c.packets.desk.state) (door.view c.packets.door).state (faults_of members c.packets.desk.keeper) c.packets.reader c.packets.lines c.packets.failed now
    (Some c.in-Broken.fault) (door.view c.go_on.new.door).state c.go_on.new.lines all (door.view c.end_capture-in-Broken.new.door).state
    (end.part (packets_of now.entries) (lines_of now.entries) first tells all cut)

pub returns-in-Failed-clause-part : goal.returns-in-Failed-clause-part
returns-in-Failed-clause-part g c = λ first tells start which.
    let door = g.D.Door in
    let members = g.K.Keeper in
    let now = c.packets.invariant.snooped first tells start in
    part_at_failure (session_of c.args.desk.now.state) first (faults_of members c.args.desk.now.keeper) (session_of c.packets.desk.state) (door.view c.packets.door).state (faults_of members c.packets.desk.keeper) c.packets.reader c.packets.lines c.packets.failed now
    (door.view c.go_on.new.door).state (c.in-Failed.ensures.led (packets_of now.entries) (lines_of now.entries) first tells now.done)

pub returns-in-Failed-clause-taken : goal.returns-in-Failed-clause-taken
returns-in-Failed-clause-taken g c = λ first tells start changed.
    let door = g.D.Door in
    let members = g.K.Keeper in
    let now = c.packets.invariant.snooped first tells start in
    taken_at_failure (session_of c.args.desk.now.state) first (faults_of members c.args.desk.now.keeper) (session_of c.packets.desk.state) (door.view c.packets.door).state (faults_of members c.packets.desk.keeper) c.packets.reader c.packets.lines c.packets.failed now
    (door.view c.go_on.new.door).state
    (c.in-Failed.ensures.taken (packets_of now.entries) (lines_of now.entries) first tells now.done (λ same. changed (same ∙ c.packets.invariant.reads)))

pub returns-in-Err-clause-part : goal.returns-in-Err-clause-part
returns-in-Err-clause-part g c = λ first tells start which.
    let door = g.D.Door in
    let members = g.K.Keeper in
    let now = c.packets.invariant.snooped first tells start in
    part_at_packet (session_of c.args.desk.now.state) first (faults_of members c.args.desk.now.keeper) (session_of c.packets.desk.state) (door.view c.packets.door).state (faults_of members c.packets.desk.keeper) c.packets.reader c.packets.lines c.packets.failed now
    c.go_on.new.reader (door.view c.go_on.new.door).state c.go_on.new.lines (packet_of c.packet.result) (session_of c.snoop_packet.new.desk.state) (faults_of members c.snoop_packet.new.desk.keeper)
    (c.in-Packet.ensures.led (packets_of now.entries) (lines_of now.entries) first tells now.done) c.packet.ensures c.in-Err.ensures.part

pub packets-preserved : goal.packets-preserved
packets-preserved g c =
    let door = g.D.Door in
    let members = g.K.Keeper in
    record {
      stays = stays_further members c.packets.invariant.stays c.in-Ok.ensures.stays;
      snooped = λ first tells start.
          let now = c.packets.invariant.snooped first tells start in
          snooped_more (session_of c.args.desk.now.state) first (faults_of members c.args.desk.now.keeper) (session_of c.packets.desk.state) (door.view c.packets.door).state (faults_of members c.packets.desk.keeper) c.packets.reader c.packets.lines c.packets.failed now
          c.go_on.new.reader (door.view c.go_on.new.door).state c.go_on.new.lines c.snoop_packet.new.lines (packet_of c.packet.result) (session_of c.snoop_packet.new.desk.state) (faults_of members c.snoop_packet.new.desk.keeper)
          c.in-Ok.one c.either-failed.result
          (c.in-Packet.ensures.led (packets_of now.entries) (lines_of now.entries) first tells now.done) c.packet.ensures c.in-Ok.ensures.all c.either-failed.ensures;
      keeper = counts_either c.packets.failed c.in-Ok.one c.either-failed.result c.either-failed.ensures
          (faults_of members c.args.desk.now.keeper) (faults_of members c.packets.desk.keeper) (faults_of members c.snoop_packet.new.desk.keeper) c.packets.invariant.keeper c.in-Ok.ensures.keeper;
      going = search rules;
      writes = search rules;
      turns = search rules;
      reads = search rules;
    }

pub returns-in-Err-clause-stays : goal.returns-in-Err-clause-stays
returns-in-Err-clause-stays g c = stays_further g.K.Keeper c.packets.invariant.stays c.in-Err.ensures.stays
