use Rattle.std.proofs.Common.{sym, ◌∙◌, ◌++◌}
use Rattle.pcap_read.specs.Parts.{packets_at, behind_packet, coming, coming_next}
use Rattle.read_buffer.specs.Reading.{behind}
use Rattle.read_buffer.proofs.Readings.{follows_more}
use Rattle.pcap_read.proofs.Stages.{follows_as, stopped, none_from}
use Rattle.pcap_read.proofs.read.step.Goals as goal

pub returns-clause-ok : goal.returns-clause-ok
returns-clause-ok g c = λ t.
    let cursor = c.in_ok-cursor.cursor in
    let given = c.read_packet.new.buffer.given in
    let held = c.read_packet.new.buffer.held in
    let start = behind (coming c.args.progress) c.args.buffer.now.held in
    let middle = behind (packets_at cursor) c.begin.new.buffer.held in
    let found = behind (behind_packet cursor c.in_ok-found.found given) held in
    follows_as start found (behind (coming_next c.next_of.result given) held) _ _
    (follows_more start middle found _ _ _ (c.in_ok-cursor.ensures.ok t) (c.in_ok-found.ensures.ok t))
    (λ more. c.next_of.ensures.coming given (held ++ more))

pub returns-clause-end : goal.returns-clause-end
returns-clause-end g c = λ t e.
    let none = none_from c.in_ok-found.found (sym c.next_of.ensures.found ∙ e) in
    let ended = c.in_ok-found.ensures.end t none in
    (ended.0, ended.1, stopped c.next_of.result.progress c.in_ok-cursor.cursor.order c.next_of.ensures.stage)
