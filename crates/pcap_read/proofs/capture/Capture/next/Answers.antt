use Rattle.std.proofs.Common.{refl, sym, rules}
use Rattle.pcap_read.specs.Captured.{packet_of}
use Rattle.pcap_read.proofs.Runs.{first_of_all}
use Rattle.pcap_read.proofs.capture.Capture.next.Goals as goal

pub returns-then-branch : goal.returns-then-branch
returns-then-branch g c =
    let said = c.in_ok-advance.ensures in (
      (
        refl,
        λ _. tt,
        record {
          found = sym c.packet.ensures;
          going = said.going;
          fewer = λ _. search rules;
          next = said.next;
          end = λ t e. cc;
          fault = λ t. tt;
          failed = tt;
          none = tt;
          again = λ fault e. let same = (said.again fault e).0 in cc;
          ready = said.ready;
          cause = said.cause;
          stop = said.stop;
          turns_kept = said.turns;
          writes_kept = said.writes;
        },
      ),
      record {
        stands = tt;
        found = λ t. first_of_all c.args.self.now.1 c.advance.new.self.1 (packet_of c.packet.result) _ _ (said.next t) c.packet.ensures;
        end = λ t e. cc;
        fault = λ t. tt;
        again = λ fault e. let same = (said.again fault e).0 in cc;
      },
    )
