use Rattle.mud_desk.specs.DeskState.{session_of}
use Rattle.run_desk.proofs.JudgedPackets.{judged_verdict, judged_next, judged_not}
use Rattle.run_packets.proofs.snoop.packet.judge_packet.Goals as goal

pub returns-clause-verdict : goal.returns-clause-verdict
returns-clause-verdict g c =
    judged_verdict (session_of c.args.desk.now.state) (session_of c.judge_frame.new.self.state) c.moment_of.result c.args.packet.now.octets.now c.args.packet.now.seconds c.moment_of.ensures c.judge_frame.result c.judge_frame.ensures.judged

pub returns-clause-next : goal.returns-clause-next
returns-clause-next g c =
    judged_next (session_of c.args.desk.now.state) (session_of c.judge_frame.new.self.state) c.moment_of.result c.args.packet.now.octets.now c.args.packet.now.seconds c.moment_of.ensures c.judge_frame.result c.judge_frame.ensures.judged

pub returns-clause-err : goal.returns-clause-err
returns-clause-err g c =
    judged_not (session_of c.args.desk.now.state) (session_of c.judge_frame.new.self.state) c.moment_of.result c.args.packet.now.octets.now c.judge_frame.result c.judge_frame.ensures.wanting
