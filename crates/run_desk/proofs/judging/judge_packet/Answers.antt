use Rattle.mud_desk.specs.DeskState.{session_of}
use Rattle.run_desk.proofs.JudgedPackets.{judged_verdict, judged_next, judged_not}
use Rattle.run_desk.proofs.judging.judge_packet.Goals as goal

pub returns-clause-verdict : goal.returns-clause-verdict
returns-clause-verdict c =
    judged_verdict (session_of c.args.state.now) (session_of c.judge_frame.new.self) c.moment_of.result c.args.packet.now.octets.now c.args.packet.now.seconds c.moment_of.ensures c.judge_frame.result c.judge_frame.ensures.judged

pub returns-clause-next : goal.returns-clause-next
returns-clause-next c =
    judged_next (session_of c.args.state.now) (session_of c.judge_frame.new.self) c.moment_of.result c.args.packet.now.octets.now c.args.packet.now.seconds c.moment_of.ensures c.judge_frame.result c.judge_frame.ensures.judged

pub returns-clause-err : goal.returns-clause-err
returns-clause-err c = judged_not (session_of c.args.state.now) (session_of c.judge_frame.new.self) c.moment_of.result c.args.packet.now.octets.now c.judge_frame.result c.judge_frame.ensures.wanting
