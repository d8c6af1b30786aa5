use Rattle.std.proofs.Common.{ap}
use Rattle.mud_desk.specs.DeskState.{session_of}
use Rattle.run_desk.proofs.judging.judge_capture.Goals as goal

pub returns-clause-done : goal.returns-clause-done
returns-clause-done g c = c.write_capture-status.ensures.done (session_of c.args.desk.state) (ap session_of c.into_parts-keeper.ensures.state)

pub returns-clause-part : goal.returns-clause-part
returns-clause-part g c = c.write_capture-status.ensures.part (session_of c.args.desk.state) (ap session_of c.into_parts-keeper.ensures.state)
