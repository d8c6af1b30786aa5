use Rattle.std.proofs.Common.{◌≡◌, ◌*◌}
use Rattle.mud_desk.specs.DeskState.{session_of}
use Rattle.run_drills.specs.Counts.{AreAtMost, verdict_counts}
use Rattle.run_drills.specs.Drill.{numbers_to, session_behind, verdicts_on}
use Rattle.run_drills.proofs.judging.judge_packets.Given as goal

abbrev pub invariant-loop-before : goal.invariant-loop-before
invariant-loop-before l = record {
  reached : session_of l.state ≡ session_behind l.packets (session_of l.initial.state) (numbers_to l.before);
  counted : l.counts ≡ verdict_counts (verdicts_on l.packets (session_of l.initial.state) (numbers_to l.before));
  small : AreAtMost (2 * l.before) l.counts;
}
