use Rattle.std.proofs.Common.{◌≡◌, ◌+◌, ◌≤◌, drop}
use Rattle.std.specs.Prelude.{find}
use Rattle.packet_judge.specs.ByRows.{passes_at}
use Rattle.packet_judge.specs.RuleSteps.{tested}
use Rattle.packet_judge.proofs.question.Question.first_wide.Given as goal

abbrev pub invariant-loop-n : goal.invariant-loop-n
invariant-loop-n g l = record {
  found : find (passes_at l.self l.part) l.wide ≡ find (passes_at l.self l.part) (drop l.n-index l.wide);
  counted : l.steps + tested (passes_at l.self l.part) (drop l.n-index l.wide) ≡ l.initial.steps + tested (passes_at l.self l.part) l.wide;
  most : l.steps ≤ l.initial.steps + l.n-index;
}
