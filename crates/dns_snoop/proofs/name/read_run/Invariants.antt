use Rattle.std.proofs.Common.{◌≡◌, ◌+◌, ◌≤◌, length}
use Rattle.dns_snoop.specs.Names.{run_from, run_at}
use Rattle.dns_snoop.specs.Steps.{run_answer}
use Rattle.dns_snoop.proofs.name.read_run.Given as goal

abbrev pub invariant-labels : goal.invariant-labels
invariant-labels l = record {
  same : run_answer l.text (run_from 0 l.offset l.rest) ≡ run_answer l.initial.text (run_at l.message l.fn.start);
  room : l.offset + length l.rest ≡ length l.message;
  short : length l.text ≤ 254;
}

abbrev pub decreases-labels : goal.decreases-labels
decreases-labels l = length l.rest
