use Rattle.std.proofs.Common.{arith, ◌+◌}
use Rattle.dns_snoop.specs.declared.name.RunEnd.TheVariants.{End, Pointer}
use Rattle.dns_snoop.specs.Names.{run_from}
use Rattle.dns_snoop.proofs.Walks.{run_end_here, run_fault_here, run_long_here, run_label_here, length_added}
use Rattle.dns_snoop.proofs.name.read_run.Goals as goal

pub returns-in-Fault-clause-read : goal.returns-in-Fault-clause-read
returns-in-Fault-clause-read c = run_fault_here c.labels.text (run_from 0 c.labels.offset c.labels.rest.now) c.in-Fault.fault _ c.in-Fault.ensures c.labels.invariant.same

pub returns-in-End-clause-read : goal.returns-in-End-clause-read
returns-in-End-clause-read c = run_end_here c.labels.text (run_from 0 c.labels.offset c.labels.rest.now) (End (c.labels.offset + 1)) _ c.in-End.ensures.1 c.labels.invariant.same

pub returns-in-Pointer-clause-read : goal.returns-in-Pointer-clause-read
returns-in-Pointer-clause-read c = run_end_here c.labels.text (run_from 0 c.labels.offset c.labels.rest.now) (Pointer c.labels.offset c.in-Pointer.target) _ c.in-Pointer.ensures.1 c.labels.invariant.same

pub returns-then-len-label-gt-MOST_OCTETS-clause-read : goal.returns-then-len-label-gt-MOST_OCTETS-clause-read
returns-then-len-label-gt-MOST_OCTETS-clause-read c =
    run_long_here c.labels.text (run_from 0 c.labels.offset c.labels.rest.now) (record { offset = c.labels.offset; text = c.in-Label.label.now }) _ _ c.in-Label.ensures.2 (omega (arith, c.if-len-label-gt-MOST_OCTETS.true, c.len.ensures.value)) c.labels.invariant.same

pub labels-preserved : goal.labels-preserved
labels-preserved c = record {
  same = run_label_here c.labels.text c.add_label.new.text (run_from 0 c.labels.offset c.labels.rest.now) (record { offset = c.labels.offset; text = c.in-Label.label.now }) _ _ c.in-Label.ensures.2
      (omega (arith, c.if-len-label-gt-MOST_OCTETS.false, c.len.ensures.value)) c.add_label.ensures c.labels.invariant.same;
  room = omega (arith, c.in-Label.ensures.1, c.labels.invariant.room);
  short = omega (arith, length_added c.labels.text c.add_label.new.text c.in-Label.label.now c.add_label.ensures, c.if-len-label-gt-MOST_OCTETS.false, c.len.ensures.value);
}
