use Rattle.std.proofs.Common.{◌≡◌, ◌+◌, ◌++◌, drop}
use Rattle.acl_rows.specs.View.{wide_from}
use Rattle.acl_changes.proofs.policies.wide_numbers.Given as goal

abbrev pub invariant-loop-entry : goal.invariant-loop-entry
invariant-loop-entry l = record {
  number : l.n ≡ l.entry-index;
  wide : l.numbers ++ wide_from (l.entry-index + 1) (drop l.entry-index l.entries) ≡ wide_from 1 l.entries;
}
