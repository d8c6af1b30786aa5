use Rattle.std.proofs.Common.{◌≡◌, ◌+◌, ◌≤◌, drop}
use Rattle.acl_compile.specs.Plans.{others_held}
use Rattle.acl_compile.proofs.plan.others_in.Given as goal

abbrev pub invariant-loop-slot : goal.invariant-loop-slot
invariant-loop-slot l = record {
  counted : l.count + others_held l.url (drop l.slot-index l.slots) ≡ others_held l.url l.slots;
  few : l.count ≤ l.slot-index;
}
