use Rattle.std.proofs.Common.{◌≡◌, ◌≤◌, map, take, length}
use Rattle.acl_model.specs.Changes.{those_not_in}
use Rattle.table_laws.specs.Lent.{lent_binding}
use Rattle.table_laws.proofs.changes.those_not_in.Given as goal

-- what is left of those so far, and the index behind the last one found
abbrev pub invariant-loop-binding : goal.invariant-loop-binding
invariant-loop-binding l = record {
  left : l.left ≡ those_not_in (map lent_binding l.others) (map lent_binding (take l.binding-index l.bindings));
  index : l.next ≤ length l.others;
}
