use Rattle.std.proofs.Common.{◌≡◌, ◌≤◌, ℕ, List, take}
use Rattle.acl_compile.specs.Compiled.{HasItsRows}
use Rattle.acl_compile.specs.Plans.{policy_held, others_held}
use Rattle.usage_tables.specs.Policies.{policy_of}
use Rattle.desk_books.proofs.compiling.add_policies.Given as goal

abbrev pub invariant-loop-row : goal.invariant-loop-row
invariant-loop-row g l = record {
  policies : (u : List ℕ) → policy_held l.compiled.slots u ≡ policy_of (take l.row-index l.files) u;
  others : (u : List ℕ) → others_held u l.compiled.slots ≤ l.row-index;
  bindings : l.compiled.bindings ≡ l.initial.compiled.bindings;
  kept : HasItsRows l.compiled;
}
