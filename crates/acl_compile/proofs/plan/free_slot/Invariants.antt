use Rattle.std.proofs.Common.{◌≡◌, ℕ, ◌<◌, Option, Some, true}
use Rattle.std.specs.Option.{is_some}
use Rattle.std.specs.List.{slice_get}
use Rattle.acl_model.specs.Policies.{UrlPolicy}
use Rattle.acl_compile.proofs.plan.free_slot.Given as goal

abbrev pub invariant-loop-slot : goal.invariant-loop-slot
invariant-loop-slot l = record {
  slot_number : l.slot_number ≡ l.slot-index;
  full : (j : ℕ) (slot : Option UrlPolicy) → j < l.slot-index → slice_get l.slots j ≡ Some slot → is_some slot ≡ true;
}
