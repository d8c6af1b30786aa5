use Rattle.std.proofs.Common.{length}
use Rattle.acl_changes.proofs.bindings.+plan_bindings.Given as goal

abbrev pub decreases-plan_bindings : goal.decreases-plan_bindings
decreases-plan_bindings g l = length l.changed.now
