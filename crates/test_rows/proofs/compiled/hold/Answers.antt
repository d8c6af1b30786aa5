use Rattle.std.proofs.Common.{arith}
use Rattle.acl_changes.proofs.PolicyLaws.{counts_both}
use Rattle.test_rows.proofs.compiled.hold.Goals as goal

pub plan_policy-requires-clause-lists : goal.plan_policy-requires-clause-lists
plan_policy-requires-clause-lists g c = counts_both c.args.policy.now (omega arith) (omega arith)
