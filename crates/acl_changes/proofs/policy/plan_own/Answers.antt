use Rattle.std.proofs.Common.{arith}
use Rattle.std.proofs.lemmas.Result.{on_ok_weaker}
use Rattle.acl_changes.proofs.PolicyRows.{own_length}
use Rattle.acl_changes.proofs.policy.plan_own.Goals as goal

pub returns-in_err-plan_side-clause-most : goal.returns-in_err-plan_side-clause-most
returns-in_err-plan_side-clause-most g c = omega (arith, own_length c.args.owner c.args.rows.now.rows c.requires, c.plan_side.ensures.counted)

pub returns-clause-most : goal.returns-clause-most
returns-clause-most g c = omega (arith, own_length c.args.owner c.args.rows.now.rows c.requires, c.plan_side.ensures.counted, c.plan_side-2.ensures.counted)

pub returns-clause-read : goal.returns-clause-read
returns-clause-read g c =
    let all = own_length c.args.owner c.args.rows.now.rows c.requires in
    on_ok_weaker c.plan_side-2.result (λ made. omega (arith, all, c.plan_side.ensures.counted, c.plan_side-2.ensures.counted)) c.plan_side-2.ensures.ok
