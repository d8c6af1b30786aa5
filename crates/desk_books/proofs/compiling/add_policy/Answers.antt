use Rattle.desk_books.proofs.Adding.{adds_policy, adds_none, no_approved, approved_policy, can_be_counted}
use Rattle.desk_books.proofs.compiling.add_policy.Goals as goal

pub returns-in_default : goal.returns-in_default
returns-in_default g c = adds_none c.args.row.now c.args.compiled.now (no_approved c.args.row.now c.in_default.is) c.requires.kept

pub plan_policy-requires-clause-lists : goal.plan_policy-requires-clause-lists
plan_policy-requires-clause-lists g c = can_be_counted c.in-Some.held c.file.result.now c.file.ensures

pub returns : goal.returns
returns g c =
    adds_policy c.args.row.now c.file.result.now.policy (approved_policy c.args.row.now c.in-Some.held c.in-Some.field-0-1 c.file.result.now c.in-Some.is c.file.ensures) c.args.compiled.now c.plan_policy.new.self c.commit.new.self c.in_ok-plan.plan
    c.requires.kept c.in_ok-plan.ensures.kept c.in_ok-plan.ensures.ok c.commit.ensures.slots c.commit.ensures.bindings c.commit.ensures.rows
