use Rattle.std.specs.Prelude.{option_copied, ◌-◌}
use Rattle.std.proofs.lemmas.Result.{on_ok_weaker}
use Rattle.usage_tables.specs.Policies.{policy_change}
use Rattle.desk_books.proofs.FileRows.{lent_paid, lent_read}
use Rattle.desk_books.proofs.rows.file_rows.Goals as goal

pub returns-in-Comes-clause-steps : goal.returns-in-Comes-clause-steps
returns-in-Comes-clause-steps g c =
    let change = c.args.change.now in
    lent_paid (policy_change change.edit) change.url c.args.files.now.files c.args.compiled.now (c.policy_rows.new.steps - c.args.steps.now) c.url-url.result.now (option_copied c.candidate_policy.result) c.in-Comes.ensures c.url-url.ensures c.candidate_policy.ensures c.policy_rows.ensures.steps

pub returns-in-Comes-clause-read : goal.returns-in-Comes-clause-read
returns-in-Comes-clause-read g c =
    let change = c.args.change.now in
    on_ok_weaker c.policy_rows.result
    (lent_read (policy_change change.edit) change.url c.args.files.now.files c.args.compiled.now (c.policy_rows.new.steps - c.args.steps.now) c.url-url.result.now (option_copied c.candidate_policy.result) c.in-Comes.ensures c.url-url.ensures c.candidate_policy.ensures)
    c.policy_rows.ensures.read
