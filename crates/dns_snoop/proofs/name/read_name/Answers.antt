use Rattle.std.proofs.Common.{◌∙◌, ap}
use Rattle.std.proofs.lemmas.Result.{err_from_is_err_and}
use Rattle.dns_snoop.specs.Names.{run_at}
use Rattle.dns_snoop.specs.Steps.{run_answer}
use Rattle.dns_snoop.proofs.Walks.{name_first_fails, name_later_fails, name_read}
use Rattle.dns_snoop.proofs.name.read_name.Goals as goal

pub returns-in_err-first-clause-read : goal.returns-in_err-first-clause-read
returns-in_err-first-clause-read c =
    let p = err_from_is_err_and c.from_residual.result c.from_residual.ensures.1 in
    rw (p.1, p.2) (name_first_fails c.args.message.now c.args.offset _ (c.in_err-first.ensures.read ∙ ap (λ t. run_answer t (run_at c.args.message.now c.args.offset)) c.new-text.ensures))

pub returns-in_err-follow-clause-read : goal.returns-in_err-follow-clause-read
returns-in_err-follow-clause-read c =
    let p = err_from_is_err_and c.from_residual-in_err-follow.result c.from_residual-in_err-follow.ensures.1 in
    rw (p.1, p.2) (name_later_fails c.args.message.now c.args.offset (record { text = c.read_run.new.text; end = c.in_ok-first.first }) _
    (c.in_ok-first.ensures.read ∙ ap (λ t. run_answer t (run_at c.args.message.now c.args.offset)) c.new-text.ensures) c.in_err-follow.ensures.read)

pub returns-clause-read : goal.returns-clause-read
returns-clause-read c =
    name_read c.args.message.now c.args.offset (record { text = c.read_run.new.text; end = c.in_ok-first.first }) c.follow.new.text c.behind_run-behind.result
    (c.in_ok-first.ensures.read ∙ ap (λ t. run_answer t (run_at c.args.message.now c.args.offset)) c.new-text.ensures) c.in_ok-follow.ensures.read c.behind_run-behind.ensures
