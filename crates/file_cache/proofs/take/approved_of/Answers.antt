use Rattle.std.proofs.Common.{◌≡◌, true, false, sym, ap, ◌∙◌}
use Rattle.usage_tables.specs.Held.{HeldFile}
use Rattle.usage_tables.specs.Files.{may_have}
use Rattle.file_cache.proofs.TakeLaws.{approved_unheld, approved_by}
use Rattle.file_cache.proofs.take.approved_of.Goals as goal

pub returns-in_default : goal.returns-in_default
returns-in_default c = approved_unheld c.args.url.now c.args.part c.args.approval (rw c.in_default.is at c.in_ok-held.ensures)

pub returns-then-may_have : goal.returns-then-may_have
returns-then-may_have c =
    let is = rw c.in-Some.is at c.in_ok-held.ensures in
    (is.0, approved_by c.args.url.now c.args.part c.args.approval true is.1 (ap (λ (h : HeldFile). may_have h c.args.approval) (sym is.0) ∙ sym c.if-may_have.ensures))

pub returns-else-may_have : goal.returns-else-may_have
returns-else-may_have c =
    let is = rw c.in-Some.is at c.in_ok-held.ensures in
    approved_by c.args.url.now c.args.part c.args.approval false is.1 (ap (λ (h : HeldFile). may_have h c.args.approval) (sym is.0) ∙ sym c.if-may_have.ensures)
