use Rattle.std.proofs.Common.{◌≡◌, true, sym, subst}
use Rattle.usage_tables.specs.Held.{HeldFile}
use Rattle.usage_tables.specs.Files.{is_approved}
use Rattle.usage_tables.specs.FileItems.{file_row}
use Rattle.file_cache.proofs.TakeLaws.{approved_none, approved_some}
use Rattle.file_cache.proofs.take.approved_row.Goals as goal

pub returns-in_default : goal.returns-in_default
returns-in_default c = approved_none c.args.url.now c.args.approved c.args.approval (rw c.in_default.is at c.in_ok-held.ensures)

pub approved_url-requires : goal.approved_url-requires
approved_url-requires c =
    let is = rw c.in-Some.is at c.in_ok-held.ensures in
    subst (λ (h : HeldFile). is_approved c.args.url.now (h, c.args.approval) ≡ true) (sym is.0) is.1

pub returns : goal.returns
unfolding file_row
returns c =
    let is = rw c.in-Some.is at c.in_ok-held.ensures in
    rw (c.approved_url.ensures, is.0) (approved_some c.args.url.now c.args.approved c.args.approval is.1)
