use Rattle.std.proofs.Common.{◌≡◌, true, sym, ap, subst, ◌∙◌}
use Rattle.usage_tables.specs.Held.{HeldFile}
use Rattle.usage_tables.specs.Files.{is_held}
use Rattle.usage_tables.specs.FileItems.{file_row}
use Rattle.file_cache.proofs.TakeLaws.{candidate_none, candidate_some}
use Rattle.file_cache.proofs.take.candidate_row.Goals as goal

pub returns-in_default : goal.returns-in_default
returns-in_default c = candidate_none c.args.url.now c.args.candidate (rw c.in_default.is at c.in_ok-held.ensures)

pub url_of-requires : goal.url_of-requires
url_of-requires c =
    let is = rw c.in-Some.is at c.in_ok-held.ensures in
    subst (λ (h : HeldFile). is_held c.args.url.now h ≡ true) (sym is.0) is.1

pub returns : goal.returns
unfolding file_row
returns c =
    let is = rw c.in-Some.is at c.in_ok-held.ensures in
    rw (c.url_of.ensures, is.0) (candidate_some c.args.url.now c.args.candidate is.1)
