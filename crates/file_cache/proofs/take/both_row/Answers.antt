use Rattle.std.proofs.Common.{◌≡◌, true, false, sym, ap, subst, ◌∙◌}
use Rattle.usage_tables.specs.Held.{HeldFile}
use Rattle.usage_tables.specs.Files.{is_held, may_follow}
use Rattle.usage_tables.specs.FileItems.{file_row}
use Rattle.file_cache.proofs.TakeLaws.{both_unapproved, both_unheld, both_apart, both_some}
use Rattle.file_cache.proofs.take.both_row.Goals as goal

pub returns-in_default : goal.returns-in_default
returns-in_default c = both_unapproved c.args.url.now c.args.approved c.args.approval c.args.candidate (rw c.in_default.is at c.in_ok-kept.ensures)

pub returns-in-Ok-None : goal.returns-in-Ok-None
returns-in-Ok-None c =
    let kept = rw c.in-Some.is at c.in_ok-kept.ensures in
    both_unheld c.args.url.now c.args.approved c.args.approval c.args.candidate kept.1 (rw c.in-Ok-None.field-0-is at c.in-Ok-None.ensures)

pub url_of-requires : goal.url_of-requires
url_of-requires c =
    let held = rw c.in-Ok-Some.field-0-is at c.in-Ok-Some.ensures in
    subst (λ (h : HeldFile). is_held c.args.url.now h ≡ true) (sym held.0) held.1

pub returns-then-may_follow : goal.returns-then-may_follow
unfolding file_row
returns-then-may_follow c =
    let kept = rw c.in-Some.is at c.in_ok-kept.ensures in
    let held = rw c.in-Ok-Some.field-0-is at c.in-Ok-Some.ensures in
    let follows : may_follow c.args.candidate c.args.approved ≡ true = rw (kept.0, held.0) at (sym c.if-may_follow.ensures) in
    rw (c.url_of.ensures, kept.0, held.0) (both_some c.args.url.now c.args.approved c.args.approval c.args.candidate kept.1 held.1 follows)

pub returns-else-may_follow : goal.returns-else-may_follow
returns-else-may_follow c =
    let kept = rw c.in-Some.is at c.in_ok-kept.ensures in
    let held = rw c.in-Ok-Some.field-0-is at c.in-Ok-Some.ensures in
    let apart : may_follow c.args.candidate c.args.approved ≡ false = rw (kept.0, held.0) at (sym c.if-may_follow.ensures) in
    both_apart c.args.url.now c.args.approved c.args.approval c.args.candidate kept.1 held.1 apart
