use Rattle.std.proofs.Common.{◌≤◌, ◌<◌, arith}
use Rattle.usage_tables.specs.Limits.{most_policy_entries}
use Rattle.usage_tables.specs.Files.{set_file, entry_count}
use Rattle.usage_tables.specs.FileCommands.{approved_row}
use Rattle.file_cache.proofs.VerdictLaws.{candidate_approved, too_many}
use Rattle.file_cache.proofs.verdicts.approve.Goals as goal

pub returns-then-entries_with-gt-MOST_POLICY_ENTRIES : goal.returns-then-entries_with-gt-MOST_POLICY_ENTRIES
returns-then-entries_with-gt-MOST_POLICY_ENTRIES c _ =
    let count = rw c.rows.ensures.rows at (c.entries_with.ensures c.args.approval) in
    let many : most_policy_entries < entry_count (set_file (approved_row c.args.row.now c.args.candidate.now c.args.approval) c.args.files.now.rows) = omega (arith, count) in
    too_many c.args.files.now.rows c.args.row.now c.requires.found c.args.candidate.now c.args.approval many

pub returns : goal.returns
returns c =
    let count = rw c.rows.ensures.rows at (c.entries_with.ensures c.args.approval) in
    let few : entry_count (set_file (approved_row c.args.row.now c.args.candidate.now c.args.approval) c.args.files.now.rows) ≤ most_policy_entries = omega (arith, count) in
    candidate_approved c.args.files.now.rows c.args.row.now c.requires.found c.args.candidate.now c.args.approval c.in_ok-item.item c.in_ok-change.change c.requires.candidate few (rw c.of.ensures at c.in_ok-item.ensures) c.in_ok-change.ensures
