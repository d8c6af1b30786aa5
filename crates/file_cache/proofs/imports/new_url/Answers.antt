use Rattle.std.proofs.Common.{◌≡◌, ◌≤◌, ◌<◌, length, true, false, sym, ◌∙◌, arith}
use Rattle.usage_tables.specs.Limits.{most_files}
use Rattle.file_cache.proofs.StepLaws.{url_offered, refused_full}
use Rattle.file_cache.proofs.imports.new_url.Goals as goal

pub returns-then-len-ge-MOST_FILES : goal.returns-then-len-ge-MOST_FILES
returns-then-len-ge-MOST_FILES c _ =
    let full : most_files ≤ length c.args.files.now.rows = omega arith in
    refused_full c.args.files.now.rows _ c.args.file full

pub returns : goal.returns
returns c =
    let room : length c.args.files.now.rows < most_files = omega arith in
    url_offered c.args.files.now.rows _ c.args.file c.in-Ok-item_of.item c.in_ok-change.change room c.requires.free
    (rw (c.of.ensures, c.new-held.ensures, c.in-Ok.ensures) at c.in-Ok-item_of.ensures) (rw (c.new-held.ensures, c.in-Ok.ensures) at c.in_ok-change.ensures)
