use Rattle.std.proofs.Common.{◌≡◌, Some, None, sym, ap, ◌∙◌}
use Rattle.std.specs.Option.{option_copied}
use Rattle.base_rows.specs.Sortable.{row_at}
use Rattle.usage_tables.specs.Files.{url_of, file_at}
use Rattle.usage_tables.proofs.SoundFiles.{url_found}
use Rattle.file_cache.proofs.VerdictLaws.{judged, unknown}
use Rattle.file_cache.proofs.StepLaws.{goes_on}
use Rattle.file_cache.proofs.verdicts.judge.Goals as goal

pub judge_row-requires-clause-found : goal.judge_row-requires-clause-found
unfolding file_at
judge_row-requires-clause-found c =
    let found : row_at url_of c.args.url.now c.args.files.now.rows ≡ Some c.in-Some.row.now = sym c.get.ensures ∙ ap option_copied c.in-Some.is in
    ap (λ u. row_at url_of u c.args.files.now.rows) (url_found c.args.files.now.rows c.args.url.now c.in-Some.row.now found) ∙ found

pub returns-in-Some : goal.returns-in-Some
unfolding file_at
returns-in-Some c =
    let found : row_at url_of c.args.url.now c.args.files.now.rows ≡ Some c.in-Some.row.now = sym c.get.ensures ∙ ap option_copied c.in-Some.is in
    goes_on _ _ c.args.files.now.rows c.judge_row.result
    (judged c.args.url.now c.args.files.now.rows c.in-Some.row.now c.args.digest.now c.args.verdict (url_found c.args.files.now.rows c.args.url.now c.in-Some.row.now found) found) c.judge_row.ensures

pub returns-in-None : goal.returns-in-None
unfolding file_at
returns-in-None c _ = unknown c.args.url.now c.args.files.now.rows (sym c.get.ensures ∙ ap option_copied c.in-None.is) c.args.digest.now c.args.verdict
