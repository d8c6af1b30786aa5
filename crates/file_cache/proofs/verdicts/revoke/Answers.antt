use Rattle.std.proofs.Common.{◌≡◌, Some, None, sym, ap, ◌∙◌}
use Rattle.std.specs.Option.{option_copied}
use Rattle.base_rows.specs.Sortable.{row_at}
use Rattle.usage_tables.specs.Files.{url_of, file_at}
use Rattle.usage_tables.proofs.SoundFiles.{url_found}
use Rattle.file_cache.proofs.VerdictLaws.{revoked, unknown_url}
use Rattle.file_cache.proofs.StepLaws.{goes_on}
use Rattle.file_cache.proofs.verdicts.revoke.Goals as goal

pub returns-in-Some : goal.returns-in-Some
unfolding file_at
returns-in-Some c =
    let found : row_at url_of c.args.url.now c.args.files.now.rows ≡ Some c.in-Some.row.now = sym c.get.ensures ∙ ap option_copied c.in-Some.is in
    let own = url_found c.args.files.now.rows c.args.url.now c.in-Some.row.now found in
    goes_on _ _ c.args.files.now.rows c.revoke_row.result (revoked c.args.url.now c.args.files.now.rows c.in-Some.row.now own found)
    (c.revoke_row.ensures c.args.files.now.rows (ap (λ u. row_at url_of u c.args.files.now.rows) own ∙ found))

pub returns-in-None : goal.returns-in-None
unfolding file_at
returns-in-None c _ = unknown_url c.args.url.now c.args.files.now.rows (sym c.get.ensures ∙ ap option_copied c.in-None.is)
