use Rattle.std.proofs.Common.{◌≡◌, Some, None, sym, ap, ◌∙◌}
use Rattle.std.specs.Option.{option_copied}
use Rattle.std.proofs.lemmas.Result.{err_from_is_err_and}
use Rattle.base_rows.specs.Sortable.{row_at}
use Rattle.usage_tables.specs.Files.{url_of, file_at}
use Rattle.usage_tables.proofs.SoundFiles.{url_found}
use Rattle.file_cache.proofs.StepLaws.{goes_on, unread, file_known, file_unknown}
use Rattle.file_cache.proofs.imports.import.Goals as goal

pub returns-in_err-file : goal.returns-in_err-file
returns-in_err-file c = let p = err_from_is_err_and c.from_residual.result c.from_residual.ensures.1 in rw (p.1, p.2) (unread c.args.octets.now c.args.fetched c.args.files.now.rows _ c.in_err-file.ensures.err)

pub beside_candidate-requires-clause-own : goal.beside_candidate-requires-clause-own
unfolding file_at
beside_candidate-requires-clause-own c =
    let found : row_at url_of c.in_ok-file.file.url c.args.files.now.rows ≡ Some c.in-Some.row.now = sym c.get.ensures ∙ ap option_copied c.in-Some.is in
    sym (url_found c.args.files.now.rows c.in_ok-file.file.url c.in-Some.row.now found)

pub new_url-requires-clause-free : goal.new_url-requires-clause-free
unfolding file_at
new_url-requires-clause-free c = sym c.get.ensures ∙ ap option_copied c.in-None.is

pub returns-in-Some : goal.returns-in-Some
unfolding file_at
returns-in-Some c =
    let found : row_at url_of c.in_ok-file.file.url c.args.files.now.rows ≡ Some c.in-Some.row.now = sym c.get.ensures ∙ ap option_copied c.in-Some.is in
    let own = url_found c.args.files.now.rows c.in_ok-file.file.url c.in-Some.row.now found in
    goes_on _ _ c.args.files.now.rows c.beside_candidate.result (file_known c.args.octets.now c.args.fetched c.args.files.now.rows c.in_ok-file.file c.in-Some.row.now c.in_ok-file.ensures.ok found)
    (c.beside_candidate.ensures c.args.files.now.rows c.requires (ap (λ u. row_at url_of u c.args.files.now.rows) own ∙ found))

pub returns-in-None : goal.returns-in-None
unfolding file_at
returns-in-None c =
    goes_on _ _ c.args.files.now.rows c.new_url.result (file_unknown c.args.octets.now c.args.fetched c.args.files.now.rows c.in_ok-file.file c.in_ok-file.ensures.ok (sym c.get.ensures ∙ ap option_copied c.in-None.is)) c.new_url.ensures
