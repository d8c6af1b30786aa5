-- The lines of the URLs that are due.
use Rattle.std.proofs.Common.{◌≡◌, ℕ, Bool, true, false, List, [], ◌∷◌, ◌++◌, Option, refl, sym, ap, ap₂, ◌∙◌}
use Rattle.std.specs.Prelude.{flat_map}
use Rattle.usage_tables.specs.declared.cached_file.CachedFile.{CachedFile}
use Rattle.usage_tables.specs.Files.{url_of}
use Rattle.usage_tables.specs.Due.{is_due, due_urls}
use Rattle.run_words.specs.declared.command.ReportKind.{ReportKind}
use Rattle.run_words.specs.declared.command.ReportKind.TheVariants.{Due}
use Rattle.desk_model.specs.DeskTables.{DeskTables}
use Rattle.run_reports.specs.Rows.{due_line}
use Rattle.run_common.specs.Moments.{listing_moment}
use Rattle.run_reports.specs.Tables.{due_part, table_text}

due_step : (now : ℕ) (row : CachedFile) (files : List CachedFile) (b : Bool) → is_due now row ≡ b → flat_map (due_part now) files ≡ flat_map due_line (due_urls now files)
    → flat_map (due_part now) (row ∷ files) ≡ flat_map due_line (due_urls now (row ∷ files))
unfolding due_urls url_of due_part
due_step now row files true due later = rw due (ap (λ (lines : List ℕ). due_line row.url ++ lines) later)
due_step now row files false due later = rw due later

due_none : (now : ℕ) → flat_map (due_part now) [] ≡ flat_map due_line (due_urls now [])
unfolding due_urls
due_none now = refl

-- a line for each row whose file is due is a line for each URL that is due
pub due_lines : (now : ℕ) (files : List CachedFile) → flat_map (due_part now) files ≡ flat_map due_line (due_urls now files)
due_lines now [] = due_none now
due_lines now (row ∷ files) = due_step now row files (is_due now row) refl (due_lines now files)

-- they are the table of the URLs that are due
pub due_table : (kind : ReportKind) (clock : Option ℕ) (desk : DeskTables) (now : ℕ) (files : List CachedFile) → kind ≡ Due → now ≡ listing_moment desk.stamp clock → files ≡ desk.files
    → flat_map (due_part now) files ≡ table_text kind clock desk
unfolding table_text
due_table kind clock desk now files is at same =
    due_lines now files
    ∙ ap₂ (λ (n : ℕ) (rows : List CachedFile). flat_map due_line (due_urls n rows)) at same
    ∙ ap (λ (k : ReportKind). table_text k clock desk) (sym is)
