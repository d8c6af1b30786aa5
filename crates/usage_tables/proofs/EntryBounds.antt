-- How many entries a file has at most, and all of them.
use Rattle.std.proofs.Common.{◌≡◌, ℕ, zero, suc, ◌+◌, ◌≤◌, ◌<◌, List, [], ◌∷◌, length, drop, get_or, Some, None, refl, ap, arith, add-one, drop-cons}
use Rattle.mud_file.specs.declared.usage_file.UsageFile.{UsageFile}
use Rattle.mud_file.proofs.Bounds.{read_files_are_bounded}
use Rattle.base_rows.specs.Sortable.{row_at, set_row}
use Rattle.usage_tables.specs.declared.approval.Approval.{Approval}
use Rattle.usage_tables.specs.declared.cached_file.CachedFile.{CachedFile}
use Rattle.usage_tables.specs.Held.{HeldFile, usage_in}
use Rattle.usage_tables.specs.Files.{url_of, file_at, set_file, entries_of, approved_entries, entry_count, IsSoundFiles}
use Rattle.usage_tables.specs.FileCommands.{approved_row}
use Rattle.usage_tables.proofs.Counts.{entries_found, entry_count-set_row, entry_count-without_row}
use Rattle.usage_tables.proofs.ItemLaws.{usage_read}

pub few_outgoing : (octets : List ℕ) (file : UsageFile) → usage_in octets ≡ Some file → length file.policy.outgoing ≤ 128
few_outgoing octets file e = (read_files_are_bounded octets file (usage_read octets file e)).outgoing.few

pub few_incoming : (octets : List ℕ) (file : UsageFile) → usage_in octets ≡ Some file → length file.policy.incoming ≤ 128
few_incoming octets file e = (read_files_are_bounded octets file (usage_read octets file e)).incoming.few

pub entries_first : (files : List CachedFile) (i : ℕ) (d : CachedFile) → i < length files → entry_count (drop i files) ≡ approved_entries (get_or files i d).approved + entry_count (drop (i + 1) files)
unfolding entry_count
entries_first files i d within = rw add-one (ap entry_count (drop-cons files i d within))

pub entries_end : (files : List CachedFile) (i : ℕ) → length files ≤ i → entry_count (drop i files) ≡ 0
unfolding entry_count
entries_end [] zero past = refl
entries_end [] (suc i) past = refl
entries_end (x ∷ xs) zero past = absurd (omega arith)
entries_end (x ∷ xs) (suc i) past = entries_end xs i (omega arith)

module _ (files : List CachedFile) (sound : IsSoundFiles files) (row : CachedFile) (found : file_at row.url files ≡ Some row) where
  -- the entries of a row are among all
  pub entries_among : approved_entries row.approved ≤ entry_count files
  unfolding file_at
  entries_among =
      let count = entry_count-without_row row.url files sound.ascend in
      let was : entries_found (row_at url_of row.url files) ≡ approved_entries row.approved = ap entries_found found in
      omega (arith, count, was)

  -- the candidate's come for those of the approved file
  pub entries_after : (c : HeldFile) (a : Approval) → entry_count (set_file (approved_row row c a) files) + approved_entries row.approved ≡ entry_count files + entries_of c
  unfolding set_file file_at approved_row approved_entries url_of
  entries_after c a =
      let new : CachedFile = record row { approved = Some (c, a); candidate = None } in
      let was : entries_found (row_at url_of row.url files) ≡ approved_entries row.approved = ap entries_found found in
      let count : entry_count (set_row url_of new files) + entries_found (row_at url_of row.url files) ≡ entry_count files + entries_of c = entry_count-set_row new files sound.ascend in
      omega (arith, count, was)
