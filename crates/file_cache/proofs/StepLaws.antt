-- What each case of a step is, and that a change is made of it.
use Rattle.std.proofs.Common.{◌≡◌, ℕ, ◌≤◌, ◌<◌, true, false, cond, List, [], ◌∷◌, length, Option, Some, None, Result, Ok, Err, refl, sym, ap, subst, ◌∙◌}
use Rattle.std.specs.Prelude.{bytes_eq, IsOkAnd, IsErrAnd}
use Rattle.std.specs.Option.{option_map}
use Rattle.std.proofs.lemmas.Bool.{lt-ltb, le-ltb, le-leb, lt-leb}
use Rattle.item_codec.specs.declared.word.Word as outcome
use Rattle.item_codec.specs.declared.word.Word.TheVariants.{New, Same}
use Rattle.base_rows.specs.Sortable.{SortKeysAscend}
use Rattle.mud_world.specs.declared.item.Item.{Item}
use Rattle.mud_world.specs.declared.item.Put.TheVariants.{Set, Gone}
use Rattle.usage_walk.specs.declared.fault.Broken.{Broken}
use Rattle.mud_file.specs.declared.usage_file.UsageFile.{UsageFile}
use Rattle.mud_file.specs.File.{file_of}
use Rattle.usage_tables.specs.declared.approval.Approval.{Approval}
use Rattle.usage_tables.specs.declared.cached_file.CachedFile.{CachedFile}
use Rattle.usage_tables.specs.declared.cache_fault.CacheFault.{CacheFault}
use Rattle.usage_tables.specs.declared.cache_fault.CacheFault.TheVariants.{File, Older, CacheFull}
use Rattle.usage_tables.specs.declared.file_edit.FileEdit.{FileEdit}
use Rattle.usage_tables.specs.declared.file_edit.FileEdit.TheVariants.{Unchanged, Offered, CandidateFetched, ApprovedFetched}
use Rattle.usage_tables.specs.Held.{HeldFile, held_file}
use Rattle.usage_tables.specs.Limits.{most_files}
use Rattle.usage_tables.specs.Files.{url_of, file_at, set_file, without_file, new_file, with_candidate, with_approved}
use Rattle.usage_tables.specs.FileCommands.{FileStep, candidate_again, approved_again, new_candidate, beside_approved, beside_candidate, import_cases, import_step}
use Rattle.usage_tables.specs.FileEdits.{fetched_at, approved_at, made_row, changed_row, edited_row, put_file, edited, is_change}
use Rattle.usage_tables.specs.FileItems.{file_item, file_row, row_put, edit_puts}
use Rattle.mud_world.specs.Items.{set_put, gone_put}
use Rattle.usage_tables.proofs.EditLaws.{unchanged}
use Rattle.file_cache.specs.Changes.{PlannedFile, no_change, set_change, gone_change}
use Rattle.file_cache.specs.Planned.{IsMade, Makes, IsRefusal, IsUnread}
use Rattle.usage_tables.proofs.Parts.{is_outdated_by}

-- ---- Changes that are made

pub made_set : (files : List CachedFile) (url : List ℕ) (word : outcome.Word) (edit : FileEdit) (new : CachedFile) (o : Option CachedFile) (item : Item) → file_at url files ≡ o → edited_row edit url o ≡ Some new → is_change edit ≡ true → item ≡ file_item new → IsMade (record { word = word; url = url; changes = true; files = set_file new files }) files (set_change word url edit item)
unfolding edited put_file edit_puts row_put set_put set_change
made_set files url word edit new o item found makes changes is =
    let row : edited_row edit url (file_at url files) ≡ Some new = ap (edited_row edit url) found ∙ makes in
    record {
      word = refl;
      url = refl;
      leads = ap (λ r. put_file url r files) row;
      tells = changes;
      puts = ap (λ (i : Item). Set i ∷ []) is ∙ sym (ap (λ (r : Option CachedFile). row_put url r ∷ []) row) ∙ sym (ap (λ b. cond b (row_put url (edited_row edit url (file_at url files)) ∷ []) []) changes);
    }

pub made_gone : (files : List CachedFile) (url : List ℕ) (word : outcome.Word) (edit : FileEdit) (o : Option CachedFile) (key : List ℕ) → file_at url files ≡ o → edited_row edit url o ≡ None → is_change edit ≡ true → key ≡ url → IsMade (record { word = word; url = url; changes = true; files = without_file url files }) files (gone_change word url edit key)
unfolding edited put_file edit_puts row_put gone_put gone_change
made_gone files url word edit o key found makes changes is =
    let row : edited_row edit url (file_at url files) ≡ None = ap (edited_row edit url) found ∙ makes in
    record {
      word = refl;
      url = refl;
      leads = ap (λ r. put_file url r files) row;
      tells = changes;
      puts = ap (λ (k : List ℕ). Gone 2 k ∷ []) is ∙ sym (ap (λ (r : Option CachedFile). row_put url r ∷ []) row) ∙ sym (ap (λ b. cond b (row_put url (edited_row edit url (file_at url files)) ∷ []) []) changes);
    }

pub made_none : (files : List CachedFile) (url : List ℕ) → SortKeysAscend url_of files → IsMade (record { word = Same; url = url; changes = false; files = files }) files (no_change url)
unfolding no_change edit_puts is_change
made_none files url ascend = record { word = refl; url = refl; leads = unchanged Unchanged url files ascend refl; tells = refl; puts = refl }

-- a step that goes on as another one
pub goes_on : (step other : FileStep) (files : List CachedFile) (result : Result PlannedFile CacheFault) → step ≡ other → Makes other files result → Makes step files result
goes_on step other files result is makes = subst (λ s. Makes s files result) (sym is) makes

-- ---- Imports

module _ (files : List CachedFile) (ascend : SortKeysAscend url_of files) (row : CachedFile) (found : file_at row.url files ≡ Some row) where
  abbrev IsMadeBy : FileStep → PlannedFile → Type 0
  IsMadeBy step change = IsOkAnd step (λ after. IsMade after files change)

  pub candidate_raised : (c : HeldFile) (fetched : ℕ) (item : Item) (change : PlannedFile) → row.candidate ≡ Some c → c.fetched < fetched → item ≡ file_item (file_row row.url row.approved (Some (held_file c.octets fetched))) → change ≡ set_change Same row.url (CandidateFetched fetched) item → IsMadeBy (candidate_again fetched row.url files row c) change
  unfolding candidate_again with_candidate edited_row changed_row fetched_at is_change file_row
  candidate_raised c fetched item change e lt is made =
      let new : CachedFile = record row { candidate = Some (held_file c.octets fetched) } in
      let makes : Some (record row { candidate = option_map (fetched_at fetched) row.candidate }) ≡ Some new = ap (λ (o : Option HeldFile). Some (record row { candidate = option_map (fetched_at fetched) o })) e in
      rw (lt-ltb c.fetched fetched lt) (subst (λ (d : PlannedFile). IsMade (record { word = Same; url = row.url; changes = true; files = set_file new files }) files d) (sym made) (made_set files row.url Same (CandidateFetched fetched) new (Some row) item found makes refl is))

  pub candidate_left : (c : HeldFile) (fetched : ℕ) (change : PlannedFile) → fetched ≤ c.fetched → change ≡ no_change row.url → IsMadeBy (candidate_again fetched row.url files row c) change
  unfolding candidate_again
  candidate_left c fetched change le made = rw (le-ltb c.fetched fetched le) (subst (λ (d : PlannedFile). IsMade (record { word = Same; url = row.url; changes = false; files = files }) files d) (sym made) (made_none files row.url ascend))

  pub approved_raised : (a : HeldFile × Approval) (fetched : ℕ) (item : Item) (change : PlannedFile) → row.approved ≡ Some a → a.0.fetched < fetched → item ≡ file_item (file_row row.url (Some (held_file a.0.octets fetched, a.1)) row.candidate) → change ≡ set_change Same row.url (ApprovedFetched fetched) item → IsMadeBy (approved_again fetched row.url files row a) change
  unfolding approved_again with_approved edited_row changed_row fetched_at approved_at is_change file_row
  approved_raised a fetched item change e lt is made =
      let new : CachedFile = record row { approved = Some (held_file a.0.octets fetched, a.1) } in
      let makes : Some (record row { approved = option_map (approved_at fetched) row.approved }) ≡ Some new = ap (λ (o : Option (HeldFile × Approval)). Some (record row { approved = option_map (approved_at fetched) o })) e in
      rw (lt-ltb a.0.fetched fetched lt) (subst (λ (d : PlannedFile). IsMade (record { word = Same; url = row.url; changes = true; files = set_file new files }) files d) (sym made) (made_set files row.url Same (ApprovedFetched fetched) new (Some row) item found makes refl is))

  pub approved_left : (a : HeldFile × Approval) (fetched : ℕ) (change : PlannedFile) → fetched ≤ a.0.fetched → change ≡ no_change row.url → IsMadeBy (approved_again fetched row.url files row a) change
  unfolding approved_again
  approved_left a fetched change le made = rw (le-ltb a.0.fetched fetched le) (subst (λ (d : PlannedFile). IsMade (record { word = Same; url = row.url; changes = false; files = files }) files d) (sym made) (made_none files row.url ascend))

  pub candidate_offered : (held : HeldFile) (file : UsageFile) (item : Item) (change : PlannedFile) → file.url ≡ row.url → is_outdated_by row file ≡ false → item ≡ file_item (file_row row.url row.approved (Some held)) → change ≡ set_change New row.url (Offered held) item → IsMadeBy (new_candidate held file files row) change
  unfolding new_candidate with_candidate edited_row changed_row is_change file_row
  candidate_offered held file item change own young is made =
      let new : CachedFile = record row { candidate = Some held } in
      rw (young, own) (subst (λ (d : PlannedFile). IsMade (record { word = New; url = row.url; changes = true; files = set_file new files }) files d) (sym made) (made_set files row.url New (Offered held) new (Some row) item found refl refl is))

-- a file that was generated earlier is refused
pub refused_older : (held : HeldFile) (file : UsageFile) (files : List CachedFile) (row : CachedFile) → is_outdated_by row file ≡ true → new_candidate held file files row ≡ Err Older
unfolding new_candidate
refused_older held file files row older = rw older refl

module _ (held : HeldFile) (file : UsageFile) (files : List CachedFile) (row : CachedFile) where
  pub octets_approved : (a : HeldFile × Approval) → row.approved ≡ Some a → bytes_eq held.octets a.0.octets ≡ true → file.url ≡ row.url → beside_approved held file files row row.approved ≡ approved_again held.fetched row.url files row a
  unfolding beside_approved
  octets_approved a e same own = rw (e, same, own) refl

  pub octets_new : (a : HeldFile × Approval) → row.approved ≡ Some a → bytes_eq held.octets a.0.octets ≡ false → beside_approved held file files row row.approved ≡ new_candidate held file files row
  unfolding beside_approved
  octets_new a e other = rw (e, other) refl

  pub none_approved : row.approved ≡ None → beside_approved held file files row row.approved ≡ new_candidate held file files row
  unfolding beside_approved
  none_approved e = rw e refl

  pub octets_candidate : (c : HeldFile) → row.candidate ≡ Some c → bytes_eq held.octets c.octets ≡ true → file.url ≡ row.url → beside_candidate held file files row row.candidate ≡ candidate_again held.fetched row.url files row c
  unfolding beside_candidate
  octets_candidate c e same own = rw (e, same, own) refl

  pub octets_other : (c : HeldFile) → row.candidate ≡ Some c → bytes_eq held.octets c.octets ≡ false → beside_candidate held file files row row.candidate ≡ beside_approved held file files row row.approved
  unfolding beside_candidate
  octets_other c e other = rw (e, other) refl

  pub no_candidate : row.candidate ≡ None → beside_candidate held file files row row.candidate ≡ beside_approved held file files row row.approved
  unfolding beside_candidate
  no_candidate e = rw e refl

module _ (files : List CachedFile) (held : HeldFile) (file : UsageFile) where
  pub refused_full : most_files ≤ length files → import_cases held file files None ≡ Err CacheFull
  unfolding import_cases
  refused_full full = rw (le-leb most_files (length files) full) refl

  pub url_offered : (item : Item) (change : PlannedFile) → length files < most_files → file_at file.url files ≡ None → item ≡ file_item (file_row file.url None (Some held)) → change ≡ set_change New file.url (Offered held) item → IsOkAnd (import_cases held file files None) (λ after. IsMade after files change)
  unfolding import_cases edited_row made_row is_change new_file file_row
  url_offered item change room found is made =
      let new : CachedFile = record { url = file.url; approved = None; candidate = Some held } in
      rw (lt-leb most_files (length files) room) (subst (λ (d : PlannedFile). IsMade (record { word = New; url = file.url; changes = true; files = set_file new files }) files d) (sym made) (made_set files file.url New (Offered held) new None item found refl refl is))

-- ---- The octets that are imported

module _ (octets : List ℕ) (fetched : ℕ) (files : List CachedFile) where
  pub file_refused : (broken : Broken) → file_of octets ≡ Err broken → import_step octets fetched files ≡ Err (File broken)
  unfolding import_step
  file_refused broken e = rw e refl

  pub file_known : (file : UsageFile) (row : CachedFile) → file_of octets ≡ Ok file → file_at file.url files ≡ Some row → import_step octets fetched files ≡ beside_candidate (held_file octets fetched) file files row row.candidate
  unfolding import_step import_cases
  file_known file row e found = rw (e, found) refl

  pub file_unknown : (file : UsageFile) → file_of octets ≡ Ok file → file_at file.url files ≡ None → import_step octets fetched files ≡ import_cases (held_file octets fetched) file files None
  unfolding import_step
  file_unknown file e found = rw (e, found) refl

  refused_as : (fault : CacheFault) (read : Result UsageFile Broken) → file_of octets ≡ read → IsErrAnd read (λ broken. fault ≡ File broken) → import_step octets fetched files ≡ Err fault
  refused_as fault (Ok file) e is = absurd is
  refused_as fault (Err broken) e is = file_refused broken e ∙ ap Err (sym is)

  pub unread : (fault : CacheFault) → IsUnread (file_of octets) fault → IsRefusal (import_step octets fetched files) fault
  unread fault why other = refused_as fault (file_of octets) refl (why other)
