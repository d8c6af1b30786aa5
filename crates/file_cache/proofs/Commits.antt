-- What taking a row out, changing it and putting it back makes of files.
use Rattle.std.proofs.Common.{◌≡◌, ℕ, ◌+◌, ◌≤◌, cond, List, [], Option, Some, None, refl, sym, ap, ◌∙◌, arith, lit≤}
use Rattle.std.specs.Prelude.{is_some}
use Rattle.base_rows.specs.Sortable.{row_at, set_row, without_row, SortKeysAscend}
use Rattle.usage_tables.specs.declared.cached_file.CachedFile.{CachedFile}
use Rattle.usage_tables.specs.declared.file_edit.FileEdit.{FileEdit}
use Rattle.usage_tables.specs.Files.{url_of, file_at, set_file, without_file, entry_count, IsSoundFiles}
use Rattle.usage_tables.specs.FileEdits.{edited_row, put_file, edited, room_for}
use Rattle.usage_tables.proofs.EditLaws.{edited_url, made_needs_room, put_back}

pub no_files_sound : IsSoundFiles []
unfolding entry_count
no_files_sound = record { ascend = tt; each = tt; few = lit≤ tt; entries = lit≤ tt }

-- a row that is put back finds room: it left it, or it was offered
pub room_left : (edit : FileEdit) (url : List ℕ) (o : Option CachedFile) (row : CachedFile) (old new : ℕ) → edited_row edit url o ≡ Some row → room_for edit ≤ old → new ≡ old + cond (is_some o) 1 0 → 1 ≤ new
unfolding edited_row
room_left edit url None row old new made room is = let needs : room_for edit ≡ 1 = made_needs_room edit url row made in omega (arith, needs, room, is)
room_left edit url (Some x) row old new made room is = omega (arith, is)

module _ (files : List CachedFile) (ascend : SortKeysAscend url_of files) (edit : FileEdit) (url : List ℕ) (o : Option CachedFile) (found : o ≡ row_at url_of url files) where
  pub committed_row : (row : CachedFile) → edited_row edit url o ≡ Some row → set_row url_of row (without_row url_of url files) ≡ edited edit url files
  unfolding edited file_at put_file set_file
  committed_row row made =
      let is : edited_row edit url (row_at url_of url files) ≡ Some row = ap (edited_row edit url) (sym found) ∙ made in
      put_back row url files ascend (edited_url edit url files (row_at url_of url files) row refl is) ∙ sym (ap (λ r. put_file url r files) is)

  pub committed_none : edited_row edit url o ≡ None → without_row url_of url files ≡ edited edit url files
  unfolding edited file_at put_file without_file
  committed_none gone = sym (ap (λ r. put_file url r files) (ap (edited_row edit url) (sym found) ∙ gone))
