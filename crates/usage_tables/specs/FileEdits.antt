-- What an edit makes of the row of one URL, and so of the files.
use Rattle.std.specs.Prelude.{ℕ, Bool, true, false, List, Option, Some, None}
use Rattle.std.specs.Option.{option_map}
use Rattle.usage_tables.specs.declared.approval.Approval.{Approval}
use Rattle.usage_tables.specs.declared.cached_file.CachedFile.{CachedFile}
use Rattle.usage_tables.specs.declared.file_edit.FileEdit.{FileEdit}
use Rattle.usage_tables.specs.declared.file_edit.FileEdit.TheVariants.{Unchanged, Offered, CandidateFetched, ApprovedFetched, Approved, Rejected, Revoked}
use Rattle.usage_tables.specs.Held.{HeldFile, held_file}
use Rattle.usage_tables.specs.Files.{file_at, set_file, without_file, new_file, with_candidate, with_approved}

unfoldable pub fetched_at : ℕ → HeldFile → HeldFile
fetched_at moment held = held_file held.octets moment

unfoldable pub approved_at : ℕ → HeldFile × Approval → HeldFile × Approval
approved_at moment approved = (fetched_at moment approved.0, approved.1)

unfoldable pub approved_as : Approval → HeldFile → HeldFile × Approval
approved_as approval held = (held, approval)

-- a row is kept where it holds a file
unfoldable pub if_any : CachedFile → Option (HeldFile × Approval) → Option HeldFile → Option CachedFile
if_any row None None = None
if_any row (Some approved) candidate = Some row
if_any row None (Some candidate) = Some row

unfoldable pub kept_row : CachedFile → Option CachedFile
kept_row row = if_any row row.approved row.candidate

-- the row of a URL of which nothing was held
unfoldable pub made_row : FileEdit → List ℕ → Option CachedFile
made_row (Offered held) url = Some (new_file url held)
made_row Unchanged url = None
made_row (CandidateFetched moment) url = None
made_row (ApprovedFetched moment) url = None
made_row (Approved approval) url = None
made_row Rejected url = None
made_row Revoked url = None

-- the row that comes of a row
unfoldable pub changed_row : FileEdit → CachedFile → Option CachedFile
changed_row Unchanged row = Some row
changed_row (Offered held) row = Some (with_candidate (Some held) row)
changed_row (CandidateFetched moment) row = Some (with_candidate (option_map (fetched_at moment) row.candidate) row)
changed_row (ApprovedFetched moment) row = Some (with_approved (option_map (approved_at moment) row.approved) row)
changed_row (Approved approval) row = kept_row (record row { approved = option_map (approved_as approval) row.candidate; candidate = None })
changed_row Rejected row = kept_row (with_candidate None row)
changed_row Revoked row = kept_row (with_approved None row)

unfoldable pub edited_row : FileEdit → List ℕ → Option CachedFile → Option CachedFile
edited_row edit url None = made_row edit url
edited_row edit url (Some row) = changed_row edit row

-- the files with this row of the URL, or with none
unfoldable pub put_file : List ℕ → Option CachedFile → List CachedFile → List CachedFile
put_file url None files = without_file url files
put_file url (Some row) files = set_file row files

-- the files after the edit of a URL's row
unfoldable pub edited : FileEdit → List ℕ → List CachedFile → List CachedFile
edited edit url files = put_file url (edited_row edit url (file_at url files)) files

-- how many rows more it needs room for
unfoldable pub room_for : FileEdit → ℕ
room_for (Offered held) = 1
room_for Unchanged = 0
room_for (CandidateFetched moment) = 0
room_for (ApprovedFetched moment) = 0
room_for (Approved approval) = 0
room_for Rejected = 0
room_for Revoked = 0

unfoldable pub is_change : FileEdit → Bool
is_change Unchanged = false
is_change (Offered held) = true
is_change (CandidateFetched moment) = true
is_change (ApprovedFetched moment) = true
is_change (Approved approval) = true
is_change Rejected = true
is_change Revoked = true
