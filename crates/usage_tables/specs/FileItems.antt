-- The items in which files are kept, and when an item is one.
use Rattle.std.specs.Prelude.{◌≡◌, ℕ, ◌+◌, Bool, ◌&&◌, ◌==◌, nat_lt, nat_le, List, [], ◌∷◌, ◌++◌, length, map, Option, Some, None, if◌then◌else◌}
use Rattle.base_rows.specs.Sortable.{comes_last}
use Rattle.mud_world.specs.declared.item.Item.{Item}
use Rattle.mud_world.specs.declared.item.Put.{Put}
use Rattle.mud_world.specs.Items.{set_put, gone_put}
use Rattle.item_codec.specs.Kinds.{file_kind}
use Rattle.item_codec.specs.Spelling.{number, string, version}
use Rattle.item_codec.specs.Records.{Reading, ◌>>=◌, number_in, string_in, version_in, end_in, optional, optional_in}
use Rattle.usage_tables.specs.declared.approval.Approval.{Approval}
use Rattle.usage_tables.specs.declared.approval.Approval.TheVariants.{Verified, Waived}
use Rattle.usage_tables.specs.declared.cached_file.CachedFile.{CachedFile}
use Rattle.usage_tables.specs.declared.file_edit.FileEdit.{FileEdit}
use Rattle.usage_tables.specs.Held.{HeldFile, held_file}
use Rattle.usage_tables.specs.Limits.{most_files, most_policy_entries}
use Rattle.usage_tables.specs.Files.{url_of, file_at, approved_entries, entry_count, is_sound_file, IsKeptFile}
use Rattle.usage_tables.specs.FileEdits.{edited_row, is_change}

-- ---- The item of a URL: its key is the URL

-- 1 verified, 2 waived
unfoldable pub approval_number : Approval → ℕ
approval_number Verified = 1
approval_number Waived = 2

-- when it was fetched, in eight octets, and its octets
unfoldable pub held_fields : HeldFile → List ℕ
held_fields held = number 8 held.fetched ++ string held.octets

-- when it was fetched, in eight octets, the approval in one, and its octets
unfoldable pub approved_fields : HeldFile × Approval → List ℕ
approved_fields approved = number 8 approved.0.fetched ++ (number 1 (approval_number approved.1) ++ string approved.0.octets)

unfoldable pub file_item : CachedFile → Item
file_item row = record { kind = file_kind; key = row.url; body = file_body row.approved row.candidate }
  where
    file_body : Option (HeldFile × Approval) → Option HeldFile → List ℕ
    file_body approved candidate = version ++ (optional approved_fields approved ++ optional held_fields candidate)

unfoldable pub file_items : List CachedFile → List Item
file_items files = map file_item files

-- ---- Reading one

unfoldable pub held_in : Reading HeldFile
held_in octets = do
  fetched ← number_in 8 octets
  text ← string_in fetched.1
  Some (held_file text.0 fetched.0, text.1)

unfoldable pub approval_in : Reading Approval
approval_in octets = do
  flag ← number_in 1 octets
  approval ← approval_of flag.0
  Some (approval, flag.1)
  where
    approval_of : ℕ → Option Approval
    approval_of n = if n == 1 then Some Verified else (if n == 2 then Some Waived else None)

unfoldable pub approved_in : Reading (HeldFile × Approval)
approved_in octets = do
  fetched ← number_in 8 octets
  approval ← approval_in fetched.1
  text ← string_in approval.1
  Some ((held_file text.0 fetched.0, approval.0), text.1)

unfoldable pub file_row : List ℕ → Option (HeldFile × Approval) → Option HeldFile → CachedFile
file_row url approved candidate = record { url = url; approved = approved; candidate = candidate }

-- the row of a key and a body, where the body has this form, with nothing left
unfoldable pub row_of : List ℕ → List ℕ → Option CachedFile
row_of key body = do
  one ← version_in body
  approved ← optional_in approved_in one.1
  candidate ← optional_in held_in approved.1
  ended ← end_in candidate.1
  Some (file_row key approved.0 candidate.0)

unfoldable pub if_sound_file : CachedFile → Option CachedFile
if_sound_file row = if is_sound_file row then Some row else None

-- the row of an item: at least one file, each of them a usage file of the URL that is the key, fetched at a moment; a
-- verified one has a signature, and a candidate beside an approved file has other octets and isn't older
unfoldable pub file_in : Item → Option CachedFile
file_in item =
    if item.kind == file_kind then (do
      row ← row_of item.key item.body
      if_sound_file row) else None

-- ---- Reading them one after the other

-- there is room for the row, and for the entries of its approved file
unfoldable pub has_room : List CachedFile → CachedFile → Bool
has_room files row = nat_lt (length files) most_files && nat_le (entry_count files + approved_entries row.approved) most_policy_entries

-- the row may stand behind these: its URL is greater, and there is room
unfoldable pub may_stand_behind : List CachedFile → CachedFile → Bool
may_stand_behind files row = comes_last url_of row files && has_room files row

-- the files with that of the item, where it is one that may stand behind them
unfoldable pub with_file_item : List CachedFile → Item → Option (List CachedFile)
with_file_item files item = do
  row ← file_in item
  if may_stand_behind files row then Some (files ++ row ∷ []) else None

-- ---- What has a spelling

-- the item is that of the row
pub record IsFileItem (item : Item) (row : CachedFile) : Type 0 where
  pub same : item ≡ file_item row
  pub kept : IsKeptFile row

-- ---- The puts of an edit

-- the put of a URL's row, or of none
unfoldable pub row_put : List ℕ → Option CachedFile → Put
row_put url None = gone_put file_kind url
row_put url (Some row) = set_put file_item row

-- an edit puts the row that it makes, where it changes something
unfoldable pub edit_puts : FileEdit → List ℕ → List CachedFile → List Put
edit_puts edit url files = if is_change edit then row_put url (edited_row edit url (file_at url files)) ∷ [] else []
