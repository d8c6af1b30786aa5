-- The list of held files, in the order of their URLs.
use Rattle.std.specs.Prelude.{ℕ, ◌+◌, ◌≤◌, Bool, true, false, not, ◌&&◌, nat_le, IsTrue, is_some, int_lt, List, [], ◌∷◌, length, bytes_eq, Option, Some, None}
use Rattle.std.specs.List.{AllByRecursion}
use Rattle.std.specs.Option.{option_map_or}
use Rattle.base_rows.specs.Sortable.{row_at, set_row, without_row, SortKeysAscend}
use Rattle.mud_file.specs.declared.usage_file.UsageFile.{UsageFile}
use Rattle.usage_tables.specs.Held.{HeldFile, usage_in}
use Rattle.usage_tables.specs.declared.approval.Approval.{Approval}
use Rattle.usage_tables.specs.declared.approval.Approval.TheVariants.{Verified, Waived}
use Rattle.usage_tables.specs.declared.cached_file.CachedFile.{CachedFile}
use Rattle.usage_tables.specs.Limits.{most_files, most_policy_entries, last_moment}

-- files are kept by their URLs
unfoldable pub url_of : CachedFile → List ℕ
url_of row = row.url

-- what is held of a URL
unfoldable pub file_at : List ℕ → List CachedFile → Option CachedFile
file_at url files = row_at url_of url files

-- the files with this row, in place of the one of its URL
unfoldable pub set_file : CachedFile → List CachedFile → List CachedFile
set_file row files = set_row url_of row files

unfoldable pub without_file : List ℕ → List CachedFile → List CachedFile
without_file url files = without_row url_of url files

-- a URL of which a candidate is held, and no more
unfoldable pub new_file : List ℕ → HeldFile → CachedFile
new_file url candidate = record { url = url; approved = None; candidate = Some candidate }

unfoldable pub with_candidate : Option HeldFile → CachedFile → CachedFile
with_candidate candidate row = record row { candidate = candidate }

unfoldable pub with_approved : Option (HeldFile × Approval) → CachedFile → CachedFile
with_approved approved row = record row { approved = approved }

-- ---- What a held file says

-- it has a `mud-signature` (RFC 8520, 13)
unfoldable pub is_signed : HeldFile → Bool
is_signed held = option_map_or (λ (file : UsageFile). is_some file.signature) (usage_in held.octets) false

-- the file was generated before the held one, by the `last-update` of both (RFC 8520, 3.4)
unfoldable pub is_older : UsageFile → HeldFile → Bool
is_older file held = option_map_or (λ (other : UsageFile). int_lt file.update other.update) (usage_in held.octets) false

unfoldable pub entries_of : HeldFile → ℕ
entries_of held = option_map_or (λ (file : UsageFile). length file.policy.outgoing + length file.policy.incoming) (usage_in held.octets) 0

-- the entries of the approved file, where there is one
unfoldable pub approved_entries : Option (HeldFile × Approval) → ℕ
approved_entries None = 0
approved_entries (Some approved) = entries_of approved.0

-- the entries of all approved files
unfoldable pub entry_count : List CachedFile → ℕ
entry_count [] = 0
entry_count (row ∷ files) = approved_entries row.approved + entry_count files

-- ---- What holds of every such list

-- octets that are a usage file of this URL, fetched at a moment
unfoldable pub is_held : List ℕ → HeldFile → Bool
is_held url held = is_usage_of url held && nat_le held.fetched last_moment
  where
    -- its octets are a usage file of this URL
    is_usage_of : List ℕ → HeldFile → Bool
    is_usage_of url held = option_map_or (λ (file : UsageFile). bytes_eq file.url url) (usage_in held.octets) false

-- only a file with a signature can be verified
unfoldable pub may_have : HeldFile → Approval → Bool
may_have held Verified = is_signed held
may_have held Waived = true

unfoldable pub is_approved : List ℕ → HeldFile × Approval → Bool
is_approved url approved = is_held url approved.0 && may_have approved.0 approved.1

-- a candidate beside an approved file has other octets, and was generated no earlier
unfoldable pub may_follow : HeldFile → HeldFile → Bool
may_follow candidate approved = not (bytes_eq candidate.octets approved.octets) && not (is_outdated candidate approved)
  where
    -- a candidate was generated before the held file
    is_outdated : HeldFile → HeldFile → Bool
    is_outdated candidate held = option_map_or (λ file. is_older file held) (usage_in candidate.octets) false

unfoldable pub is_sound_file : CachedFile → Bool
is_sound_file row = are_files row.url row.approved row.candidate
  where
    -- the files of a URL: at least one
    are_files : List ℕ → Option (HeldFile × Approval) → Option HeldFile → Bool
    are_files url None None = false
    are_files url None (Some candidate) = is_held url candidate
    are_files url (Some approved) None = is_approved url approved
    are_files url (Some approved) (Some candidate) = is_approved url approved && (is_held url candidate && may_follow candidate approved.0)

abbrev pub IsKeptFile : CachedFile → Type 0
IsKeptFile row = IsTrue (is_sound_file row)

pub record IsSoundFiles (files : List CachedFile) : Type 0 where
  pub ascend : SortKeysAscend url_of files
  pub each : AllByRecursion IsKeptFile files
  pub few : length files ≤ most_files
  pub entries : entry_count files ≤ most_policy_entries
