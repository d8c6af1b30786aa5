-- What holds of every usage file that is read.
use Rattle.std.specs.Prelude.{◌≡◌, ℕ, ◌≤◌, IsTrue, List, length, count_by, Ok}
use Rattle.std.specs.List.{AllByRecursion}
use Rattle.mud_url.specs.Url.{is_canonical}
use Rattle.acl_model.specs.Keys.{is_member}
use Rattle.acl_model.specs.declared.entry.Entry.{Entry}
use Rattle.mud_file.specs.declared.usage_file.UsageFile.{UsageFile}
use Rattle.mud_file.specs.Entries.{most_entries}
use Rattle.mud_file.specs.File.{file_of}

-- The most member selectors of an entry: one each of `manufacturer`, `same-manufacturer`, `model`, `controller` and
-- `my-controller`, and the DNS name of the peer.
abbrev pub most_members : ℕ
most_members = 6

abbrev pub HasFewMembers : Entry → Type 0
HasFewMembers entry = count_by is_member entry.selectors ≤ most_members

-- the entries of a direction
pub record AreBounded (entries : List Entry) : Type 0 where
  pub few : length entries ≤ most_entries
  pub members : AllByRecursion HasFewMembers entries

pub record IsBounded (file : UsageFile) : Type 0 where
  pub outgoing : AreBounded file.policy.outgoing
  pub incoming : AreBounded file.policy.incoming
  pub least_hours : 1 ≤ file.hours
  pub most_hours : file.hours ≤ 168
  pub url : IsTrue (is_canonical file.url)

abbrev pub ReadFilesAreBounded : Type 0
ReadFilesAreBounded = (octets : List ℕ) (file : UsageFile) → file_of octets ≡ Ok file → IsBounded file
