-- When files are to be fetched again (RFC 8520, 3.5).
use Rattle.std.specs.Prelude.{ℕ, ◌+◌, ◌*◌, Bool, false, nat_lt, nat_le, List, map, filter, Option, Some, None, if◌then◌else◌}
use Rattle.std.specs.Option.{option_map_or}
use Rattle.mud_file.specs.declared.usage_file.UsageFile.{UsageFile}
use Rattle.usage_tables.specs.declared.approval.Approval.{Approval}
use Rattle.usage_tables.specs.declared.cached_file.CachedFile.{CachedFile}
use Rattle.usage_tables.specs.Held.{HeldFile, usage_in}
use Rattle.usage_tables.specs.Files.{url_of}

-- of the held files of a URL the one that was fetched later, and on a tie the candidate
unfoldable pub latest : Option (HeldFile × Approval) → Option HeldFile → Option HeldFile
latest None candidate = candidate
latest (Some approved) None = Some approved.0
latest (Some approved) (Some candidate) = if nat_lt candidate.fetched approved.0.fetched then Some approved.0 else Some candidate

-- so many seconds after it was fetched as its `cache-validity` has hours
unfoldable pub is_expired : ℕ → HeldFile → Bool
is_expired now held = option_map_or (λ (file : UsageFile). nat_le (held.fetched + 3600 * file.hours) now) (usage_in held.octets) false

unfoldable pub is_due : ℕ → CachedFile → Bool
is_due now row = option_map_or (is_expired now) (latest row.approved row.candidate) false

-- the URLs of which a file is to be fetched again, in their order
unfoldable pub due_urls : ℕ → List CachedFile → List (List ℕ)
due_urls now files = map url_of (due_files now files)
  where
    due_files : ℕ → List CachedFile → List CachedFile
    due_files now files = filter (is_due now) files
