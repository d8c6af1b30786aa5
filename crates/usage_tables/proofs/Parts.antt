-- Parts of definitions that lemmas speak of.
use Rattle.std.specs.Prelude.{ℕ, Bool, List, bytes_eq, nat_le, ◌+◌, ◌*◌, Err, Ok, Result, None, Option, Some, ◌==◌, if◌then◌else◌, false, ◌&&◌, ◌||◌, ◌++◌}
use Rattle.mud_file.specs.declared.usage_file.UsageFile.{UsageFile}
use Rattle.usage_tables.specs.declared.approval.Approval.{Approval}
use Rattle.usage_tables.specs.FileItems.{approval_number, approved_fields, held_fields}
use Rattle.item_codec.specs.Spelling.{number, version}
use Rattle.usage_walk.specs.declared.fault.Broken.{Broken}
use Rattle.usage_tables.specs.declared.cached_file.CachedFile.{CachedFile}
use Rattle.usage_tables.specs.declared.cache_fault.CacheFault.TheVariants.{File, NotApproved}
use Rattle.usage_tables.specs.FileCommands.{FileStep, import_cases, older_than_approved, older_than_candidate, approved_cases}
use Rattle.usage_tables.specs.Held.{HeldFile, usage_in}
use Rattle.usage_tables.specs.Files.{file_at, set_file, without_file, is_older, is_approved, is_held, may_follow}
use Rattle.usage_tables.specs.declared.approval.Approval.TheVariants.{Verified, Waived}
use Rattle.std.specs.Option.{option_map_or}
use Rattle.acl_model.specs.declared.entry.Policy.{Policy}
use Rattle.usage_tables.specs.Policies.{policy_in_held}
use Rattle.item_codec.specs.Records.{optional}

abbrev pub is_of_url : List ℕ → UsageFile → Bool
is_of_url url file = bytes_eq file.url url

abbrev pub has_expired : ℕ → ℕ → UsageFile → Bool
has_expired fetched now file = nat_le (fetched + 3600 * file.hours) now

abbrev pub approval_field : Approval → List ℕ
approval_field approval = number 1 (approval_number approval)

abbrev pub import_read : HeldFile → List CachedFile → Result UsageFile Broken → FileStep
import_read held files (Err broken) = Err (File broken)
import_read held files (Ok file) = import_cases held file files (file_at file.url files)

abbrev pub settled : List ℕ → CachedFile → Option (HeldFile × Approval) → Option HeldFile → List CachedFile → List CachedFile
settled url row None None files = without_file url files
settled url row (Some approved) candidate files = set_file row files
settled url row None (Some candidate) files = set_file row files

abbrev pub approval_of : ℕ → Option Approval
approval_of n = if n == 1 then Some Verified else (if n == 2 then Some Waived else None)

abbrev pub is_usage_of : List ℕ → HeldFile → Bool
is_usage_of url held = option_map_or (λ (file : UsageFile). bytes_eq file.url url) (usage_in held.octets) false

abbrev pub is_outdated : HeldFile → HeldFile → Bool
is_outdated candidate held = option_map_or (λ file. is_older file held) (usage_in candidate.octets) false

abbrev pub are_files : List ℕ → Option (HeldFile × Approval) → Option HeldFile → Bool
are_files url None None = false
are_files url None (Some candidate) = is_held url candidate
are_files url (Some approved) None = is_approved url approved
are_files url (Some approved) (Some candidate) = is_approved url approved && (is_held url candidate && may_follow candidate approved.0)

abbrev pub policy_in_file : UsageFile → Policy
policy_in_file file = file.policy

abbrev pub policy_in_approved : HeldFile × Approval → Option Policy
policy_in_approved approved = policy_in_held approved.0

abbrev pub is_outdated_by : CachedFile → UsageFile → Bool
is_outdated_by row file = older_than_approved file row.approved || older_than_candidate file row.candidate

abbrev pub file_body : Option (HeldFile × Approval) → Option HeldFile → List ℕ
file_body approved candidate = version ++ (optional approved_fields approved ++ optional held_fields candidate)

abbrev pub revoke_cases : List ℕ → List CachedFile → Option CachedFile → FileStep
revoke_cases url files None = Err NotApproved
revoke_cases url files (Some row) = approved_cases url files row row.approved
