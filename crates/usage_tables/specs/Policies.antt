-- The policies of the approved files.
use Rattle.std.specs.Prelude.{ℕ, List, Option, None}
use Rattle.std.specs.List.{filter_map}
use Rattle.std.specs.Option.{option_map, option_and_then}
use Rattle.acl_model.specs.declared.entry.Policy.{Policy}
use Rattle.acl_model.specs.Policies.{UrlPolicy, url_policy}
use Rattle.mud_file.specs.declared.usage_file.UsageFile.{UsageFile}
use Rattle.usage_tables.specs.declared.approval.Approval.{Approval}
use Rattle.usage_tables.specs.declared.cached_file.CachedFile.{CachedFile}
use Rattle.usage_tables.specs.declared.file_edit.FileEdit.{FileEdit}
use Rattle.usage_tables.specs.declared.file_edit.FileEdit.TheVariants.{Unchanged, Offered, CandidateFetched, ApprovedFetched, Approved, Rejected, Revoked}
use Rattle.usage_tables.specs.declared.file_edit.PolicyChange.{PolicyChange}
use Rattle.usage_tables.specs.declared.file_edit.PolicyChange.TheVariants.{Stays, Comes, Goes}
use Rattle.usage_tables.specs.Held.{HeldFile, usage_in}
use Rattle.usage_tables.specs.Files.{file_at}

-- the entries of both directions that the octets say
unfoldable pub policy_in_held : HeldFile → Option Policy
policy_in_held held = option_map policy_in_file (usage_in held.octets)
  where
    policy_in_file : UsageFile → Policy
    policy_in_file file = file.policy

unfoldable pub policy_in_row : CachedFile → Option Policy
policy_in_row row = option_and_then policy_in_approved row.approved
  where
    policy_in_approved : HeldFile × Approval → Option Policy
    policy_in_approved approved = policy_in_held approved.0

-- the policy of a URL: that of its approved file, and None where no file of it is approved
unfoldable pub policy_of : List CachedFile → List ℕ → Option Policy
policy_of files url = option_and_then policy_in_row (file_at url files)

unfoldable pub url_policy_in : CachedFile → Option UrlPolicy
url_policy_in row = option_map (url_policy row.url) (policy_in_row row)

-- the policies of all approved files, in the order of their URLs
unfoldable pub policies_of : List CachedFile → List UrlPolicy
policies_of files = filter_map url_policy_in files

-- ---- What an edit makes of them

unfoldable pub candidate_in_row : CachedFile → Option Policy
candidate_in_row row = option_and_then policy_in_held row.candidate

-- the policy that the candidate of a URL says, which counts for nothing before it is approved
unfoldable pub candidate_policy : List CachedFile → List ℕ → Option Policy
candidate_policy files url = option_and_then candidate_in_row (file_at url files)

unfoldable pub policy_change : FileEdit → PolicyChange
policy_change Unchanged = Stays
policy_change (Offered held) = Stays
policy_change (CandidateFetched moment) = Stays
policy_change (ApprovedFetched moment) = Stays
policy_change (Approved approval) = Comes
policy_change Rejected = Stays
policy_change Revoked = Goes

-- the policy that a URL has after the change, by the files before it
unfoldable pub policy_after : PolicyChange → List CachedFile → List ℕ → Option Policy
policy_after Stays files url = policy_of files url
policy_after Comes files url = candidate_policy files url
policy_after Goes files url = None
