-- What edits make of the policies of URLs.
use Rattle.std.proofs.Common.{◌≡◌, ℕ, Bool, true, false, cond, List, [], ◌∷◌, Option, Some, None, refl, ap, subst, ◌∙◌}
use Rattle.std.specs.Prelude.{bytes_eq}
use Rattle.std.specs.List.{filter_map}
use Rattle.std.specs.Option.{option_map, option_and_then}
use Rattle.acl_model.specs.declared.entry.Policy.{Policy}
use Rattle.acl_model.specs.Policies.{policy_in}
use Rattle.base_rows.specs.Sortable.{same_sort_key, row_at, SortKeysAbove, SortKeysAscend}
use Rattle.base_rows.proofs.SortableLaws.{row_at-set_row, row_at-without_row, row_at_above, same_sort_key_exact}
use Rattle.usage_tables.specs.declared.approval.Approval.{Approval}
use Rattle.usage_tables.specs.declared.cached_file.CachedFile.{CachedFile}
use Rattle.usage_tables.specs.declared.file_edit.FileEdit.{FileEdit}
use Rattle.usage_tables.specs.declared.file_edit.FileEdit.TheVariants.{Unchanged, Offered, CandidateFetched, ApprovedFetched, Approved, Rejected, Revoked}
use Rattle.usage_tables.specs.Held.{HeldFile}
use Rattle.usage_tables.specs.Files.{url_of, file_at, set_file, without_file, new_file, with_candidate, with_approved}
use Rattle.usage_tables.specs.FileEdits.{fetched_at, approved_at, approved_as, if_any, kept_row, made_row, changed_row, edited_row, put_file, edited}
use Rattle.usage_tables.specs.Policies.{policy_in_held, policy_in_row, policy_of, url_policy_in, policies_of, candidate_in_row, candidate_policy, policy_change, policy_after}
use Rattle.usage_tables.proofs.EditLaws.{edited_url}
use Rattle.usage_tables.proofs.Parts.{policy_in_approved}

-- ---- The policy of the row that comes

approved_same : (m : ℕ) (a : Option (HeldFile × Approval)) → option_and_then policy_in_approved (option_map (approved_at m) a) ≡ option_and_then policy_in_approved a
unfolding approved_at fetched_at policy_in_held
approved_same m None = refl
approved_same m (Some a) = refl

-- of a row that may be left with no file
kept_policy : (row : CachedFile) (a : Option (HeldFile × Approval)) (c : Option HeldFile) → row.approved ≡ a → option_and_then policy_in_row (if_any row a c) ≡ option_and_then policy_in_approved a
unfolding if_any policy_in_row
kept_policy row None None e = refl
kept_policy row (Some a) c e = ap (option_and_then policy_in_approved) e
kept_policy row None (Some c) e = ap (option_and_then policy_in_approved) e

approved_policy : (approval : Approval) (c : Option HeldFile) → option_and_then policy_in_approved (option_map (approved_as approval) c) ≡ option_and_then policy_in_held c
unfolding approved_as
approved_policy approval None = refl
approved_policy approval (Some c) = refl

-- what the change says, by the row before
abbrev after_row : FileEdit → Option CachedFile → Option Policy
after_row Unchanged o = option_and_then policy_in_row o
after_row (Offered held) o = option_and_then policy_in_row o
after_row (CandidateFetched m) o = option_and_then policy_in_row o
after_row (ApprovedFetched m) o = option_and_then policy_in_row o
after_row (Approved approval) o = option_and_then candidate_in_row o
after_row Rejected o = option_and_then policy_in_row o
after_row Revoked o = None

row_policy : (edit : FileEdit) (row : CachedFile) → option_and_then policy_in_row (changed_row edit row) ≡ after_row edit (Some row)
unfolding changed_row policy_in_row candidate_in_row with_candidate with_approved kept_row
row_policy Unchanged row = refl
row_policy (Offered held) row = refl
row_policy (CandidateFetched m) row = refl
row_policy (ApprovedFetched m) row = approved_same m row.approved
row_policy (Approved approval) row =
    kept_policy (record row { approved = option_map (approved_as approval) row.candidate; candidate = None }) (option_map (approved_as approval) row.candidate) None refl
    ∙ approved_policy approval row.candidate
row_policy Rejected row = kept_policy (record row { candidate = None }) row.approved None refl
row_policy Revoked row = kept_policy (record row { approved = None }) None row.candidate refl

made_policy : (edit : FileEdit) (url : List ℕ) → option_and_then policy_in_row (made_row edit url) ≡ after_row edit None
unfolding made_row policy_in_row new_file
made_policy (Offered held) url = refl
made_policy Unchanged url = refl
made_policy (CandidateFetched m) url = refl
made_policy (ApprovedFetched m) url = refl
made_policy (Approved approval) url = refl
made_policy Rejected url = refl
made_policy Revoked url = refl

edited_policy : (edit : FileEdit) (url : List ℕ) (o : Option CachedFile) → option_and_then policy_in_row (edited_row edit url o) ≡ after_row edit o
unfolding edited_row
edited_policy edit url None = made_policy edit url
edited_policy edit url (Some row) = row_policy edit row

after_is : (edit : FileEdit) (url : List ℕ) (files : List CachedFile) → after_row edit (file_at url files) ≡ policy_after (policy_change edit) files url
unfolding policy_after policy_change policy_of candidate_policy
after_is Unchanged url files = refl
after_is (Offered held) url files = refl
after_is (CandidateFetched m) url files = refl
after_is (ApprovedFetched m) url files = refl
after_is (Approved approval) url files = refl
after_is Rejected url files = refl
after_is Revoked url files = refl

-- ---- The row of each URL

put_at : (url u : List ℕ) (o : Option CachedFile) (files : List CachedFile) → SortKeysAscend url_of files → ((row : CachedFile) → o ≡ Some row → url_of row ≡ url) → row_at url_of u (put_file url o files) ≡ cond (same_sort_key url u) o (row_at url_of u files)
unfolding put_file set_file without_file
put_at url u None files ascend own = row_at-without_row url_of url files u ascend
put_at url u (Some row) files ascend own = row_at-set_row url_of row files u ∙ ap (λ p. cond (same_sort_key p u) (Some row) (row_at url_of u files)) (own row refl)

by_sort_key : (b : Bool) (x y : Option CachedFile) → option_and_then policy_in_row (cond b x y) ≡ cond b (option_and_then policy_in_row x) (option_and_then policy_in_row y)
by_sort_key true x y = refl
by_sort_key false x y = refl

pub policy_edited : (edit : FileEdit) (url u : List ℕ) (files : List CachedFile) → SortKeysAscend url_of files → policy_of (edited edit url files) u ≡ cond (bytes_eq url u) (policy_after (policy_change edit) files url) (policy_of files u)
unfolding policy_of edited file_at
policy_edited edit url u files ascend =
    let new : Option CachedFile = edited_row edit url (row_at url_of url files) in
    ap (option_and_then policy_in_row) (put_at url u new files ascend (λ row e. edited_url edit url files (row_at url_of url files) row refl e))
    ∙ by_sort_key (same_sort_key url u) new (row_at url_of u files)
    ∙ ap (λ p. cond (same_sort_key url u) p (option_and_then policy_in_row (row_at url_of u files))) (edited_policy edit url (row_at url_of url files) ∙ after_is edit url files)

-- ---- The list of policies

-- the policies behind a row, by whether it has one
row_of_list : (url : List ℕ) (x : CachedFile) (xs : List CachedFile) (p : Option Policy) → policy_in_row x ≡ p → policy_in (filter_map url_policy_in xs) url ≡ option_and_then policy_in_row (row_at url_of url xs) → ((own : same_sort_key x.url url ≡ true) → row_at url_of url xs ≡ None) → (b : Bool) → same_sort_key x.url url ≡ b → policy_in (filter_map url_policy_in (x ∷ xs)) url ≡ option_and_then policy_in_row (cond b (Some x) (row_at url_of url xs))
unfolding url_policy_in policy_in
row_of_list url x xs None none rest alone true e = rw none (rest ∙ ap (option_and_then policy_in_row) (alone e))
row_of_list url x xs None none rest alone false e = rw none rest
row_of_list url x xs (Some p) some rest alone true e = rw (some, e) refl
row_of_list url x xs (Some p) some rest alone false e = rw (some, e) rest

pub policy_in-policies_of : (files : List CachedFile) (url : List ℕ) → SortKeysAscend url_of files → policy_in (policies_of files) url ≡ policy_of files url
unfolding policies_of policy_of file_at policy_in url_of
policy_in-policies_of [] url ascend = refl
policy_in-policies_of (x ∷ xs) url ascend =
    row_of_list url x xs (policy_in_row x) refl (policy_in-policies_of xs url ascend.1)
    (λ own. row_at_above url_of url xs (subst (λ p. SortKeysAbove url_of p xs) (same_sort_key_exact x.url url own) ascend.0))
    (same_sort_key x.url url) refl
