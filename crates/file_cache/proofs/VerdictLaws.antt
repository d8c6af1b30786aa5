-- What each case of a verdict and of a revoke is, and that a change is made of it.
use Rattle.std.proofs.Common.{◌≡◌, ℕ, ◌≤◌, ◌<◌, true, false, List, Option, Some, None, Err, refl, sym, ap, subst, ◌∙◌}
use Rattle.std.specs.Prelude.{bytes_eq, IsOkAnd}
use Rattle.std.specs.Option.{option_map}
use Rattle.std.proofs.lemmas.Bool.{lt-ltb, le-ltb}
use Rattle.item_codec.specs.declared.word.Word.TheVariants as word
use Rattle.base_rows.specs.Sortable.{SortKeysAscend}
use Rattle.mud_world.specs.declared.item.Item.{Item}
use Rattle.usage_tables.specs.declared.approval.Approval.{Approval}
use Rattle.usage_tables.specs.declared.approval.Approval.TheVariants as approval
use Rattle.usage_tables.specs.declared.approval.OperatorVerdict.{OperatorVerdict}
use Rattle.usage_tables.specs.declared.approval.OperatorVerdict.TheVariants as verdict
use Rattle.usage_tables.specs.declared.cached_file.CachedFile.{CachedFile}
use Rattle.usage_tables.specs.declared.cache_fault.CacheFault.TheVariants.{NoCandidate, Digest, NoSignature, NotApproved, PolicyFull}
use Rattle.usage_tables.specs.declared.file_edit.FileEdit.TheVariants as edit
use Rattle.usage_tables.specs.Held.{HeldFile, digest_of}
use Rattle.usage_tables.specs.Limits.{most_policy_entries}
use Rattle.usage_tables.specs.Files.{url_of, file_at, set_file, without_file, with_candidate, with_approved, is_signed, entry_count}
use Rattle.usage_tables.specs.FileCommands.{FileStep, left_with, approved_row, approve, ruled, candidate_cases, is_ruled, verdict_cases, verdict_step, approved_cases, revoke_step}
use Rattle.usage_tables.specs.FileEdits.{approved_as, if_any, kept_row, changed_row, edited_row, is_change}
use Rattle.usage_tables.specs.FileItems.{file_item, file_row}
use Rattle.file_cache.specs.Changes.{PlannedFile, no_change, set_change, gone_change}
use Rattle.file_cache.specs.Planned.{IsMade}
use Rattle.file_cache.proofs.StepLaws.{made_set, made_gone, made_none}
use Rattle.usage_tables.proofs.Parts.{settled}

module _ (files : List CachedFile) (row : CachedFile) (found : file_at row.url files ≡ Some row) where
  abbrev IsMadeBy : FileStep → PlannedFile → Type 0
  IsMadeBy step change = IsOkAnd step (λ after. IsMade after files change)

  -- ---- The candidate is approved

  pub candidate_approved : (c : HeldFile) (a : Approval) (item : Item) (change : PlannedFile) → row.candidate ≡ Some c → entry_count (set_file (approved_row row c a) files) ≤ most_policy_entries → item ≡ file_item (file_row row.url (Some (c, a)) None) → change ≡ set_change word.Approved row.url (edit.Approved a) item → IsMadeBy (approve row.url files row c a) change
  unfolding approve approved_row edited_row changed_row kept_row if_any approved_as is_change file_row
  candidate_approved c a item change e few is made =
      let new : CachedFile = record row { approved = Some (c, a); candidate = None } in
      let makes : kept_row (record row { approved = option_map (approved_as a) row.candidate; candidate = None }) ≡ Some new = ap (λ (o : Option HeldFile). kept_row (record row { approved = option_map (approved_as a) o; candidate = None })) e in
      rw (le-ltb most_policy_entries (entry_count (set_file new files)) few) (subst (λ (d : PlannedFile). IsMade (record { word = word.Approved; url = row.url; changes = true; files = set_file new files }) files d) (sym made) (made_set files row.url word.Approved (edit.Approved a) new (Some row) item found makes refl is))

  pub too_many : (c : HeldFile) (a : Approval) → most_policy_entries < entry_count (set_file (approved_row row c a) files) → approve row.url files row c a ≡ Err PolicyFull
  unfolding approve
  too_many c a many = rw (lt-ltb most_policy_entries (entry_count (set_file (approved_row row c a) files)) many) refl

  -- ---- The candidate is turned down

  pub rejected_left : (c : HeldFile) (a : HeldFile × Approval) (item : Item) (change : PlannedFile) → row.approved ≡ Some a → item ≡ file_item (file_row row.url row.approved None) → change ≡ set_change word.Rejected row.url edit.Rejected item → IsMadeBy (ruled row.url files row c verdict.Failed) change
  unfolding ruled left_with with_candidate edited_row changed_row kept_row if_any is_change file_row
  rejected_left c a item change e is made =
      let new : CachedFile = record row { candidate = None } in
      let makes : if_any new row.approved None ≡ Some new = ap (λ (o : Option (HeldFile × Approval)). if_any new o None) e in
      let left : settled row.url new row.approved None files ≡ set_file new files = ap (λ (o : Option (HeldFile × Approval)). settled row.url new o None files) e in
      subst (λ (fs : List CachedFile). IsMade (record { word = word.Rejected; url = row.url; changes = true; files = fs }) files change) (sym left)
      (subst (λ (d : PlannedFile). IsMade (record { word = word.Rejected; url = row.url; changes = true; files = set_file new files }) files d) (sym made) (made_set files row.url word.Rejected edit.Rejected new (Some row) item found makes refl is))

  pub rejected_gone : (c : HeldFile) (change : PlannedFile) → row.approved ≡ None → change ≡ gone_change word.Rejected row.url edit.Rejected row.url → IsMadeBy (ruled row.url files row c verdict.Failed) change
  unfolding ruled left_with with_candidate edited_row changed_row kept_row if_any is_change
  rejected_gone c change e made =
      let new : CachedFile = record row { candidate = None } in
      let makes : if_any new row.approved None ≡ None = ap (λ (o : Option (HeldFile × Approval)). if_any new o None) e in
      let left : settled row.url new row.approved None files ≡ without_file row.url files = ap (λ (o : Option (HeldFile × Approval)). settled row.url new o None files) e in
      subst (λ (fs : List CachedFile). IsMade (record { word = word.Rejected; url = row.url; changes = true; files = fs }) files change) (sym left)
      (subst (λ (d : PlannedFile). IsMade (record { word = word.Rejected; url = row.url; changes = true; files = without_file row.url files }) files d) (sym made) (made_gone files row.url word.Rejected edit.Rejected (Some row) row.url found makes refl refl))

  -- ---- The approval is taken back

  pub revoked_left : (a : HeldFile × Approval) (c : HeldFile) (item : Item) (change : PlannedFile) → row.approved ≡ Some a → row.candidate ≡ Some c → item ≡ file_item (file_row row.url None row.candidate) → change ≡ set_change word.Revoked row.url edit.Revoked item → IsMadeBy (approved_cases row.url files row row.approved) change
  unfolding approved_cases left_with with_approved edited_row changed_row kept_row if_any is_change file_row
  revoked_left a c item change e f is made =
      let new : CachedFile = record row { approved = None } in
      let makes : if_any new None row.candidate ≡ Some new = ap (λ (o : Option HeldFile). if_any new None o) f in
      let left : settled row.url new None row.candidate files ≡ set_file new files = ap (λ (o : Option HeldFile). settled row.url new None o files) f in
      subst (λ (o : Option (HeldFile × Approval)). IsMadeBy (approved_cases row.url files row o) change) (sym e)
      (subst (λ (fs : List CachedFile). IsMade (record { word = word.Revoked; url = row.url; changes = true; files = fs }) files change) (sym left)
      (subst (λ (d : PlannedFile). IsMade (record { word = word.Revoked; url = row.url; changes = true; files = set_file new files }) files d) (sym made) (made_set files row.url word.Revoked edit.Revoked new (Some row) item found makes refl is)))

  pub revoked_gone : (a : HeldFile × Approval) (change : PlannedFile) → row.approved ≡ Some a → row.candidate ≡ None → change ≡ gone_change word.Revoked row.url edit.Revoked row.url → IsMadeBy (approved_cases row.url files row row.approved) change
  unfolding approved_cases left_with with_approved edited_row changed_row kept_row if_any is_change
  revoked_gone a change e f made =
      let new : CachedFile = record row { approved = None } in
      let makes : if_any new None row.candidate ≡ None = ap (λ (o : Option HeldFile). if_any new None o) f in
      let left : settled row.url new None row.candidate files ≡ without_file row.url files = ap (λ (o : Option HeldFile). settled row.url new None o files) f in
      subst (λ (o : Option (HeldFile × Approval)). IsMadeBy (approved_cases row.url files row o) change) (sym e)
      (subst (λ (fs : List CachedFile). IsMade (record { word = word.Revoked; url = row.url; changes = true; files = fs }) files change) (sym left)
      (subst (λ (d : PlannedFile). IsMade (record { word = word.Revoked; url = row.url; changes = true; files = without_file row.url files }) files d) (sym made) (made_gone files row.url word.Revoked edit.Revoked (Some row) row.url found makes refl refl)))

-- ---- Cases

module _ (url : List ℕ) (files : List CachedFile) (row : CachedFile) where
  pub verified : (c : HeldFile) (v : OperatorVerdict) → v ≡ verdict.Verified → is_signed c ≡ true → ruled url files row c v ≡ approve url files row c approval.Verified
  unfolding ruled
  verified c v e signed = rw (e, signed) refl

  pub unsigned : (c : HeldFile) (v : OperatorVerdict) → v ≡ verdict.Verified → is_signed c ≡ false → ruled url files row c v ≡ Err NoSignature
  unfolding ruled
  unsigned c v e bare = rw (e, bare) refl

  pub waived : (c : HeldFile) (v : OperatorVerdict) → v ≡ verdict.Waived → ruled url files row c v ≡ approve url files row c approval.Waived
  unfolding ruled
  waived c v e = rw e refl

  pub failed : (c : HeldFile) (v : OperatorVerdict) → v ≡ verdict.Failed → ruled url files row c v ≡ ruled url files row c verdict.Failed
  failed c v e = ap (ruled url files row c) e

  module _ (digest : List ℕ) (v : OperatorVerdict) where
    pub digest_met : (c : HeldFile) → row.candidate ≡ Some c → bytes_eq (digest_of c.octets) digest ≡ true → candidate_cases url digest v files row row.candidate ≡ ruled url files row c v
    unfolding candidate_cases
    digest_met c e same = rw (e, same) refl

    pub digest_missed : (c : HeldFile) → row.candidate ≡ Some c → bytes_eq (digest_of c.octets) digest ≡ false → candidate_cases url digest v files row row.candidate ≡ Err Digest
    unfolding candidate_cases
    digest_missed c e other = rw (e, other) refl

    pub no_candidate : row.candidate ≡ None → candidate_cases url digest v files row row.candidate ≡ Err NoCandidate
    unfolding candidate_cases
    no_candidate e = rw e refl

    pub not_ruled : is_ruled digest v row.approved ≡ false → verdict_cases url digest v files (Some row) ≡ candidate_cases url digest v files row row.candidate
    unfolding verdict_cases
    not_ruled other = rw other refl

    pub ruled_already : (change : PlannedFile) → SortKeysAscend url_of files → is_ruled digest v row.approved ≡ true → change ≡ no_change url → IsOkAnd (verdict_cases url digest v files (Some row)) (λ after. IsMade after files change)
    unfolding verdict_cases
    ruled_already change ascend same made = rw same (subst (λ (d : PlannedFile). IsMade (record { word = word.Same; url = url; changes = false; files = files }) files d) (sym made) (made_none files url ascend))

    pub judged : row.url ≡ url → file_at url files ≡ Some row → verdict_step url digest v files ≡ verdict_cases row.url digest v files (Some row)
    unfolding verdict_step
    judged own found = ap (verdict_cases url digest v files) found ∙ ap (λ u. verdict_cases u digest v files (Some row)) (sym own)

  pub revoked : row.url ≡ url → file_at url files ≡ Some row → revoke_step url files ≡ approved_cases row.url files row row.approved
  unfolding revoke_step
  revoked own found = rw found (ap (λ u. approved_cases u files row row.approved) (sym own))

  pub not_approved : row.approved ≡ None → approved_cases url files row row.approved ≡ Err NotApproved
  unfolding approved_cases
  not_approved e = rw e refl

module _ (url : List ℕ) (files : List CachedFile) (found : file_at url files ≡ None) where
  pub unknown : (digest : List ℕ) (v : OperatorVerdict) → verdict_step url digest v files ≡ Err NoCandidate
  unfolding verdict_step verdict_cases
  unknown digest v = rw found refl

  pub unknown_url : revoke_step url files ≡ Err NotApproved
  unfolding revoke_step
  unknown_url = rw found refl
