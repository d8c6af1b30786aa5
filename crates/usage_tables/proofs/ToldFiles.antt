-- Every step on files says truly whether it changes them.
use Rattle.std.proofs.Common.{◌≡◌, ℕ, ◌<◌, Bool, true, false, cond, ◌||◌, List, length, Option, Some, None, Result, Ok, Err, refl, sym, ap, subst, ◌∙◌, arith}
use Rattle.std.specs.Prelude.{bytes_eq, nat_le, nat_lt, IfOk}
use Rattle.std.proofs.lemmas.Bool.{false≢true, ltb-true}
use Rattle.std.proofs.lemmas.Option.{none-some, same_Some}
use Rattle.item_codec.specs.declared.word.Word as outcome
use Rattle.item_codec.specs.declared.word.Word.TheVariants.{New, Same, Rejected, Approved, Revoked}
use Rattle.usage_walk.specs.declared.fault.Broken.{Broken}
use Rattle.mud_file.specs.declared.usage_file.UsageFile.{UsageFile}
use Rattle.mud_file.specs.File.{file_of}
use Rattle.base_rows.specs.Sortable.{row_at, without_row, SortKeysAscend}
use Rattle.base_rows.proofs.SortableLaws.{row_at-set_row_same, row_at-without_row, same_sort_key_itself}
use Rattle.base_rows.proofs.ListTests.{same_bytes}
use Rattle.usage_tables.specs.declared.approval.Approval.{Approval}
use Rattle.usage_tables.specs.declared.approval.Approval.TheVariants as approval
use Rattle.usage_tables.specs.declared.approval.OperatorVerdict.{OperatorVerdict}
use Rattle.usage_tables.specs.declared.approval.OperatorVerdict.TheVariants as verdict
use Rattle.usage_tables.specs.declared.cached_file.CachedFile.{CachedFile}
use Rattle.usage_tables.specs.declared.cache_fault.CacheFault.TheVariants.{Older, CacheFull, Digest, NoSignature, PolicyFull}
use Rattle.usage_tables.specs.Held.{HeldFile, held_file, digest_of}
use Rattle.usage_tables.specs.Limits.{most_files, most_policy_entries}
use Rattle.usage_tables.specs.Files.{url_of, file_at, set_file, without_file, new_file, with_candidate, with_approved, is_signed, entry_count}
use Rattle.usage_tables.specs.FileCommands.{TellsChange, FileStep, done, left, candidate_again, approved_again, older_than_approved, older_than_candidate, new_candidate, beside_approved, beside_candidate, import_cases, import_step, left_with, approved_row, approve, ruled, candidate_cases, is_ruled, verdict_cases, verdict_step, approved_cases, revoke_step}
use Rattle.usage_tables.proofs.SoundFiles.{at_its_sort_key}
use Rattle.usage_tables.proofs.Parts.{import_read, settled, revoke_cases}

-- the step, where it isn't refused, says truly whether these files change
abbrev pub IsTold : List CachedFile → FileStep → Type 0
IsTold files step = IfOk step (TellsChange files)

told_by : (files : List CachedFile) (b : Bool) (x y : FileStep) → (b ≡ true → IsTold files x) → (b ≡ false → IsTold files y) → IsTold files (cond b x y)
told_by files true x y f g = f refl
told_by files false x y f g = g refl

-- the same list is left
as_before : (files : List CachedFile) (url : List ℕ) → IsTold files (left url files)
as_before files url = record { same = λ _. refl; other = λ e. absurd (false≢true e) }

-- another list is told as another
as_other : (files new : List CachedFile) (word : outcome.Word) (url : List ℕ) → (new ≡ files → ⊥) → IsTold files (done word url new)
as_other files new word url other = record { same = λ e. absurd (false≢true (sym e)); other = λ _. other }

-- the files hadn't the row that is put in
put_other : (row : CachedFile) (files : List CachedFile) → (row_at url_of (url_of row) files ≡ Some row → ⊥) → set_file row files ≡ files → ⊥
unfolding set_file
put_other row files new e = new (sym (ap (row_at url_of (url_of row)) e) ∙ row_at-set_row_same url_of row files)

-- it takes the place of another row
sort_key_other : (row old : CachedFile) (files : List CachedFile) → row_at url_of (url_of row) files ≡ Some old → (old ≡ row → ⊥) → set_file row files ≡ files → ⊥
sort_key_other row old files there other e = put_other row files (λ is. other (same_Some old row (sym there ∙ is))) e

later : (n m : ℕ) → nat_lt n m ≡ true → n ≡ m → ⊥
later n m lt e = let below : n < m = ltb-true n m lt in omega (arith, below, e)

module _ (files : List CachedFile) (ascend : SortKeysAscend url_of files) (url : List ℕ) (row : CachedFile) (found : file_at url files ≡ Some row) where
  there : row_at url_of (url_of row) files ≡ Some row
  there = at_its_sort_key files url row found

  -- the URL had a row and has none
  gone_other : without_file url files ≡ files → ⊥
  unfolding file_at without_file
  gone_other e =
      let none : row_at url_of url (without_row url_of url files) ≡ None =
      row_at-without_row url_of url files url ascend ∙ ap (λ b. cond b None (row_at url_of url files)) (same_sort_key_itself url) in
      none-some row (sym none ∙ ap (row_at url_of url) e ∙ found)

  other_candidate : (new : Option HeldFile) → (row.candidate ≡ new → ⊥) → set_file (with_candidate new row) files ≡ files → ⊥
  unfolding with_candidate url_of
  other_candidate new other e = sort_key_other (record row { candidate = new }) row files there (λ is. other (ap (λ (r : CachedFile). r.candidate) is)) e

  other_approved : (new : Option (HeldFile × Approval)) → (row.approved ≡ new → ⊥) → set_file (with_approved new row) files ≡ files → ⊥
  unfolding with_approved url_of
  other_approved new other e = sort_key_other (record row { approved = new }) row files there (λ is. other (ap (λ (r : CachedFile). r.approved) is)) e

  candidate_again_told : (fetched : ℕ) (c : HeldFile) → row.candidate ≡ Some c → IsTold files (candidate_again fetched url files row c)
  unfolding candidate_again
  candidate_again_told fetched c e =
      let new : Option HeldFile = Some (held_file c.octets fetched) in
      told_by files (nat_lt c.fetched fetched) (done Same url (set_file (with_candidate new row) files)) (left url files)
      (λ lt. as_other files (set_file (with_candidate new row) files) Same url (other_candidate new (λ is. later c.fetched fetched lt (ap (λ (h : HeldFile). h.fetched) (same_Some c (held_file c.octets fetched) (sym e ∙ is))))))
      (λ _. as_before files url)

  approved_again_told : (fetched : ℕ) (a : HeldFile × Approval) → row.approved ≡ Some a → IsTold files (approved_again fetched url files row a)
  unfolding approved_again
  approved_again_told fetched a e =
      let new : Option (HeldFile × Approval) = Some (held_file a.0.octets fetched, a.1) in
      told_by files (nat_lt a.0.fetched fetched) (done Same url (set_file (with_approved new row) files)) (left url files)
      (λ lt. as_other files (set_file (with_approved new row) files) Same url (other_approved new (λ is. later a.0.fetched fetched lt (ap (λ (h : HeldFile × Approval). h.0.fetched) (same_Some a (held_file a.0.octets fetched, a.1) (sym e ∙ is))))))
      (λ _. as_before files url)

  new_candidate_told : (held : HeldFile) (file : UsageFile) → ((c : HeldFile) → row.candidate ≡ Some c → bytes_eq held.octets c.octets ≡ false) → IsTold files (new_candidate held file files row)
  unfolding new_candidate
  new_candidate_told held file other =
      told_by files (older_than_approved file row.approved || older_than_candidate file row.candidate) (Err Older) (done New file.url (set_file (with_candidate (Some held) row) files))
      (λ _. tt)
      (λ _. as_other files (set_file (with_candidate (Some held) row) files) New file.url (other_candidate (Some held) (λ is. false≢true (sym (other held is) ∙ same_bytes held.octets held.octets refl))))

  beside_approved_told : (held : HeldFile) (file : UsageFile) → file.url ≡ url → ((c : HeldFile) → row.candidate ≡ Some c → bytes_eq held.octets c.octets ≡ false) → (o : Option (HeldFile × Approval)) → row.approved ≡ o → IsTold files (beside_approved held file files row o)
  unfolding beside_approved
  beside_approved_told held file own other None e = new_candidate_told held file other
  beside_approved_told held file own other (Some a) e =
      told_by files (bytes_eq held.octets a.0.octets) (approved_again held.fetched file.url files row a) (new_candidate held file files row)
      (λ _. subst (λ u. IsTold files (approved_again held.fetched u files row a)) (sym own) (approved_again_told held.fetched a e))
      (λ _. new_candidate_told held file other)

  beside_candidate_told : (held : HeldFile) (file : UsageFile) → file.url ≡ url → (o : Option HeldFile) → row.candidate ≡ o → IsTold files (beside_candidate held file files row o)
  unfolding beside_candidate
  beside_candidate_told held file own None e = beside_approved_told held file own (λ c is. absurd (none-some c (sym e ∙ is))) row.approved refl
  beside_candidate_told held file own (Some c) e =
      told_by files (bytes_eq held.octets c.octets) (candidate_again held.fetched file.url files row c) (beside_approved held file files row row.approved)
      (λ _. subst (λ u. IsTold files (candidate_again held.fetched u files row c)) (sym own) (candidate_again_told held.fetched c e))
      (λ new. beside_approved_told held file own (λ d is. subst (λ (h : HeldFile). bytes_eq held.octets h.octets ≡ false) (same_Some c d (sym e ∙ is)) new) row.approved refl)

  approve_told : (c : HeldFile) (a : Approval) → row.candidate ≡ Some c → IsTold files (approve url files row c a)
  unfolding approve approved_row url_of
  approve_told c a e =
      let new : CachedFile = record row { approved = Some (c, a); candidate = None } in
      told_by files (nat_lt most_policy_entries (entry_count (set_file new files))) (Err PolicyFull) (done Approved url (set_file new files))
      (λ _. tt)
      (λ _. as_other files (set_file new files) Approved url (sort_key_other new row files there (λ is. none-some c (sym (ap (λ (r : CachedFile). r.candidate) is) ∙ e))))

  rejected_other : (c : HeldFile) → row.candidate ≡ Some c → (o : Option (HeldFile × Approval)) → settled url (with_candidate None row) o None files ≡ files → ⊥
  rejected_other c e None same = gone_other same
  rejected_other c e (Some a) same = other_candidate None (λ is. none-some c (sym is ∙ e)) same

  revoked_other : (a : HeldFile × Approval) → row.approved ≡ Some a → (o : Option HeldFile) → settled url (with_approved None row) None o files ≡ files → ⊥
  revoked_other a e None same = gone_other same
  revoked_other a e (Some c) same = other_approved None (λ is. none-some a (sym is ∙ e)) same

  ruled_told : (c : HeldFile) (v : OperatorVerdict) → row.candidate ≡ Some c → IsTold files (ruled url files row c v)
  unfolding ruled left_with with_candidate
  ruled_told c verdict.Verified e = told_by files (is_signed c) (approve url files row c approval.Verified) (Err NoSignature) (λ _. approve_told c approval.Verified e) (λ _. tt)
  ruled_told c verdict.Waived e = approve_told c approval.Waived e
  ruled_told c verdict.Failed e = as_other files (settled url (record row { candidate = None }) row.approved None files) Rejected url (rejected_other c e row.approved)

  candidate_cases_told : (digest : List ℕ) (v : OperatorVerdict) (o : Option HeldFile) → row.candidate ≡ o → IsTold files (candidate_cases url digest v files row o)
  unfolding candidate_cases
  candidate_cases_told digest v None e = tt
  candidate_cases_told digest v (Some c) e = told_by files (bytes_eq (digest_of c.octets) digest) (ruled url files row c v) (Err Digest) (λ _. ruled_told c v e) (λ _. tt)

  approved_cases_told : (o : Option (HeldFile × Approval)) → row.approved ≡ o → IsTold files (approved_cases url files row o)
  unfolding approved_cases left_with with_approved
  approved_cases_told None e = tt
  approved_cases_told (Some a) e = as_other files (settled url (record row { approved = None }) None row.candidate files) Revoked url (revoked_other a e row.candidate)

module _ (files : List CachedFile) (ascend : SortKeysAscend url_of files) where
  import_cases_told : (held : HeldFile) (file : UsageFile) (o : Option CachedFile) → file_at file.url files ≡ o → IsTold files (import_cases held file files o)
  unfolding import_cases file_at url_of new_file
  import_cases_told held file None found =
      let new : CachedFile = record { url = file.url; approved = None; candidate = Some held } in
      told_by files (nat_le most_files (length files)) (Err CacheFull) (done New file.url (set_file new files))
      (λ _. tt) (λ _. as_other files (set_file new files) New file.url (put_other new files (λ is. none-some new (sym found ∙ is))))
  import_cases_told held file (Some row) found = beside_candidate_told files ascend file.url row found held file refl row.candidate refl

  import_read_told : (held : HeldFile) (r : Result UsageFile Broken) → IsTold files (import_read held files r)
  import_read_told held (Err broken) = tt
  import_read_told held (Ok file) = import_cases_told held file (file_at file.url files) refl

  pub told-import_step : (octets : List ℕ) (fetched : ℕ) → IsTold files (import_step octets fetched files)
  unfolding import_step
  told-import_step octets fetched = import_read_told (held_file octets fetched) (file_of octets)

  verdict_cases_told : (url digest : List ℕ) (v : OperatorVerdict) (o : Option CachedFile) → file_at url files ≡ o → IsTold files (verdict_cases url digest v files o)
  unfolding verdict_cases
  verdict_cases_told url digest v None found = tt
  verdict_cases_told url digest v (Some row) found =
      told_by files (is_ruled digest v row.approved) (left url files) (candidate_cases url digest v files row row.candidate)
      (λ _. as_before files url) (λ _. candidate_cases_told files ascend url row found digest v row.candidate refl)

  pub told-verdict_step : (url digest : List ℕ) (v : OperatorVerdict) → IsTold files (verdict_step url digest v files)
  unfolding verdict_step
  told-verdict_step url digest v = verdict_cases_told url digest v (file_at url files) refl

  revoke_cases_told : (url : List ℕ) (o : Option CachedFile) → file_at url files ≡ o → IsTold files (revoke_cases url files o)
  revoke_cases_told url None found = tt
  revoke_cases_told url (Some row) found = approved_cases_told files ascend url row found row.approved refl

  pub told-revoke_step : (url : List ℕ) → IsTold files (revoke_step url files)
  unfolding revoke_step
  told-revoke_step url = revoke_cases_told url (file_at url files) refl
