-- Every step on files keeps them sound.
use Rattle.std.proofs.Common.{◌≡◌, ℕ, ◌+◌, ◌≤◌, ◌<◌, Bool, true, false, cond, not, ◌&&◌, ◌||◌, List, [], ◌∷◌, length, Option, Some, None, Result, Ok, Err, refl, sym, ap, subst, ◌∙◌, arith}
use Rattle.std.specs.Prelude.{bytes_eq, nat_le, nat_lt, is_some}
use Rattle.std.specs.List.{AllByRecursion}
use Rattle.std.specs.Option.{option_map_or}
use Rattle.std.specs.Result.{result_ok}
use Rattle.std.proofs.lemmas.Bool.{leb-false, le-leb, ltb-false}
use Rattle.std.proofs.lemmas.Option.{none-some, same_Some}
use Rattle.item_codec.specs.declared.word.Word.TheVariants.{New, Same, Approved}
use Rattle.usage_walk.specs.declared.fault.Broken.{Broken}
use Rattle.mud_file.specs.declared.usage_file.UsageFile.{UsageFile}
use Rattle.mud_file.specs.File.{file_of}
use Rattle.base_rows.specs.Sortable.{row_at, set_row}
use Rattle.base_rows.proofs.SortableLaws.{ascend-set_row, ascend-without_row}
use Rattle.base_rows.proofs.RowLaws.{all-set_row, all-without_row, length-set_row, length-without_row, sort_key_row_at}
use Rattle.base_rows.proofs.IndexLaws.{set_row_length}
use Rattle.base_rows.proofs.ListTests.{same_bytes, left_of, right_of, both, or_first}
use Rattle.usage_tables.specs.declared.approval.Approval.{Approval}
use Rattle.usage_tables.specs.declared.approval.Approval.TheVariants as approval
use Rattle.usage_tables.specs.declared.approval.OperatorVerdict.{OperatorVerdict}
use Rattle.usage_tables.specs.declared.approval.OperatorVerdict.TheVariants as verdict
use Rattle.usage_tables.specs.declared.cached_file.CachedFile.{CachedFile}
use Rattle.usage_tables.specs.declared.cache_fault.CacheFault.TheVariants.{Older, CacheFull, Digest, NoSignature, PolicyFull}
use Rattle.usage_tables.specs.Held.{HeldFile, held_file, usage_in, digest_of}
use Rattle.usage_tables.specs.Limits.{most_files, most_policy_entries, last_moment}
use Rattle.usage_tables.specs.Files.{url_of, file_at, set_file, without_file, new_file, with_candidate, with_approved, is_signed, is_older, entries_of, approved_entries, entry_count, is_held, may_have, is_approved, may_follow, is_sound_file, IsKeptFile, IsSoundFiles}
use Rattle.usage_tables.specs.FileCommands.{FileStep, done, left, candidate_again, approved_again, older_than_approved, older_than_candidate, new_candidate, beside_approved, beside_candidate, import_cases, import_step, left_with, approved_row, approve, ruled, candidate_cases, is_ruled, verdict_cases, verdict_step, approved_cases, revoke_step}
use Rattle.usage_tables.proofs.Counts.{entries_found, entry_count-set_row, entry_count-without_row}
use Rattle.usage_tables.proofs.Parts.{is_of_url, is_outdated, are_files, import_read, settled, revoke_cases}

-- ---- What holds of the files behind a step

-- a refusal changes nothing, and else this holds
abbrev pub OfAfter : (List CachedFile → Type 0) → FileStep → Type 0
OfAfter P (Ok after) = P after.files
OfAfter P (Err fault) = Unit {0}

pub cond_after : (P : List CachedFile → Type 0) (b : Bool) (x y : FileStep) → (b ≡ true → OfAfter P x) → (b ≡ false → OfAfter P y) → OfAfter P (cond b x y)
cond_after P true x y f g = f refl
cond_after P false x y f g = g refl

-- the row of a URL has the sort key of the URL
pub at_its_sort_key : (files : List CachedFile) (url : List ℕ) (row : CachedFile) → file_at url files ≡ Some row → row_at url_of (url_of row) files ≡ Some row
unfolding file_at
at_its_sort_key files url row found = subst (λ p. row_at url_of p files ≡ Some row) (sym (sort_key_row_at url_of url files row found)) found

pub url_found : (files : List CachedFile) (url : List ℕ) (row : CachedFile) → file_at url files ≡ Some row → row.url ≡ url
unfolding file_at url_of
url_found files url row found = sort_key_row_at url_of url files row found

-- what holds of each row holds of the one at a sort key
pub row_kept : (files : List CachedFile) (p : List ℕ) (row : CachedFile) → AllByRecursion IsKeptFile files → row_at url_of p files ≡ Some row → IsKeptFile row
row_kept [] p row all found = absurd (none-some row found)
row_kept (x ∷ xs) p row all found = by_first _ found (row_kept xs p row all.1)
  where
    by_first : (b : Bool) → cond b (Some x) (row_at url_of p xs) ≡ Some row → (row_at url_of p xs ≡ Some row → IsKeptFile row) → IsKeptFile row
    by_first true e rest = subst IsKeptFile (same_Some x row e) all.0
    by_first false e rest = rest e

-- ---- The files of one URL

pub file_usage : (octets : List ℕ) (file : UsageFile) → file_of octets ≡ Ok file → usage_in octets ≡ Some file
unfolding usage_in
file_usage octets file read = ap result_ok read

-- a file that was read is held of its own URL
read_held : (octets : List ℕ) (fetched : ℕ) (file : UsageFile) → file_of octets ≡ Ok file → fetched ≤ last_moment → is_held file.url (held_file octets fetched) ≡ true
unfolding is_held
read_held octets fetched file read early =
    both (option_map_or (is_of_url file.url) (usage_in octets) false) (nat_le fetched last_moment)
    (ap (λ (o : Option UsageFile). option_map_or (is_of_url file.url) o false) (file_usage octets file read) ∙ same_bytes file.url file.url refl)
    (le-leb fetched last_moment early)

-- the same octets, fetched at another moment
held_again : (url : List ℕ) (held : HeldFile) (fetched : ℕ) → is_held url held ≡ true → fetched ≤ last_moment → is_held url (held_file held.octets fetched) ≡ true
unfolding is_held
held_again url held fetched e early = both (option_map_or (is_of_url url) (usage_in held.octets) false) (nat_le fetched last_moment) (left_of (option_map_or (is_of_url url) (usage_in held.octets) false) (nat_le held.fetched last_moment) e) (le-leb fetched last_moment early)

have_again : (held : HeldFile) (fetched : ℕ) (a : Approval) → may_have held a ≡ true → may_have (held_file held.octets fetched) a ≡ true
unfolding may_have is_signed
have_again held fetched approval.Verified e = e
have_again held fetched approval.Waived e = e

-- the candidate, and the approved file, of sound files of a URL
candidate_held : (url : List ℕ) (a : Option (HeldFile × Approval)) (c : HeldFile) → are_files url a (Some c) ≡ true → is_held url c ≡ true
candidate_held url None c e = e
candidate_held url (Some a) c e = left_of (is_held url c) (may_follow c a.0) (right_of (is_approved url a) (is_held url c && may_follow c a.0) e)

approved_held : (url : List ℕ) (a : HeldFile × Approval) (c : Option HeldFile) → are_files url (Some a) c ≡ true → is_approved url a ≡ true
approved_held url a None e = e
approved_held url a (Some c) e = left_of (is_approved url a) (is_held url c && may_follow c a.0) e

follows : (url : List ℕ) (a : HeldFile × Approval) (c : HeldFile) → are_files url (Some a) (Some c) ≡ true → may_follow c a.0 ≡ true
follows url a c e = right_of (is_held url c) (may_follow c a.0) (right_of (is_approved url a) (is_held url c && may_follow c a.0) e)

candidate_fetched : (url : List ℕ) (a : Option (HeldFile × Approval)) (c : HeldFile) (fetched : ℕ) → are_files url a (Some c) ≡ true → fetched ≤ last_moment → are_files url a (Some (held_file c.octets fetched)) ≡ true
unfolding may_follow
candidate_fetched url None c fetched e early = held_again url c fetched e early
candidate_fetched url (Some a) c fetched e early =
    both (is_approved url a) (is_held url (held_file c.octets fetched) && may_follow (held_file c.octets fetched) a.0)
    (approved_held url a (Some c) e)
    (both (is_held url (held_file c.octets fetched)) (may_follow (held_file c.octets fetched) a.0) (held_again url c fetched (candidate_held url (Some a) c e) early) (follows url a c e))

fetched_anew : (url : List ℕ) (a : HeldFile × Approval) (fetched : ℕ) → is_approved url a ≡ true → fetched ≤ last_moment → is_approved url (held_file a.0.octets fetched, a.1) ≡ true
unfolding is_approved
fetched_anew url a fetched e early =
    both (is_held url (held_file a.0.octets fetched)) (may_have (held_file a.0.octets fetched) a.1)
    (held_again url a.0 fetched (left_of (is_held url a.0) (may_have a.0 a.1) e) early)
    (have_again a.0 fetched a.1 (right_of (is_held url a.0) (may_have a.0 a.1) e))

approved_fetched : (url : List ℕ) (a : HeldFile × Approval) (c : Option HeldFile) (fetched : ℕ) → are_files url (Some a) c ≡ true → fetched ≤ last_moment → are_files url (Some (held_file a.0.octets fetched, a.1)) c ≡ true
unfolding may_follow is_older
approved_fetched url a None fetched e early = fetched_anew url a fetched e early
approved_fetched url a (Some c) fetched e early =
    both (is_approved url (held_file a.0.octets fetched, a.1)) (is_held url c && may_follow c (held_file a.0.octets fetched))
    (fetched_anew url a fetched (left_of (is_approved url a) (is_held url c && may_follow c a.0) e) early)
    (right_of (is_approved url a) (is_held url c && may_follow c a.0) e)

-- other octets that are no older become the candidate
offered : (url : List ℕ) (a : Option (HeldFile × Approval)) (c : Option HeldFile) (held : HeldFile) (file : UsageFile) → are_files url a c ≡ true → is_held url held ≡ true → usage_in held.octets ≡ Some file → older_than_approved file a ≡ false → ((x : HeldFile × Approval) → a ≡ Some x → bytes_eq held.octets x.0.octets ≡ false) → are_files url a (Some held) ≡ true
unfolding may_follow
offered url None c held file e good read older other = good
offered url (Some a) c held file e good read older other =
    both (is_approved url a) (is_held url held && may_follow held a.0)
    (approved_held url a c e)
    (both (is_held url held) (may_follow held a.0) good
    (both (not (bytes_eq held.octets a.0.octets)) (not (is_outdated held a.0))
    (ap not (other a refl))
    (ap (λ (o : Option UsageFile). not (option_map_or (λ f. is_older f a.0) o false)) read ∙ ap not older)))

-- ---- Lists

module _ (files : List CachedFile) (sound : IsSoundFiles files) where
  kept_at : (url : List ℕ) (row : CachedFile) → file_at url files ≡ Some row → are_files row.url row.approved row.candidate ≡ true
  unfolding file_at is_sound_file
  kept_at url row found = row_kept files url row sound.each found

  -- a row is put in the place of one
  put_there : (row old : CachedFile) → row_at url_of (url_of row) files ≡ Some old → is_sound_file row ≡ true → entry_count (set_row url_of row files) ≤ most_policy_entries → IsSoundFiles (set_file row files)
  unfolding set_file
  put_there row old there good few =
      let long : length (set_row url_of row files) ≡ length files + 0 = set_row_length url_of row files sound.ascend ∙ ap (λ (o : Option CachedFile). length files + cond (is_some o) 0 1) there in
      record {
        ascend = ascend-set_row url_of row files sound.ascend;
        each = all-set_row url_of IsKeptFile row files good sound.each;
        few = omega (arith, long, sound.few);
        entries = few;
      }

  -- with no more entries than that one
  put_same : (row old : CachedFile) → row_at url_of (url_of row) files ≡ Some old → is_sound_file row ≡ true → approved_entries row.approved ≤ approved_entries old.approved → IsSoundFiles (set_file row files)
  put_same row old there good fewer =
      let count = entry_count-set_row row files sound.ascend in
      let was : entries_found (row_at url_of (url_of row) files) ≡ approved_entries old.approved = ap entries_found there in
      put_there row old there good (omega (arith, count, was, fewer, sound.entries))

  put_new : (url : List ℕ) (held : HeldFile) → file_at url files ≡ None → length files < most_files → is_held url held ≡ true → IsSoundFiles (set_file (new_file url held) files)
  unfolding set_file file_at url_of new_file is_sound_file approved_entries
  put_new url held found room good =
      let row : CachedFile = record { url = url; approved = None; candidate = Some held } in
      let count : entry_count (set_row url_of row files) + entries_found (row_at url_of url files) ≡ entry_count files + 0 = entry_count-set_row row files sound.ascend in
      let was : entries_found (row_at url_of url files) ≡ 0 = ap entries_found found in
      record {
        ascend = ascend-set_row url_of row files sound.ascend;
        each = all-set_row url_of IsKeptFile row files good sound.each;
        few = omega (arith, room, (length-set_row url_of row files).grown);
        entries = omega (arith, count, was, sound.entries);
      }

  removed : (url : List ℕ) → IsSoundFiles (without_file url files)
  unfolding without_file
  removed url =
      let count = entry_count-without_row url files sound.ascend in
      record {
        ascend = ascend-without_row url_of url files sound.ascend;
        each = all-without_row url_of IsKeptFile url files sound.each;
        few = omega (arith, sound.few, (length-without_row url_of url files).kept);
        entries = omega (arith, count, sound.entries);
      }

-- ---- Steps

fewer_none : (n : ℕ) → 0 ≤ n
fewer_none n = omega arith

module _ (files : List CachedFile) (sound : IsSoundFiles files) (url : List ℕ) (row : CachedFile) (found : file_at url files ≡ Some row) where
  there : row_at url_of (url_of row) files ≡ Some row
  there = at_its_sort_key files url row found

  good : are_files row.url row.approved row.candidate ≡ true
  good = kept_at files sound url row found

  with_this_candidate : (c : HeldFile) → row.candidate ≡ Some c → are_files row.url row.approved (Some c) ≡ true
  with_this_candidate c e = subst (λ o. are_files row.url row.approved o ≡ true) e good

  with_this_approved : (a : HeldFile × Approval) → row.approved ≡ Some a → are_files row.url (Some a) row.candidate ≡ true
  with_this_approved a e = subst (λ o. are_files row.url o row.candidate ≡ true) e good

  candidate_again_sound : (fetched : ℕ) → fetched ≤ last_moment → (c : HeldFile) → row.candidate ≡ Some c → OfAfter IsSoundFiles (candidate_again fetched url files row c)
  unfolding candidate_again with_candidate is_sound_file url_of
  candidate_again_sound fetched early c e =
      let new : CachedFile = record row { candidate = Some (held_file c.octets fetched) } in
      cond_after IsSoundFiles (nat_lt c.fetched fetched) (done Same url (set_file new files)) (left url files)
      (λ _. put_same files sound new row there (candidate_fetched row.url row.approved c fetched (with_this_candidate c e) early) (omega arith))
      (λ _. sound)

  approved_again_sound : (fetched : ℕ) → fetched ≤ last_moment → (a : HeldFile × Approval) → row.approved ≡ Some a → OfAfter IsSoundFiles (approved_again fetched url files row a)
  unfolding approved_again with_approved is_sound_file url_of approved_entries entries_of
  approved_again_sound fetched early a e =
      let new : CachedFile = record row { approved = Some (held_file a.0.octets fetched, a.1) } in
      let same : approved_entries row.approved ≡ approved_entries new.approved = ap approved_entries e in
      cond_after IsSoundFiles (nat_lt a.0.fetched fetched) (done Same url (set_file new files)) (left url files)
      (λ _. put_same files sound new row there (approved_fetched row.url a row.candidate fetched (with_this_approved a e) early) (omega (arith, same)))
      (λ _. sound)

  new_candidate_sound : (held : HeldFile) (file : UsageFile) → is_held row.url held ≡ true → usage_in held.octets ≡ Some file → ((x : HeldFile × Approval) → row.approved ≡ Some x → bytes_eq held.octets x.0.octets ≡ false) → OfAfter IsSoundFiles (new_candidate held file files row)
  unfolding new_candidate with_candidate is_sound_file url_of
  new_candidate_sound held file fits read other =
      let new : CachedFile = record row { candidate = Some held } in
      let older : Bool = older_than_approved file row.approved || older_than_candidate file row.candidate in
      cond_after IsSoundFiles older (Err Older) (done New file.url (set_file new files))
      (λ _. tt)
      (λ e. put_same files sound new row there (offered row.url row.approved row.candidate held file good fits read (or_first (older_than_approved file row.approved) (older_than_candidate file row.candidate) e) other) (omega arith))

  beside_approved_sound : (held : HeldFile) (file : UsageFile) → file.url ≡ url → held.fetched ≤ last_moment → is_held row.url held ≡ true → usage_in held.octets ≡ Some file → (o : Option (HeldFile × Approval)) → row.approved ≡ o → OfAfter IsSoundFiles (beside_approved held file files row o)
  unfolding beside_approved
  beside_approved_sound held file own early fits read None e = new_candidate_sound held file fits read (λ x is. absurd (none-some x (sym e ∙ is)))
  beside_approved_sound held file own early fits read (Some a) e =
      cond_after IsSoundFiles (bytes_eq held.octets a.0.octets) (approved_again held.fetched file.url files row a) (new_candidate held file files row)
      (λ _. subst (λ u. OfAfter IsSoundFiles (approved_again held.fetched u files row a)) (sym own) (approved_again_sound held.fetched early a e))
      (λ other. new_candidate_sound held file fits read (λ x is. subst (λ (y : HeldFile × Approval). bytes_eq held.octets y.0.octets ≡ false) (same_Some a x (sym e ∙ is)) other))

  beside_candidate_sound : (held : HeldFile) (file : UsageFile) → file.url ≡ url → held.fetched ≤ last_moment → is_held row.url held ≡ true → usage_in held.octets ≡ Some file → (o : Option HeldFile) → row.candidate ≡ o → OfAfter IsSoundFiles (beside_candidate held file files row o)
  unfolding beside_candidate
  beside_candidate_sound held file own early fits read None e = beside_approved_sound held file own early fits read row.approved refl
  beside_candidate_sound held file own early fits read (Some c) e =
      cond_after IsSoundFiles (bytes_eq held.octets c.octets) (candidate_again held.fetched file.url files row c) (beside_approved held file files row row.approved)
      (λ _. subst (λ u. OfAfter IsSoundFiles (candidate_again held.fetched u files row c)) (sym own) (candidate_again_sound held.fetched early c e))
      (λ _. beside_approved_sound held file own early fits read row.approved refl)

  approve_sound : (c : HeldFile) (a : Approval) → row.candidate ≡ Some c → may_have c a ≡ true → OfAfter IsSoundFiles (approve url files row c a)
  unfolding approve approved_row is_sound_file url_of is_approved set_file
  approve_sound c a e may =
      let new : CachedFile = record row { approved = Some (c, a); candidate = None } in
      cond_after IsSoundFiles (nat_lt most_policy_entries (entry_count (set_row url_of new files))) (Err PolicyFull) (done Approved url (set_row url_of new files))
      (λ _. tt)
      (λ few. put_there files sound new row there (both (is_held row.url c) (may_have c a) (candidate_held row.url row.approved c (with_this_candidate c e)) may) (ltb-false most_policy_entries (entry_count (set_row url_of new files)) few))

  -- without its candidate
  rejected_sound : (o : Option (HeldFile × Approval)) → row.approved ≡ o → IsSoundFiles (settled url (with_candidate None row) o None files)
  unfolding with_candidate is_sound_file url_of
  rejected_sound None e = removed files sound url
  rejected_sound (Some a) e =
      let new : CachedFile = record row { candidate = None } in
      let whole : are_files row.url row.approved None ≡ true = subst (λ o. are_files row.url o None ≡ true) (sym e) (approved_held row.url a row.candidate (with_this_approved a e)) in
      put_same files sound new row there whole (omega arith)

  -- without its approved file
  revoked_sound : (o : Option HeldFile) → row.candidate ≡ o → IsSoundFiles (settled url (with_approved None row) None o files)
  unfolding with_approved is_sound_file url_of approved_entries
  revoked_sound None e = removed files sound url
  revoked_sound (Some c) e =
      let new : CachedFile = record row { approved = None } in
      let whole : are_files row.url None row.candidate ≡ true = subst (λ o. are_files row.url None o ≡ true) (sym e) (candidate_held row.url row.approved c (with_this_candidate c e)) in
      put_same files sound new row there whole (fewer_none (approved_entries row.approved))

  ruled_sound : (c : HeldFile) (v : OperatorVerdict) → row.candidate ≡ Some c → OfAfter IsSoundFiles (ruled url files row c v)
  unfolding ruled left_with with_candidate may_have
  ruled_sound c verdict.Verified e = cond_after IsSoundFiles (is_signed c) (approve url files row c approval.Verified) (Err NoSignature) (λ signed. approve_sound c approval.Verified e signed) (λ _. tt)
  ruled_sound c verdict.Waived e = approve_sound c approval.Waived e refl
  ruled_sound c verdict.Failed e = rejected_sound row.approved refl

  candidate_cases_sound : (digest : List ℕ) (v : OperatorVerdict) (o : Option HeldFile) → row.candidate ≡ o → OfAfter IsSoundFiles (candidate_cases url digest v files row o)
  unfolding candidate_cases
  candidate_cases_sound digest v None e = tt
  candidate_cases_sound digest v (Some c) e = cond_after IsSoundFiles (bytes_eq (digest_of c.octets) digest) (ruled url files row c v) (Err Digest) (λ _. ruled_sound c v e) (λ _. tt)

  approved_cases_sound : (o : Option (HeldFile × Approval)) → OfAfter IsSoundFiles (approved_cases url files row o)
  unfolding approved_cases left_with with_approved
  approved_cases_sound None = tt
  approved_cases_sound (Some a) = revoked_sound row.candidate refl

module _ (files : List CachedFile) (sound : IsSoundFiles files) where
  import_cases_sound : (held : HeldFile) (file : UsageFile) → held.fetched ≤ last_moment → is_held file.url held ≡ true → usage_in held.octets ≡ Some file → (o : Option CachedFile) → file_at file.url files ≡ o → OfAfter IsSoundFiles (import_cases held file files o)
  unfolding import_cases
  import_cases_sound held file early fits read None found =
      cond_after IsSoundFiles (nat_le most_files (length files)) (Err CacheFull) (done New file.url (set_file (new_file file.url held) files))
      (λ _. tt) (λ room. put_new files sound file.url held found (leb-false most_files (length files) room) fits)
  import_cases_sound held file early fits read (Some row) found =
      beside_candidate_sound files sound file.url row found held file refl early (subst (λ u. is_held u held ≡ true) (sym (url_found files file.url row found)) fits) read row.candidate refl

  import_read_sound : (octets : List ℕ) (fetched : ℕ) → fetched ≤ last_moment → (r : Result UsageFile Broken) → file_of octets ≡ r → OfAfter IsSoundFiles (import_read (held_file octets fetched) files r)
  import_read_sound octets fetched early (Err broken) e = tt
  import_read_sound octets fetched early (Ok file) e = import_cases_sound (held_file octets fetched) file early (read_held octets fetched file e early) (file_usage octets file e) (file_at file.url files) refl

  pub sound-import_step : (octets : List ℕ) (fetched : ℕ) → fetched ≤ last_moment → OfAfter IsSoundFiles (import_step octets fetched files)
  unfolding import_step
  sound-import_step octets fetched early = import_read_sound octets fetched early (file_of octets) refl

  verdict_cases_sound : (url digest : List ℕ) (v : OperatorVerdict) (o : Option CachedFile) → file_at url files ≡ o → OfAfter IsSoundFiles (verdict_cases url digest v files o)
  unfolding verdict_cases
  verdict_cases_sound url digest v None found = tt
  verdict_cases_sound url digest v (Some row) found =
      cond_after IsSoundFiles (is_ruled digest v row.approved) (left url files) (candidate_cases url digest v files row row.candidate)
      (λ _. sound) (λ _. candidate_cases_sound files sound url row found digest v row.candidate refl)

  pub sound-verdict_step : (url digest : List ℕ) (v : OperatorVerdict) → OfAfter IsSoundFiles (verdict_step url digest v files)
  unfolding verdict_step
  sound-verdict_step url digest v = verdict_cases_sound url digest v (file_at url files) refl

  revoke_cases_sound : (url : List ℕ) (o : Option CachedFile) → file_at url files ≡ o → OfAfter IsSoundFiles (revoke_cases url files o)
  revoke_cases_sound url None found = tt
  revoke_cases_sound url (Some row) found = approved_cases_sound files sound url row found row.approved

  pub sound-revoke_step : (url : List ℕ) → OfAfter IsSoundFiles (revoke_step url files)
  unfolding revoke_step
  sound-revoke_step url = revoke_cases_sound url (file_at url files) refl
