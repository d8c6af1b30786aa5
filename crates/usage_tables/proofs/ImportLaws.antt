-- The import of octets that are held already changes no more than when they were fetched.
use Rattle.std.proofs.Common.{◌≡◌, ℕ, Bool, true, false, cond, ◌||◌, List, Option, Some, None, Ok, refl, sym, ap, subst, ◌∙◌}
use Rattle.std.specs.Prelude.{bytes_eq, nat_lt, IsOkAnd}
use Rattle.std.specs.Option.{option_map, option_map_or}
use Rattle.std.proofs.lemmas.Bool.{false≢true}
use Rattle.item_codec.specs.declared.word.Word.TheVariants.{Same}
use Rattle.mud_file.specs.declared.usage_file.UsageFile.{UsageFile}
use Rattle.mud_file.specs.File.{file_of}
use Rattle.base_rows.specs.Sortable.{same_sort_key, row_at}
use Rattle.base_rows.proofs.SortableLaws.{row_at-set_row, same_sort_key_itself}
use Rattle.usage_tables.specs.declared.approval.Approval.{Approval}
use Rattle.usage_tables.specs.declared.cached_file.CachedFile.{CachedFile}
use Rattle.usage_tables.specs.Held.{HeldFile, held_file}
use Rattle.usage_tables.specs.Files.{url_of, file_at, set_file, with_candidate, with_approved}
use Rattle.usage_tables.specs.FileEdits.{fetched_at, approved_at}
use Rattle.usage_tables.specs.FileCommands.{FileStep, done, left, candidate_again, approved_again, new_candidate, beside_approved, beside_candidate, import_cases, import_step}
use Rattle.usage_tables.specs.Imports.{has_octets, has_approved_octets, holds_octets, but_moments, IsSameAgain}
use Rattle.usage_tables.proofs.SoundFiles.{url_found}

abbrev IsAgain : List ℕ → List CachedFile → FileStep → Type 0
IsAgain url files step = IsOkAnd step (IsSameAgain url files)

again_by : (url : List ℕ) (files : List CachedFile) (b : Bool) (x y : FileStep) → IsAgain url files x → IsAgain url files y → IsAgain url files (cond b x y)
again_by url files true x y f g = f
again_by url files false x y f g = g

module _ (url : List ℕ) (files : List CachedFile) (row : CachedFile) (found : file_at url files ≡ Some row) where
  left_again : IsAgain url files (left url files)
  left_again = record { word = refl; own = refl; others = λ other e. refl }

  -- a row that differs in its moments alone is put in its place
  put_again : (new : CachedFile) → new.url ≡ row.url → but_moments new ≡ but_moments row → IsAgain url files (done Same url (set_file new files))
  unfolding file_at set_file url_of
  put_again new same alike =
      let own : new.url ≡ url = same ∙ url_found files url row found in
      record {
        word = refl;
        own =
            ap (option_map but_moments) (row_at-set_row url_of new files url ∙ ap (λ b. cond b (Some new) (row_at url_of url files)) (ap (λ u. same_sort_key u url) own ∙ same_sort_key_itself url))
            ∙ ap Some alike ∙ sym (ap (option_map but_moments) found);
        others = λ other e. row_at-set_row url_of new files other ∙ ap (λ b. cond b (Some new) (row_at url_of other files)) (ap (λ u. same_sort_key u other) own ∙ e);
      }

  candidate_same : (fetched : ℕ) (c : HeldFile) → row.candidate ≡ Some c → IsAgain url files (candidate_again fetched url files row c)
  unfolding candidate_again with_candidate but_moments fetched_at
  candidate_same fetched c e =
      let new : CachedFile = record row { candidate = Some (held_file c.octets fetched) } in
      again_by url files (nat_lt c.fetched fetched) (done Same url (set_file new files)) (left url files)
      (put_again new refl (ap (λ (o : Option HeldFile). record row { approved = option_map (approved_at 0) row.approved; candidate = option_map (fetched_at 0) o }) (sym e)))
      left_again

  approved_same : (fetched : ℕ) (a : HeldFile × Approval) → row.approved ≡ Some a → IsAgain url files (approved_again fetched url files row a)
  unfolding approved_again with_approved but_moments fetched_at approved_at
  approved_same fetched a e =
      let new : CachedFile = record row { approved = Some (held_file a.0.octets fetched, a.1) } in
      again_by url files (nat_lt a.0.fetched fetched) (done Same url (set_file new files)) (left url files)
      (put_again new refl (ap (λ (o : Option (HeldFile × Approval)). record row { approved = option_map (approved_at 0) o; candidate = option_map (fetched_at 0) row.candidate }) (sym e)))
      left_again

  module _ (held : HeldFile) (file : UsageFile) (own : file.url ≡ url) where
    beside_approved_same : (o : Option (HeldFile × Approval)) → row.approved ≡ o → option_map_or (has_approved_octets held.octets) o false ≡ true → IsAgain url files (beside_approved held file files row o)
    unfolding beside_approved
    beside_approved_same None e has = absurd (false≢true has)
    beside_approved_same (Some a) e has =
        subst (λ b. IsAgain url files (cond b (approved_again held.fetched file.url files row a) (new_candidate held file files row))) (sym has)
        (subst (λ u. IsAgain url files (approved_again held.fetched u files row a)) (sym own) (approved_same held.fetched a e))

    beside_candidate_same : (o : Option HeldFile) → row.candidate ≡ o → (option_map_or (has_octets held.octets) o false || option_map_or (has_approved_octets held.octets) row.approved false) ≡ true → IsAgain url files (beside_candidate held file files row o)
    unfolding beside_candidate
    beside_candidate_same None e has = beside_approved_same row.approved refl has
    beside_candidate_same (Some c) e has = by_octets (bytes_eq held.octets c.octets) has
      where
        by_octets : (b : Bool) → (b || option_map_or (has_approved_octets held.octets) row.approved false) ≡ true → IsAgain url files (cond b (candidate_again held.fetched file.url files row c) (beside_approved held file files row row.approved))
        by_octets true h = subst (λ u. IsAgain url files (candidate_again held.fetched u files row c)) (sym own) (candidate_same held.fetched c e)
        by_octets false h = beside_approved_same row.approved refl h

pub import_again : (files : List CachedFile) (octets : List ℕ) (fetched : ℕ) (file : UsageFile) (row : CachedFile) → file_of octets ≡ Ok file → file_at file.url files ≡ Some row → holds_octets octets row ≡ true → IsAgain file.url files (import_step octets fetched files)
unfolding import_step import_cases holds_octets
import_again files octets fetched file row read found has =
    rw (read, found) (beside_candidate_same file.url files row found (held_file octets fetched) file refl row.candidate refl has)
