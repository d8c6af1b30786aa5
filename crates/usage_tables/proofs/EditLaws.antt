-- What edits make of files and of their items.
use Rattle.std.proofs.Common.{◌≡◌, ℕ, Bool, true, false, cond, List, [], ◌∷◌, map, Option, Some, None, refl, sym, ap, ◌∙◌}
use Rattle.std.specs.Option.{option_map}
use Rattle.std.proofs.lemmas.Bool.{false≢true}
use Rattle.std.proofs.lemmas.Option.{none-some, same_Some}
use Rattle.std.proofs.lemmas.List.Elements.{All-from_recursion}
use Rattle.base_rows.specs.Sortable.{same_sort_key, row_at, set_row, without_row, SortKeysAscend}
use Rattle.base_rows.specs.Changes.{RowChange, changed}
use Rattle.base_rows.proofs.SortableLaws.{ascend-set_row, ascend-without_row, row_at-set_row, row_at-set_row_same, row_at-without_row}
use Rattle.base_rows.proofs.RowLaws.{same_rows, set_row_there, without_row_absent, sort_key_row_at}
use Rattle.mud_world.specs.declared.item.Item.{Item}
use Rattle.mud_world.specs.declared.item.Put.{Put}
use Rattle.mud_world.specs.Items.{sort_key_of, put_one, IsDifference, AreItemsOf, set_put, gone_put, puts_of, kind_of_put, ArePutsOf}
use Rattle.mud_world.proofs.ItemLaws.{same_put, puts_kept, row_at-items, ordered-items}
use Rattle.usage_tables.specs.declared.approval.Approval.{Approval}
use Rattle.usage_tables.specs.declared.cached_file.CachedFile.{CachedFile}
use Rattle.usage_tables.specs.declared.file_edit.FileEdit.{FileEdit}
use Rattle.usage_tables.specs.declared.file_edit.FileEdit.TheVariants.{Unchanged, Offered, CandidateFetched, ApprovedFetched, Approved, Rejected, Revoked}
use Rattle.usage_tables.specs.Held.{HeldFile}
use Rattle.usage_tables.specs.Files.{url_of, file_at, set_file, without_file, new_file, with_candidate, with_approved, IsKeptFile, IsSoundFiles}
use Rattle.usage_tables.specs.FileEdits.{if_any, kept_row, made_row, changed_row, edited_row, put_file, edited, room_for, is_change}
use Rattle.usage_tables.specs.FileItems.{file_item, file_items, row_put, edit_puts}
use Rattle.usage_tables.proofs.SoundFiles.{row_kept}
use Rattle.usage_tables.proofs.ItemLaws.{file_exact}

-- ---- The row that comes has the URL

if_any_same : (row : CachedFile) (a : Option (HeldFile × Approval)) (c : Option HeldFile) (new : CachedFile) → if_any row a c ≡ Some new → row ≡ new
unfolding if_any
if_any_same row None None new e = absurd (none-some new e)
if_any_same row (Some a) c new e = same_Some row new e
if_any_same row None (Some c) new e = same_Some row new e

kept_same : (row new : CachedFile) → kept_row row ≡ Some new → row.url ≡ new.url
unfolding kept_row
kept_same row new e = ap (λ (r : CachedFile). r.url) (if_any_same row row.approved row.candidate new e)

changed_url : (edit : FileEdit) (row new : CachedFile) → changed_row edit row ≡ Some new → row.url ≡ new.url
unfolding changed_row with_candidate with_approved
changed_url Unchanged row new e = ap (λ (r : CachedFile). r.url) (same_Some row new e)
changed_url (Offered held) row new e = ap (λ (r : CachedFile). r.url) (same_Some _ new e)
changed_url (CandidateFetched m) row new e = ap (λ (r : CachedFile). r.url) (same_Some _ new e)
changed_url (ApprovedFetched m) row new e = ap (λ (r : CachedFile). r.url) (same_Some _ new e)
changed_url (Approved approval) row new e = kept_same _ new e
changed_url Rejected row new e = kept_same _ new e
changed_url Revoked row new e = kept_same _ new e

made_url : (edit : FileEdit) (url : List ℕ) (new : CachedFile) → made_row edit url ≡ Some new → url ≡ new.url
unfolding made_row new_file
made_url (Offered held) url new e = ap (λ (r : CachedFile). r.url) (same_Some _ new e)
made_url Unchanged url new e = absurd (none-some new e)
made_url (CandidateFetched m) url new e = absurd (none-some new e)
made_url (ApprovedFetched m) url new e = absurd (none-some new e)
made_url (Approved approval) url new e = absurd (none-some new e)
made_url Rejected url new e = absurd (none-some new e)
made_url Revoked url new e = absurd (none-some new e)

pub edited_url : (edit : FileEdit) (url : List ℕ) (files : List CachedFile) (o : Option CachedFile) (new : CachedFile) → row_at url_of url files ≡ o → edited_row edit url o ≡ Some new → url_of new ≡ url
unfolding edited_row url_of
edited_url edit url files None new found e = sym (made_url edit url new e)
edited_url edit url files (Some row) new found e = sym (changed_url edit row new e) ∙ sort_key_row_at url_of url files row found

-- only a file that is offered makes a row
pub made_needs_room : (edit : FileEdit) (url : List ℕ) (new : CachedFile) → made_row edit url ≡ Some new → room_for edit ≡ 1
unfolding made_row room_for
made_needs_room (Offered held) url new e = refl
made_needs_room Unchanged url new e = absurd (none-some new e)
made_needs_room (CandidateFetched m) url new e = absurd (none-some new e)
made_needs_room (ApprovedFetched m) url new e = absurd (none-some new e)
made_needs_room (Approved approval) url new e = absurd (none-some new e)
made_needs_room Rejected url new e = absurd (none-some new e)
made_needs_room Revoked url new e = absurd (none-some new e)

-- ---- The row is taken out and put back

same_either : (b : Bool) (x y : Option CachedFile) → cond b x (cond b None y) ≡ cond b x y
same_either true x y = refl
same_either false x y = refl

pub put_back : (row : CachedFile) (p : List ℕ) (files : List CachedFile) → SortKeysAscend url_of files → url_of row ≡ p → set_row url_of row (without_row url_of p files) ≡ set_row url_of row files
put_back row p files ascend own =
    same_rows url_of (set_row url_of row (without_row url_of p files)) (set_row url_of row files)
    (ascend-set_row url_of row (without_row url_of p files) (ascend-without_row url_of p files ascend))
    (ascend-set_row url_of row files ascend)
    (λ q. row_at-set_row url_of row (without_row url_of p files) q
    ∙ ap (cond (same_sort_key (url_of row) q) (Some row)) (row_at-without_row url_of p files q ascend ∙ ap (λ r. cond (same_sort_key r q) None (row_at url_of q files)) (sym own))
    ∙ same_either (same_sort_key (url_of row) q) (Some row) (row_at url_of q files)
    ∙ sym (row_at-set_row url_of row files q))

-- ---- Nothing changes

unchanged_by : (url : List ℕ) (files : List CachedFile) (o : Option CachedFile) → SortKeysAscend url_of files → row_at url_of url files ≡ o → put_file url o files ≡ files
unfolding put_file without_file set_file
unchanged_by url files None ascend found = without_row_absent url_of url files ascend found
unchanged_by url files (Some row) ascend found = set_row_there url_of row files ascend (ap (λ p. row_at url_of p files) (sort_key_row_at url_of url files row found) ∙ found)

unchanged_row : (url : List ℕ) (o : Option CachedFile) → edited_row Unchanged url o ≡ o
unfolding edited_row made_row changed_row
unchanged_row url None = refl
unchanged_row url (Some row) = refl

pub unchanged : (edit : FileEdit) (url : List ℕ) (files : List CachedFile) → SortKeysAscend url_of files → is_change edit ≡ false → edited edit url files ≡ files
unfolding is_change edited file_at
unchanged Unchanged url files ascend e = ap (λ o. put_file url o files) (unchanged_row url (row_at url_of url files)) ∙ unchanged_by url files (row_at url_of url files) ascend refl
unchanged (Offered held) url files ascend e = absurd (false≢true (sym e))
unchanged (CandidateFetched m) url files ascend e = absurd (false≢true (sym e))
unchanged (ApprovedFetched m) url files ascend e = absurd (false≢true (sym e))
unchanged (Approved approval) url files ascend e = absurd (false≢true (sym e))
unchanged Rejected url files ascend e = absurd (false≢true (sym e))
unchanged Revoked url files ascend e = absurd (false≢true (sym e))

-- ---- The items

pub are_file_items : AreItemsOf url_of 2 file_item
unfolding file_item url_of
are_file_items row = refl

mapped_none : (o : Option CachedFile) → option_map file_item o ≡ None → o ≡ None
mapped_none None e = refl
mapped_none (Some row) e = absurd (none-some (file_item row) (sym e))

record Mapped (o : Option CachedFile) (item : Item) : Type 0 where
  row : CachedFile
  is : o ≡ Some row
  same : file_item row ≡ item

mapped_some : (o : Option CachedFile) (item : Item) → option_map file_item o ≡ Some item → Mapped o item
mapped_some None item e = absurd (none-some item e)
mapped_some (Some row) item e = record { row = row; is = refl; same = same_Some (file_item row) item e }

one_put : (before after : List Item) (put : Put) → put_one before put ≡ after → (put_one before put ≡ before → ⊥) → IsDifference before after (put ∷ [])
one_put before after put reaches needed = record { reaches = reaches; needed = All-from_recursion (λ p. ¬ (put_one before p ≡ before)) (put ∷ []) (needed, tt); apart = refl }

no_put : (before after : List Item) → before ≡ after → IsDifference before after []
no_put before after same = record { reaches = same; needed = All-from_recursion (λ p. ¬ (put_one before p ≡ before)) [] tt; apart = refl }

module _ (files : List CachedFile) (sound : IsSoundFiles files) where
  -- the row of a URL goes
  gone_differs : (url : List ℕ) → (without_row url_of url files ≡ files → ⊥) → IsDifference (map file_item files) (map file_item (without_row url_of url files)) (gone_put 2 url ∷ [])
  unfolding gone_put puts_of changed
  gone_differs url other =
      let change : RowChange CachedFile = record { gone = Some url; sets = [] } in
      one_put (map file_item files) (map file_item (without_row url_of url files)) (gone_put 2 url) (puts_kept url_of 2 file_item are_file_items change files)
      (λ same. other (without_row_absent url_of url files sound.ascend (mapped_none (row_at url_of url files)
      (sym (row_at-items url_of 2 file_item are_file_items url files) ∙ same_put (map file_item files) (gone_put 2 url) (ordered-items url_of 2 file_item are_file_items files sound.ascend) same))))

  -- a row is put in
  put_differs : (row : CachedFile) → IsKeptFile row → (set_row url_of row files ≡ files → ⊥) → IsDifference (map file_item files) (map file_item (set_row url_of row files)) (set_put file_item row ∷ [])
  unfolding set_put puts_of changed
  put_differs row kept other =
      let change : RowChange CachedFile = record { gone = None; sets = row ∷ [] } in
      one_put (map file_item files) (map file_item (set_row url_of row files)) (set_put file_item row) (puts_kept url_of 2 file_item are_file_items change files)
      (λ same.
      let there : row_at sort_key_of (2 ∷ url_of row) (map file_item files) ≡ Some (file_item row) =
      ap (λ p. row_at sort_key_of p (map file_item files)) (sym (are_file_items row)) ∙ same_put (map file_item files) (set_put file_item row) (ordered-items url_of 2 file_item are_file_items files sound.ascend) same in
      let m : Mapped (row_at url_of (url_of row) files) (file_item row) =
      mapped_some (row_at url_of (url_of row) files) (file_item row) (sym (row_at-items url_of 2 file_item are_file_items (url_of row) files) ∙ there) in
      other (set_row_there url_of row files sound.ascend (m.is ∙ ap Some (file_exact m.row row (row_kept files (url_of row) m.row sound.each m.is) kept m.same))))

  row_differs : (url : List ℕ) (o : Option CachedFile) → IsSoundFiles (put_file url o files) → (put_file url o files ≡ files → ⊥) → IsDifference (file_items files) (file_items (put_file url o files)) (row_put url o ∷ [])
  unfolding put_file row_put file_items set_file without_file
  row_differs url None after other = gone_differs url other
  row_differs url (Some row) after other = put_differs row (row_kept (set_row url_of row files) (url_of row) row after.each (row_at-set_row_same url_of row files)) other

  pub edit_differs : (edit : FileEdit) (url : List ℕ) → IsSoundFiles (edited edit url files) → (is_change edit ≡ true → edited edit url files ≡ files → ⊥) → IsDifference (file_items files) (file_items (edited edit url files)) (edit_puts edit url files)
  unfolding edit_puts edited
  edit_differs edit url after other = by_change (is_change edit) refl
    where
      new : List CachedFile
      new = put_file url (edited_row edit url (file_at url files)) files

      by_change : (b : Bool) → is_change edit ≡ b → IsDifference (file_items files) (file_items new) (cond b (row_put url (edited_row edit url (file_at url files)) ∷ []) [])
      by_change true e = row_differs url (edited_row edit url (file_at url files)) after (other e)
      by_change false e = no_put (file_items files) (file_items new) (ap file_items (sym (unchanged edit url files sound.ascend e)))

-- ---- Their kind

put_of_kind : (url : List ℕ) (o : Option CachedFile) → kind_of_put (row_put url o) ≡ 2
unfolding row_put gone_put set_put file_item
put_of_kind url None = refl
put_of_kind url (Some row) = refl

pub puts_of_kind : (files : List CachedFile) (edit : FileEdit) (url : List ℕ) → ArePutsOf 2 (edit_puts edit url files)
unfolding edit_puts
puts_of_kind files edit url = by_change (is_change edit)
  where
    by_change : (b : Bool) → ArePutsOf 2 (cond b (row_put url (edited_row edit url (file_at url files)) ∷ []) [])
    by_change true = (put_of_kind url (edited_row edit url (file_at url files)), tt)
    by_change false = tt
