-- When parts of an item are files that may be kept.
use Rattle.std.proofs.Common.{◌≡◌, ℕ, ◌≤◌, Bool, true, false, ◌&&◌, cond, eqb, List, [], ◌∷◌, ◌++◌, Option, Some, None, Result, Ok, Err, refl, sym, ap, subst, ◌∙◌}
use Rattle.std.specs.Prelude.{bytes_eq, nat_le, IsErr, IfOk, OnErr}
use Rattle.std.specs.Option.{option_map_or}
use Rattle.std.specs.Result.{result_ok}
use Rattle.std.proofs.lemmas.Bool.{le-leb, leb-true, eqb-true, false≢true, false_from_ne_true}
use Rattle.base_rows.specs.Sortable.{comes_last}
use Rattle.base_rows.proofs.ListTests.{left_of}
use Rattle.usage_walk.specs.declared.fault.Broken.{Broken}
use Rattle.mud_file.specs.declared.usage_file.UsageFile.{UsageFile}
use Rattle.mud_file.specs.File.{file_of}
use Rattle.mud_world.specs.declared.item.Item.{Item}
use Rattle.item_codec.specs.Records.{◌>>=◌}
use Rattle.usage_tables.specs.declared.approval.Approval.{Approval}
use Rattle.usage_tables.specs.declared.cached_file.CachedFile.{CachedFile}
use Rattle.usage_tables.specs.Held.{HeldFile, usage_in}
use Rattle.usage_tables.specs.Limits.{last_moment}
use Rattle.usage_tables.specs.Files.{url_of, is_held, may_have, is_approved, may_follow, is_sound_file, IsKeptFile, IsSoundFiles}
use Rattle.usage_tables.specs.FileItems.{file_row, row_of, if_sound_file, file_in, has_room, may_stand_behind, with_file_item}
use Rattle.item_codec.proofs.RecordLaws.{some_is, bind_some, pass_some}
use Rattle.usage_tables.proofs.SoundFiles.{file_usage}
use Rattle.usage_tables.proofs.ReadFiles.{sound-push}
use Rattle.std.proofs.Math.Bool.{and-false}
use Rattle.mud_url.proofs.Offsets.{same_octets}
use Rattle.usage_tables.proofs.Parts.{is_of_url, is_usage_of}

module _ (url : List ℕ) (held : HeldFile) where
  pub late : (held.fetched ≤ last_moment → ⊥) → is_held url held ≡ false
  unfolding is_held
  late after = ap (λ b. is_usage_of url held && b) (false_from_ne_true (nat_le held.fetched last_moment) (λ e. after (leb-true held.fetched last_moment e))) ∙ and-false (is_usage_of url held)

  no_usage : (r : Result UsageFile Broken) → IsErr r → result_ok r ≡ None
  no_usage (Ok file) bad = absurd (false≢true bad)
  no_usage (Err broken) bad = refl

  pub unread : IsErr (file_of held.octets) → is_held url held ≡ false
  unfolding is_held usage_in
  unread bad = ap (λ (o : Option UsageFile). option_map_or (is_of_url url) o false && nat_le held.fetched last_moment) (no_usage (file_of held.octets) bad)

  pub other_url : (file : UsageFile) → file_of held.octets ≡ Ok file → bytes_eq file.url url ≡ false → is_held url held ≡ false
  unfolding is_held
  other_url file read other = ap (λ (o : Option UsageFile). option_map_or (is_of_url url) o false && nat_le held.fetched last_moment) (file_usage held.octets file read) ∙ ap (λ b. b && nat_le held.fetched last_moment) other

  pub held_so : (file : UsageFile) → file_of held.octets ≡ Ok file → bytes_eq file.url url ≡ true → held.fetched ≤ last_moment → is_held url held ≡ true
  unfolding is_held
  held_so file read same early =
      ap (λ (o : Option UsageFile). option_map_or (is_of_url url) o false && nat_le held.fetched last_moment) (file_usage held.octets file read)
      ∙ ap (λ b. b && nat_le held.fetched last_moment) same ∙ le-leb held.fetched last_moment early

  pub own_url : (file : UsageFile) → is_held url held ≡ true → usage_in held.octets ≡ Some file → file.url ≡ url
  unfolding is_held
  own_url file e read =
      same_octets file.url url (sym (ap (λ (o : Option UsageFile). option_map_or (is_of_url url) o false) read) ∙ left_of (option_map_or (is_of_url url) (usage_in held.octets) false) (nat_le held.fetched last_moment) e)

  pub approved_held : (a : Approval) → is_approved url (held, a) ≡ true → is_held url held ≡ true
  unfolding is_approved
  approved_held a e = left_of (is_held url held) (may_have held a) e

  pub approved_unheld : (a : Approval) → is_held url held ≡ false → is_approved url (held, a) ≡ false
  unfolding is_approved
  approved_unheld a e = ap (λ b. b && may_have held a) e

  pub approved_by : (a : Approval) (b : Bool) → is_held url held ≡ true → may_have held a ≡ b → is_approved url (held, a) ≡ b
  unfolding is_approved
  approved_by a b e may = ap (λ c. c && may_have held a) e ∙ may

  -- ---- Rows

  pub candidate_none : is_held url held ≡ false → None ≡ if_sound_file (file_row url None (Some held))
  unfolding if_sound_file file_row is_sound_file
  candidate_none e = sym (ap (λ b. cond b (Some (file_row url None (Some held))) None) e)

  pub candidate_some : is_held url held ≡ true → Some (file_row url None (Some held)) ≡ if_sound_file (file_row url None (Some held))
  unfolding if_sound_file file_row is_sound_file
  candidate_some e = sym (ap (λ b. cond b (Some (file_row url None (Some held))) None) e)

  pub approved_none : (a : Approval) → is_approved url (held, a) ≡ false → None ≡ if_sound_file (file_row url (Some (held, a)) None)
  unfolding if_sound_file file_row is_sound_file
  approved_none a e = sym (ap (λ b. cond b (Some (file_row url (Some (held, a)) None)) None) e)

  pub approved_some : (a : Approval) → is_approved url (held, a) ≡ true → Some (file_row url (Some (held, a)) None) ≡ if_sound_file (file_row url (Some (held, a)) None)
  unfolding if_sound_file file_row is_sound_file
  approved_some a e = sym (ap (λ b. cond b (Some (file_row url (Some (held, a)) None)) None) e)

  module _ (a : Approval) (c : HeldFile) where
    abbrev whole : CachedFile
    whole = file_row url (Some (held, a)) (Some c)

    by_tests : (p q r : Bool) → is_approved url (held, a) ≡ p → is_held url c ≡ q → may_follow c held ≡ r → if_sound_file whole ≡ cond (p && (q && r)) (Some whole) None
    unfolding if_sound_file file_row is_sound_file
    by_tests p q r e f g = ap (λ b. cond b (Some whole) None) (ap (λ b. b && (is_held url c && may_follow c held)) e ∙ ap (λ b. p && (b && may_follow c held)) f ∙ ap (λ b. p && (q && b)) g)

    pub both_unapproved : is_approved url (held, a) ≡ false → None ≡ if_sound_file (file_row url (Some (held, a)) (Some c))
    both_unapproved e = sym (by_tests false (is_held url c) (may_follow c held) e refl refl)

    pub both_unheld : is_approved url (held, a) ≡ true → is_held url c ≡ false → None ≡ if_sound_file (file_row url (Some (held, a)) (Some c))
    both_unheld e f = sym (by_tests true false (may_follow c held) e f refl)

    pub both_apart : is_approved url (held, a) ≡ true → is_held url c ≡ true → may_follow c held ≡ false → None ≡ if_sound_file (file_row url (Some (held, a)) (Some c))
    both_apart e f g = sym (by_tests true true false e f g)

    pub both_some : is_approved url (held, a) ≡ true → is_held url c ≡ true → may_follow c held ≡ true → Some (file_row url (Some (held, a)) (Some c)) ≡ if_sound_file (file_row url (Some (held, a)) (Some c))
    both_some e f g = sym (by_tests true true true e f g)

pub no_files : (url : List ℕ) → None ≡ if_sound_file (file_row url None None)
unfolding if_sound_file file_row is_sound_file
no_files url = refl

-- ---- Items

module _ (item : Item) where
  pub other_kind : (item.kind ≡ 2 → ⊥) → None ≡ file_in item
  unfolding file_in
  other_kind other = sym (ap (λ b. cond b (row_of item.key item.body >>= if_sound_file) None) (false_from_ne_true (eqb item.kind 2) (λ e. other (eqb-true item.kind 2 e))))

  pub formless : item.kind ≡ 2 → row_of item.key item.body ≡ None → None ≡ file_in item
  unfolding file_in
  formless kind none = rw (kind, none) refl

  pub read_row : (row : CachedFile) → item.kind ≡ 2 → row_of item.key item.body ≡ Some row → if_sound_file row ≡ file_in item
  unfolding file_in
  read_row row kind some = rw (kind, some) refl

-- ---- Behind others

module _ (files : List CachedFile) (row : CachedFile) where
  pub behind_full : has_room files row ≡ false → false ≡ may_stand_behind files row
  unfolding may_stand_behind
  behind_full full = sym (ap (λ b. comes_last url_of row files && b) full ∙ and-false (comes_last url_of row files))

  and_true : (b : Bool) → b ≡ (b && true)
  and_true true = refl
  and_true false = refl

  pub behind_room : (taken : Bool) → has_room files row ≡ true → taken ≡ comes_last url_of row files → taken ≡ may_stand_behind files row
  unfolding may_stand_behind
  behind_room taken room last = last ∙ and_true (comes_last url_of row files) ∙ ap (λ b. comes_last url_of row files && b) (sym room)

-- ---- What is taken

pub kept_from : (item : Item) (row : CachedFile) → file_in item ≡ Some row → IsKeptFile row
unfolding file_in if_sound_file
kept_from item row e =
    let kind = pass_some (eqb item.kind 2) row (row_of item.key item.body >>= if_sound_file) e in
    let r = bind_some (row_of item.key item.body) if_sound_file row kind.1 in
    let s = pass_some (is_sound_file r.0) row (Some r.0) r.2 in
    subst IsKeptFile (some_is r.0 row s.1) s.0

module _ (files now : List CachedFile) (item : Item) where
  pub untaken : file_in item ≡ None → with_file_item files item ≡ None
  unfolding with_file_item
  untaken e = rw e refl

  module _ (row : CachedFile) (read : file_in item ≡ Some row) where
    taken_by : (taken : Bool) → taken ≡ may_stand_behind files row → now ≡ cond taken (files ++ row ∷ []) files → with_file_item files item ≡ cond taken (Some now) None
    unfolding with_file_item
    taken_by true may is = ap (λ (o : Option CachedFile). o >>= λ r. cond (may_stand_behind files r) (Some (files ++ r ∷ [])) None) read ∙ ap (λ b. cond b (Some (files ++ row ∷ [])) None) (sym may) ∙ ap Some (sym is)
    taken_by false may is = ap (λ (o : Option CachedFile). o >>= λ r. cond (may_stand_behind files r) (Some (files ++ r ∷ [])) None) read ∙ ap (λ b. cond b (Some (files ++ row ∷ [])) None) (sym may)

    pub taken_as : {E : Type 0} (r : Result Bool E) → IfOk r (λ taken. taken ≡ may_stand_behind files row) → IfOk r (λ taken. now ≡ cond taken (files ++ row ∷ []) files) → IfOk r (λ taken. with_file_item files item ≡ cond taken (Some now) None)
    taken_as (Ok taken) may is = taken_by taken may is
    taken_as (Err fault) may is = tt

    sound_by : IsSoundFiles files → (taken : Bool) → taken ≡ may_stand_behind files row → now ≡ cond taken (files ++ row ∷ []) files → IsSoundFiles now
    sound_by sound true may is = subst IsSoundFiles (sym is) (sound-push files row sound (kept_from item row read) (sym may))
    sound_by sound false may is = subst IsSoundFiles (sym is) sound

    pub sound_pushed : {E : Type 0} (r : Result Bool E) → IsSoundFiles files → IfOk r (λ taken. taken ≡ may_stand_behind files row) → IfOk r (λ taken. now ≡ cond taken (files ++ row ∷ []) files) → OnErr r (now ≡ files) → IsSoundFiles now
    sound_pushed (Ok taken) sound may is same = sound_by sound taken may is
    sound_pushed (Err fault) sound may is same = subst IsSoundFiles (sym same) sound
