-- What is kept in an item is read back from it, and nothing else reads.
use Rattle.std.proofs.Common.{◌≡◌, ℕ, ◌^◌, ◌<◌, ◌≤◌, Bool, true, false, cond, eqb, ◌&&◌, List, [], ◌++◌, length, Option, Some, None, Result, Ok, Err, refl, sym, ap, subst, ◌∙◌, append_assoc, arith, inl, inr, lit<}
use Rattle.std.specs.Prelude.{nat_le, nat_lt}
use Rattle.std.specs.Option.{option_map_or}
use Rattle.std.specs.Result.{result_ok}
use Rattle.std.proofs.lemmas.Bool.{false≢true, eqb-true, leb-true, ltb-false}
use Rattle.std.proofs.lemmas.List.{append-nil}
use Rattle.mud_world.specs.declared.item.Item.{Item}
use Rattle.mud_world.proofs.ItemLaws.{same_item}
use Rattle.mud_base.specs.Numbers.{IsOctets}
use Rattle.item_codec.specs.Spelling.{number, string, version}
use Rattle.item_codec.specs.Reading as codec
use Rattle.item_codec.specs.Records.{◌>>=◌, number_in, string_in, version_in, end_in, optional, optional_in, IsForm, OptionFits}
use Rattle.item_codec.proofs.FieldLaws.{then_read, read_whole}
use Rattle.item_codec.proofs.RecordLaws.{some_is, bind_some, pass_some, chosen, number_form, string_form, version_back, version_alone, end_alone, end_back, optional_form, pair_form}
use Rattle.mud_file.specs.declared.usage_file.UsageFile.{UsageFile}
use Rattle.mud_file.specs.File.{file_of}
use Rattle.usage_walk.specs.declared.fault.Broken.{Broken}
use Rattle.usage_tables.specs.declared.approval.Approval.{Approval}
use Rattle.usage_tables.specs.declared.approval.Approval.TheVariants.{Verified, Waived}
use Rattle.usage_tables.specs.declared.cached_file.CachedFile.{CachedFile}
use Rattle.usage_tables.specs.Held.{HeldFile, held_file, usage_in}
use Rattle.usage_tables.specs.Limits.{last_moment}
use Rattle.usage_tables.specs.Files.{is_held, may_have, is_approved, may_follow, is_sound_file, IsKeptFile}
use Rattle.usage_tables.specs.FileItems.{approval_number, held_fields, approved_fields, file_item, held_in, approval_in, approved_in, file_row, row_of, if_sound_file, file_in, IsFileItem}
use Rattle.base_rows.proofs.ListTests.{left_of, right_of}
use Rattle.usage_tables.proofs.Parts.{is_of_url, approval_field, is_usage_of, are_files, approval_of, file_body}
use Rattle.mud_file.proofs.Parts.{most_octets}

-- ---- Fields

abbrev octet_form : IsForm (number 1) (λ n. n < 256 ^ 1) (number_in 1)
octet_form = number_form 1 refl

abbrev eight_form : IsForm (number 8) (λ n. n < 256 ^ 8) (number_in 8)
eight_form = number_form 8 refl

abbrev FitsHeld : HeldFile → Type 0
FitsHeld held = (held.fetched < 256 ^ 8) × (length held.octets < 2 ^ 32)

held_form : IsForm held_fields FitsHeld held_in
unfolding held_fields held_in
held_form =
    pair_form (number 8) (λ n. n < 256 ^ 8) (number_in 8) string (λ s. length s < 2 ^ 32) string_in
    (λ (n : ℕ) (s : List ℕ). held_file s n) (λ (h : HeldFile). h.fetched) (λ (h : HeldFile). h.octets) (λ _. refl) (λ _ _. refl) (λ _ _. refl) eight_form string_form

abbrev AnyApproval : Approval → Type 0
AnyApproval a = Unit {0}

approval_back : (a : Approval) (rest : List ℕ) → AnyApproval a → approval_in (approval_field a ++ rest) ≡ Some (a, rest)
unfolding approval_in approval_number
approval_back Verified rest fits = rw (octet_form.back 1 rest (lit< tt)) refl
approval_back Waived rest fits = rw (octet_form.back 2 rest (lit< tt)) refl

number_alone : (n : ℕ) (a : Approval) → approval_of n ≡ Some a → n ≡ approval_number a
unfolding approval_number
number_alone n a e =
    elim (chosen (eqb n 1) (Some Verified) (cond (eqb n 2) (Some Waived) None) (Some a) e) [
      | inl one ↦ subst (λ (b : Approval). n ≡ approval_number b) (some_is Verified a one.1) (eqb-true n 1 one.0)
      | inr other ↦
          let two = pass_some (eqb n 2) a (Some Waived) other.1 in
          subst (λ (b : Approval). n ≡ approval_number b) (some_is Waived a two.1) (eqb-true n 2 two.0)
    ]

approval_alone : (octets : List ℕ) (a : Approval) (rest : List ℕ) → IsOctets octets → approval_in octets ≡ Some (a, rest) → codec.IsRead octets (approval_field a) rest × AnyApproval a
unfolding approval_in
approval_alone octets a rest fits e =
    let flag = bind_some (number_in 1 octets) (λ flag. approval_of flag.0 >>= λ approval. Some (approval, flag.1)) (a, rest) e in
    let given = bind_some (approval_of flag.0.0) (λ approval. Some (approval, flag.0.1)) (a, rest) flag.2 in
    let n = octet_form.alone octets flag.0.0 flag.0.1 fits flag.1 in
    let same : (given.0, flag.0.1) ≡ (a, rest) = some_is (given.0, flag.0.1) (a, rest) given.2 in
    let octet : flag.0.0 ≡ approval_number a = number_alone flag.0.0 given.0 given.1 ∙ ap (λ (x : Approval × List ℕ). approval_number x.0) same in
    let behind : flag.0.1 ≡ rest = ap (λ (x : Approval × List ℕ). x.1) same in
    (subst (λ (k : ℕ). codec.IsRead octets (number 1 k) rest) octet (subst (λ (r : List ℕ). codec.IsRead octets (number 1 flag.0.0) r) behind n.0), tt)

approval_form : IsForm approval_field AnyApproval approval_in
approval_form = record { back = approval_back; alone = approval_alone }

abbrev FitsApproved : HeldFile × Approval → Type 0
FitsApproved a = FitsHeld a.0

approved_back : (a : HeldFile × Approval) (rest : List ℕ) → FitsApproved a → approved_in (approved_fields a ++ rest) ≡ Some (a, rest)
unfolding approved_in approved_fields
approved_back a rest fits =
    ap approved_in (append_assoc (number 8 a.0.fetched) (approval_field a.1 ++ string a.0.octets) rest ∙ ap (λ (t : List ℕ). number 8 a.0.fetched ++ t) (append_assoc (approval_field a.1) (string a.0.octets) rest))
    ∙ rw (eight_form.back a.0.fetched (approval_field a.1 ++ (string a.0.octets ++ rest)) fits.0, approval_form.back a.1 (string a.0.octets ++ rest) tt, string_form.back a.0.octets rest fits.1) refl

abbrev IsApprovedRead : List ℕ → (HeldFile × Approval) × List ℕ → Type 0
IsApprovedRead octets x = codec.IsRead octets (approved_fields x.0) x.1 × FitsApproved x.0

abbrev read_approved : ℕ → Approval → List ℕ → List ℕ → (HeldFile × Approval) × List ℕ
read_approved fetched approval text rest = ((held_file text fetched, approval), rest)

approved_alone : (octets : List ℕ) (x : (HeldFile × Approval) × List ℕ) → IsOctets octets → approved_in octets ≡ Some x → IsApprovedRead octets x
unfolding approved_in approved_fields
approved_alone octets x fits e =
    let f = bind_some (number_in 8 octets) (λ fetched. approval_in fetched.1 >>= λ approval. string_in approval.1 >>= λ text. Some (read_approved fetched.0 approval.0 text.0 text.1)) x e in
    let a = bind_some (approval_in f.0.1) (λ approval. string_in approval.1 >>= λ text. Some (read_approved f.0.0 approval.0 text.0 text.1)) x f.2 in
    let t = bind_some (string_in a.0.1) (λ text. Some (read_approved f.0.0 a.0.0 text.0 text.1)) x a.2 in
    let fetched = eight_form.alone octets f.0.0 f.0.1 fits f.1 in
    let approval = approval_form.alone f.0.1 a.0.0 a.0.1 fetched.0.left a.1 in
    let text = string_form.alone a.0.1 t.0.0 t.0.1 approval.0.left t.1 in
    let behind = then_read f.0.1 (approval_field a.0.0) a.0.1 (string t.0.0) t.0.1 approval.0 text.0 in
    let made : (HeldFile × Approval) × List ℕ = read_approved f.0.0 a.0.0 t.0.0 t.0.1 in
    let read : codec.IsRead octets (approved_fields made.0) made.1 = then_read octets (number 8 f.0.0) f.0.1 (approval_field a.0.0 ++ string t.0.0) t.0.1 fetched.0 behind in
    subst (λ (y : (HeldFile × Approval) × List ℕ). IsApprovedRead octets y) {x = made} (some_is made x t.2) (read, (fetched.1, text.1))

approved_form : IsForm approved_fields FitsApproved approved_in
approved_form = record { back = approved_back; alone = λ octets a rest fits e. approved_alone octets (a, rest) fits e }

abbrev approval_part : IsForm (optional approved_fields) (OptionFits FitsApproved) (optional_in approved_in)
approval_part = optional_form approved_fields FitsApproved approved_in approved_form

abbrev candidate_part : IsForm (optional held_fields) (OptionFits FitsHeld) (optional_in held_in)
candidate_part = optional_form held_fields FitsHeld held_in held_form

-- ---- What is held fits its fields

short_enough : (long : Bool) (fault : Broken) (answered : Result UsageFile Broken) (file : UsageFile) → cond long (Err fault) answered ≡ Ok file → long ≡ false
short_enough true fault answered file e = absurd cc
short_enough false fault answered file e = refl

-- a usage file has at most 262,144 octets
pub read_short : (octets : List ℕ) (file : UsageFile) → file_of octets ≡ Ok file → length octets ≤ most_octets
unfolding file_of
read_short octets file e = ltb-false most_octets (length octets) (short_enough (nat_lt most_octets (length octets)) _ _ file e)

ok_of : (r : Result UsageFile Broken) (file : UsageFile) → result_ok r ≡ Some file → r ≡ Ok file
ok_of (Ok f) file e = ap Ok (some_is f file e)
ok_of (Err broken) file e = absurd cc

-- there is a file behind a test of it
record Behind (test : UsageFile → Bool) (o : Option UsageFile) : Type 0 where
  file : UsageFile
  is : o ≡ Some file
  passes : test file ≡ true

behind : (test : UsageFile → Bool) (o : Option UsageFile) → option_map_or test o false ≡ true → Behind test o
behind test (Some file) e = record { file = file; is = refl; passes = e }
behind test None e = absurd (false≢true e)

pub usage_read : (octets : List ℕ) (file : UsageFile) → usage_in octets ≡ Some file → file_of octets ≡ Ok file
unfolding usage_in
usage_read octets file e = ok_of (file_of octets) file e

early_fits : (n : ℕ) → n ≤ last_moment → n < 256 ^ 8
early_fits n early = omega arith

short_fits : (n : ℕ) → n ≤ most_octets → n < 2 ^ 32
short_fits n short = omega arith

pub held_fits : (url : List ℕ) (held : HeldFile) → is_held url held ≡ true → FitsHeld held
unfolding is_held
held_fits url held e =
    let b : Behind (is_of_url url) (usage_in held.octets) = behind (is_of_url url) (usage_in held.octets) (left_of (option_map_or (is_of_url url) (usage_in held.octets) false) (nat_le held.fetched last_moment) e) in (
      early_fits held.fetched (leb-true held.fetched last_moment (right_of (option_map_or (is_of_url url) (usage_in held.octets) false) (nat_le held.fetched last_moment) e)),
      short_fits (length held.octets) (read_short held.octets b.file (usage_read held.octets b.file b.is)),
    )

pub held_short : (url : List ℕ) (held : HeldFile) → is_held url held ≡ true → length held.octets ≤ most_octets
unfolding is_held
held_short url held e =
    let b : Behind (is_of_url url) (usage_in held.octets) = behind (is_of_url url) (usage_in held.octets) (left_of (option_map_or (is_of_url url) (usage_in held.octets) false) (nat_le held.fetched last_moment) e) in
    read_short held.octets b.file (usage_read held.octets b.file b.is)

pub held_early : (url : List ℕ) (held : HeldFile) → is_held url held ≡ true → held.fetched ≤ last_moment
unfolding is_held
held_early url held e = leb-true held.fetched last_moment (right_of (is_usage_of url held) (nat_le held.fetched last_moment) e)

approved_fits : (url : List ℕ) (a : HeldFile × Approval) → is_approved url a ≡ true → FitsApproved a
unfolding is_approved
approved_fits url a e = held_fits url a.0 (left_of (is_held url a.0) (may_have a.0 a.1) e)

abbrev FitParts : Option (HeldFile × Approval) → Option HeldFile → Type 0
FitParts approved candidate = OptionFits FitsApproved approved × OptionFits FitsHeld candidate

files_fit : (url : List ℕ) (approved : Option (HeldFile × Approval)) (candidate : Option HeldFile) → are_files url approved candidate ≡ true → FitParts approved candidate
files_fit url None None e = absurd (false≢true e)
files_fit url None (Some c) e = (tt, held_fits url c e)
files_fit url (Some a) None e = (approved_fits url a e, tt)
files_fit url (Some a) (Some c) e = (approved_fits url a (left_of (is_approved url a) (is_held url c && may_follow c a.0) e), held_fits url c (left_of (is_held url c) (may_follow c a.0) (right_of (is_approved url a) (is_held url c && may_follow c a.0) e)))

-- ---- Items

last_part : (candidate : Option HeldFile) → OptionFits FitsHeld candidate → optional_in held_in (optional held_fields candidate) ≡ Some (candidate, [])
last_part candidate fits = ap (optional_in held_in) (sym (append-nil (optional held_fields candidate))) ∙ candidate_part.back candidate [] fits

row_of_back : (url : List ℕ) (approved : Option (HeldFile × Approval)) (candidate : Option HeldFile) → FitParts approved candidate → row_of url (file_body approved candidate) ≡ Some (file_row url approved candidate)
unfolding row_of
row_of_back url approved candidate fits =
    rw (version_back (optional approved_fields approved ++ optional held_fields candidate), approval_part.back approved (optional held_fields candidate) fits.0, last_part candidate fits.1, end_back) refl

-- the key and the body are those of the row
record IsRowRead (key body : List ℕ) (row : CachedFile) : Type 0 where
  key_is : key ≡ row.url
  body_is : body ≡ file_body row.approved row.candidate

row_of_alone : (key body : List ℕ) (row : CachedFile) → IsOctets body → row_of key body ≡ Some row → IsRowRead key body row
unfolding row_of file_row
row_of_alone key body row fits e =
    let v = bind_some (version_in body) (λ one. optional_in approved_in one.1 >>= λ approved. optional_in held_in approved.1 >>= λ candidate. end_in candidate.1 >>= λ ended. Some (file_row key approved.0 candidate.0)) row e in
    let a = bind_some (optional_in approved_in v.0.1) (λ approved. optional_in held_in approved.1 >>= λ candidate. end_in candidate.1 >>= λ ended. Some (file_row key approved.0 candidate.0)) row v.2 in
    let c = bind_some (optional_in held_in a.0.1) (λ candidate. end_in candidate.1 >>= λ ended. Some (file_row key a.0.0 candidate.0)) row a.2 in
    let z = bind_some (end_in c.0.1) (λ ended. Some (file_row key a.0.0 c.0.0)) row c.2 in
    let one = version_alone body v.0 fits v.1 in
    let approved = approval_part.alone v.0.1 a.0.0 a.0.1 one.left a.1 in
    let candidate = candidate_part.alone a.0.1 c.0.0 c.0.1 approved.0.left c.1 in
    let parts = then_read v.0.1 (optional approved_fields a.0.0) a.0.1 (optional held_fields c.0.0) c.0.1 approved.0 candidate.0 in
    let all = then_read body version v.0.1 (optional approved_fields a.0.0 ++ optional held_fields c.0.0) c.0.1 one parts in
    let whole : body ≡ version ++ (optional approved_fields a.0.0 ++ optional held_fields c.0.0) = read_whole body (version ++ (optional approved_fields a.0.0 ++ optional held_fields c.0.0)) c.0.1 all (end_alone c.0.1 z.0 z.1) in
    let made : CachedFile = file_row key a.0.0 c.0.0 in
    subst (λ (r : CachedFile). IsRowRead key body r) {x = made} (some_is made row z.2) (record { key_is = refl; body_is = whole })

pub file_back : (row : CachedFile) → IsKeptFile row → file_in (file_item row) ≡ Some row
unfolding file_in file_item file_row if_sound_file is_sound_file
file_back row kept = rw (row_of_back row.url row.approved row.candidate (files_fit row.url row.approved row.candidate kept), kept) refl

pub file_alone : (item : Item) (row : CachedFile) → IsOctets item.body → file_in item ≡ Some row → IsFileItem item row
unfolding file_in file_item if_sound_file
file_alone item row octets e =
    let kind = pass_some (eqb item.kind 2) row (row_of item.key item.body >>= if_sound_file) e in
    let r = bind_some (row_of item.key item.body) if_sound_file row kind.1 in
    let s = pass_some (is_sound_file r.0) row (Some r.0) r.2 in
    let read = row_of_alone item.key item.body r.0 octets r.1 in
    subst (λ (x : CachedFile). IsFileItem item x) (some_is r.0 row s.1)
    (record { same = same_item item 2 r.0.url (file_body r.0.approved r.0.candidate) (eqb-true item.kind 2 kind.0) read.key_is read.body_is; kept = s.0 })

-- sound rows with one item are one
pub file_exact : (x y : CachedFile) → IsKeptFile x → IsKeptFile y → file_item x ≡ file_item y → x ≡ y
file_exact x y kept_x kept_y e = some_is x y (sym (file_back x kept_x) ∙ ap file_in e ∙ file_back y kept_y)
