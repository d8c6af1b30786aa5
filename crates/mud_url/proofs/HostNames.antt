-- Host names and ports: their octets, and lower case.
use Rattle.std.proofs.Common.{◌≡◌, ℕ, zero, suc, ◌-◌, Bool, true, false, cond, eqb, leb, ◌&&◌, ⊎_elim, List, [], ◌∷◌, length, map, slice_index, None, refl, sym, ap, ap₂, ◌∙◌}
use Rattle.std.specs.List.{list_all, slice_split, onto_first}
use Rattle.std.specs.Str.{all_ascii_digits}
use Rattle.std.specs.Option.{option_map_or}
use Rattle.std.specs.Char.{to_ascii_lowercase, is_ascii_digit}
use Rattle.std.proofs.lemmas.Bool.{cond_both, and_parts, and_from, or_left, or_right, or_cases, eqb-true, false≢true, cases_Bool}
use Rattle.std.proofs.lemmas.List.{nil_from_length}
use Rattle.std.proofs.lemmas.List.Folds.{list_all-map}
use Rattle.std.proofs.lemmas.Str.Ascii.{lowercase-lowercase}
use Rattle.mud_base.specs.Decimal.{number_upto, digits_upto}
use Rattle.mud_url.specs.Host.{lowered, is_label_octet, is_label, is_dot, is_host}
use Rattle.mud_url.specs.Url.{is_port}
use Rattle.mud_url.proofs.Bounds.{length-lowered}
use Rattle.mud_url.proofs.Octets.{at_lowercase, list_all-lowered, is_host_octet}
use Rattle.mud_base.proofs.Parts.{has_numeral_front}

pub lowered-lowered : (text : List ℕ) → lowered (lowered text) ≡ lowered text
unfolding lowered
lowered-lowered [] = refl
lowered-lowered (c ∷ text) = ap₂ (λ d t. d ∷ t) (lowercase-lowercase c) (lowered-lowered text)

slice_index-lowered : (text : List ℕ) (k : ℕ) → slice_index (lowered text) k ≡ to_ascii_lowercase (slice_index text k)
unfolding lowered
slice_index-lowered [] k = refl
slice_index-lowered (c ∷ text) zero = refl
slice_index-lowered (c ∷ text) (suc k) = slice_index-lowered text k

label_octet_lowered : (c : ℕ) → is_label_octet (to_ascii_lowercase c) ≡ is_label_octet c
unfolding is_label_octet
label_octet_lowered = at_lowercase is_label_octet refl

hyphen_at_lowered : (text : List ℕ) (k : ℕ) → eqb (slice_index (lowered text) k) 45 ≡ eqb (slice_index text k) 45
hyphen_at_lowered text k = ap (λ c. eqb c 45) (slice_index-lowered text k) ∙ at_lowercase (λ c. eqb c 45) refl (slice_index text k)

is_label-lowered : (text : List ℕ) → is_label (lowered text) ≡ is_label text
unfolding is_label
is_label-lowered text =
    rw (length-lowered text, hyphen_at_lowered text 0, hyphen_at_lowered text (length text - 1), list_all-lowered is_label_octet label_octet_lowered text)

map-onto_first : (c : ℕ) (parts : List (List ℕ)) → map lowered (onto_first c parts) ≡ onto_first (to_ascii_lowercase c) (map lowered parts)
unfolding lowered
map-onto_first c [] = refl
map-onto_first c (part ∷ parts) = refl

slice_split-lowered : (text : List ℕ) → slice_split is_dot (lowered text) ≡ map lowered (slice_split is_dot text)
unfolding lowered
slice_split-lowered [] = refl
slice_split-lowered (c ∷ text) = by (slice_split-lowered text) (is_dot c) refl
  where
    by : slice_split is_dot (lowered text) ≡ map lowered (slice_split is_dot text) → (t : Bool) → is_dot c ≡ t → slice_split is_dot (lowered (c ∷ text)) ≡ map lowered (slice_split is_dot (c ∷ text))
    by later true e = rw (at_lowercase is_dot refl c, e, later)
    by later false e = rw (at_lowercase is_dot refl c, e, later) (sym (map-onto_first c (slice_split is_dot text)))

list_all-same : (p q : List ℕ → Bool) → ((x : List ℕ) → p x ≡ q x) → (xs : List (List ℕ)) → list_all p xs ≡ list_all q xs
list_all-same p q same [] = refl
list_all-same p q same (x ∷ xs) = ap₂ (λ s t. s && t) (same x) (list_all-same p q same xs)

pub is_host-lowered : (text : List ℕ) → is_host (lowered text) ≡ is_host text
unfolding is_host
is_host-lowered text =
    ap₂ (λ n t. leb n 253 && t) (length-lowered text)
    (ap (list_all is_label) (slice_split-lowered text) ∙ list_all-map is_label lowered (slice_split is_dot text) ∙ list_all-same (λ x. is_label (lowered x)) is_label is_label-lowered (slice_split is_dot text))

label_octet_stands : (c : ℕ) → is_label_octet c ≡ true → is_host_octet c ≡ true
unfolding is_host_octet
label_octet_stands c e = or_left _ _ e

dot_stands : (c : ℕ) → is_dot c ≡ true → is_host_octet c ≡ true
unfolding is_host_octet
dot_stands c e = or_right (is_label_octet c) _ e

label_has_label_octets : (part : List ℕ) → is_label part ≡ true → list_all is_label_octet part ≡ true
unfolding is_label
label_has_label_octets part e = (and_parts _ (list_all is_label_octet part) e).1

labels_have_label_octets : (parts : List (List ℕ)) → list_all is_label parts ≡ true → list_all (λ part. list_all is_label_octet part) parts ≡ true
labels_have_label_octets [] all = refl
labels_have_label_octets (part ∷ parts) all =
    let both = and_parts (is_label part) (list_all is_label parts) all in
    and_from _ _ (label_has_label_octets part both.0) (labels_have_label_octets parts both.1)

-- the first octet of the first part, and what is left
first_part : (c : ℕ) (parts : List (List ℕ)) → list_all (λ part. list_all is_label_octet part) (onto_first c parts) ≡ true → (is_label_octet c ≡ true) × (list_all (λ part. list_all is_label_octet part) parts ≡ true)
first_part c [] all = ((and_parts (is_label_octet c) true (and_parts (is_label_octet c && true) true all).0).0, refl)
first_part c (part ∷ parts) all =
    let both = and_parts (is_label_octet c && list_all is_label_octet part) (list_all (λ x. list_all is_label_octet x) parts) all in
    let front = and_parts (is_label_octet c) (list_all is_label_octet part) both.0 in
    (front.0, and_from _ _ front.1 both.1)

parts_stand : (text : List ℕ) → list_all (λ part. list_all is_label_octet part) (slice_split is_dot text) ≡ true → list_all is_host_octet text ≡ true
parts_stand [] all = refl
parts_stand (c ∷ text) all = by (parts_stand text) (is_dot c) refl all
  where
    Each : List (List ℕ) → Type 0
    Each parts = list_all (λ part. list_all is_label_octet part) parts ≡ true

    by : (Each (slice_split is_dot text) → list_all is_host_octet text ≡ true) → (t : Bool) → is_dot c ≡ t → Each (cond t ([] ∷ slice_split is_dot text) (onto_first c (slice_split is_dot text))) → list_all is_host_octet (c ∷ text) ≡ true
    by later true e h = and_from _ _ (dot_stands c e) (later h)
    by later false e h = let both = first_part c (slice_split is_dot text) h in and_from _ _ (label_octet_stands c both.0) (later both.1)

pub host_stands : (text : List ℕ) → is_host text ≡ true → list_all is_host_octet text ≡ true
unfolding is_host
host_stands text e = parts_stand text (labels_have_label_octets _ (and_parts _ (list_all is_label (slice_split is_dot text)) e).1)

digit_stands : (c : ℕ) → is_ascii_digit c ≡ true → is_host_octet c ≡ true
unfolding is_host_octet is_label_octet
digit_stands c e = or_left _ _ (or_left _ _ (or_left _ _ (or_left _ _ (or_left _ _ e))))

digits_stand : (text : List ℕ) → all_ascii_digits text ≡ true → list_all is_host_octet text ≡ true
digits_stand [] all = refl
digits_stand (c ∷ text) all =
    let both = and_parts (is_ascii_digit c) (all_ascii_digits text) all in
    and_from _ _ (digit_stands c both.0) (digits_stand text both.1)

number_has_digits : (most : ℕ) (text : List ℕ) → all_ascii_digits text ≡ false → number_upto most text ≡ None
unfolding number_upto digits_upto
number_has_digits most text e = rw e (cond_both (has_numeral_front text) None None (λ o. o ≡ None) (λ _. refl) (λ _. refl))

pub port_stands : (text : List ℕ) → is_port text ≡ true → list_all is_host_octet text ≡ true
unfolding is_port
port_stands text e =
    ⊎_elim
    (λ empty. rw (nil_from_length text (eqb-true (length text) 0 empty)))
    (λ number. ⊎_elim (λ digits. digits_stand text digits)
    (λ other. absurd (false≢true (sym (ap (λ o. option_map_or (λ n. leb 1 n) o false) (number_has_digits 65535 text other)) ∙ number))) (cases_Bool (all_ascii_digits text)))
    (or_cases _ _ e)
