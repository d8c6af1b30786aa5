-- A field that was written is read back, and nothing else reads.
use Rattle.std.proofs.Common.{◌≡◌, ℕ, zero, suc, [], ◌+◌, ◌^◌, ◌<◌, ◌≤◌, Bool, true, false, ◌||◌, cond, ltb, eqb, List, ◌++◌, length, take, drop, Result, Ok, Err, refl, sym, ap, subst, ◌∙◌, append_assoc, arith, inl, inr, lit<, lit≤}
use Rattle.std.proofs.Math.Dec.{eqb-suc-zero}
use Rattle.std.proofs.lemmas.Bool.{cases_lt, ltb-false, le-ltb, eqb-false, or_parts}
use Rattle.std.proofs.lemmas.List.{take_at, drop_at, take-append-drop, append-nil, length-append, length-take, get_or-drop, get_or-take, get_or_past}
use Rattle.item_codec.specs.declared.fault.CodecFault.{CodecFault}
use Rattle.item_codec.specs.declared.fault.CodecFault.TheVariants.{Short, Version}
use Rattle.mud_base.specs.Numbers.{IsOctets}
use Rattle.item_codec.specs.Spelling.{IsWidth, number, string, list, version, version_of}
use Rattle.item_codec.specs.Reading.{◌>>=◌, number_of, octets_at, number_at, string_at, list_at, version_to, version_at, IsRead}
use Rattle.item_codec.proofs.Widths.{number_of-number, number-number_of, length-number}

pub IsOctets-drop : (n : ℕ) (octets : List ℕ) → IsOctets octets → IsOctets (drop n octets)
IsOctets-drop n octets h i = rw get_or-drop (h (n + i))

pub IsOctets-take : (n : ℕ) (octets : List ℕ) → IsOctets octets → IsOctets (take n octets)
IsOctets-take n octets h i =
    elim (cases_lt i n) [
      | inl lt ↦ rw (get_or-take n octets i 0 lt) (h i)
      | inr le ↦ rw (get_or_past (take n octets) i 0 (omega (arith, length-take n octets))) (omega arith)
    ]

-- ---- readings that succeed

abbrev done : {A : Type 0} → A → Result A CodecFault
done x = Ok x

pub ok_is : {A : Type 0} (x y : A) → done x ≡ done y → x ≡ y
ok_is x y e = cc

-- the value of a first reading, where the whole succeeds
pub bind_ok : {A B : Type 0} (r : Result A CodecFault) (f : A → Result B CodecFault) (y : B) → (r >>= f) ≡ Ok y → (x : A) × (r ≡ Ok x) × (f x ≡ Ok y)
bind_ok (Ok x) f y e = (x, refl, e)
bind_ok (Err d) f y e = absurd cc

-- a test that did not refuse
pub guard_ok : {A : Type 0} (b : Bool) (d : CodecFault) (x y : A) → cond b (Err d) (Ok x) ≡ Ok y → (b ≡ false) × (x ≡ y)
guard_ok true d x y e = absurd cc
guard_ok false d x y e = (refl, cc)

-- ---- octets

octets_read : (len : ℕ) (octets front rest : List ℕ) → IsOctets octets → octets_at len octets ≡ Ok (front, rest) → IsRead octets front rest × (length front ≡ len) × IsOctets front
unfolding octets_at
octets_read len octets front rest fits e =
    let g = guard_ok (ltb (length octets) len) Short (take len octets, drop len octets) (front, rest) e in
    let enough : len ≤ length octets = ltb-false (length octets) len g.0 in
    let f : take len octets ≡ front = ap (λ (p : List ℕ × List ℕ). p.0) g.1 in
    let r : drop len octets ≡ rest = ap (λ (p : List ℕ × List ℕ). p.1) g.1 in
    rw (← f, ← r) (record { parts = sym (take-append-drop len octets); left = IsOctets-drop len octets fits }, omega (arith, length-take len octets), IsOctets-take len octets fits)

pub octets_again : (front rest : List ℕ) → octets_at (length front) (front ++ rest) ≡ Ok (front, rest)
unfolding octets_at
octets_again front rest =
    rw (le-ltb (length (front ++ rest)) (length front) (omega (arith, length-append front rest)), take_at front rest (length front) refl, drop_at front rest (length front) refl) refl

-- the text of two fields, one behind the other
pub then_read : (a x b y c : List ℕ) → IsRead a x b → IsRead b y c → IsRead a (x ++ y) c
then_read a x b y c p q = record { parts = p.parts ∙ ap (λ (t : List ℕ). x ++ t) q.parts ∙ sym (append_assoc x y c); left = q.left }

-- a text with nothing behind it is the whole
pub read_whole : (octets text rest : List ℕ) → IsRead octets text rest → rest ≡ [] → octets ≡ text
read_whole octets text rest read ended = read.parts ∙ ap (λ (r : List ℕ). text ++ r) ended ∙ append-nil text

-- ---- numbers

pub number_read : (width : ℕ) (octets : List ℕ) (value : ℕ) (rest : List ℕ) → IsWidth width → IsOctets octets → number_at width octets ≡ Ok (value, rest) → IsRead octets (number width value) rest × (value < 256 ^ width)
unfolding number_at
number_read width octets value rest h fits e =
    let b = bind_ok (octets_at width octets) (λ front. Ok (number_of front.0, front.1)) (value, rest) e in
    let pair : (number_of b.0.0, b.0.1) ≡ (value, rest) = ok_is (number_of b.0.0, b.0.1) (value, rest) b.2 in
    let front = octets_read width octets b.0.0 b.0.1 fits b.1 in
    let spelled = number-number_of width b.0.0 h front.1 front.2 in
    subst (λ (p : ℕ × List ℕ). IsRead octets (number width p.0) p.1 × (p.0 < 256 ^ width)) pair (rw spelled.spelled front.0, spelled.below)

pub number_again : (width value : ℕ) (rest : List ℕ) → IsWidth width → value < 256 ^ width → number_at width (number width value ++ rest) ≡ Ok (value, rest)
unfolding number_at
number_again width value rest h below =
    let e : octets_at width (number width value ++ rest) ≡ Ok (number width value, rest) =
    subst (λ (w : ℕ). octets_at w (number width value ++ rest) ≡ Ok (number width value, rest)) (length-number width value h) (octets_again (number width value) rest) in
    rw (e, number_of-number width value h below) refl

pub list_read : (octets : List ℕ) (count : ℕ) (rest : List ℕ) → IsOctets octets → list_at octets ≡ Ok (count, rest) → IsRead octets (list count) rest × (count < 2 ^ 16)
unfolding list_at list
list_read octets count rest fits e = number_read 2 octets count rest refl fits e

pub list_again : (count : ℕ) (rest : List ℕ) → count < 2 ^ 16 → list_at (list count ++ rest) ≡ Ok (count, rest)
unfolding list_at list
list_again count rest below = number_again 2 count rest refl below

-- ---- strings

pub string_read : (octets text rest : List ℕ) → IsOctets octets → string_at octets ≡ Ok (text, rest) → IsRead octets (string text) rest × (length text < 2 ^ 32)
unfolding string_at string
string_read octets text rest fits e =
    let b = bind_ok (number_at 4 octets) (λ len. octets_at len.0 len.1) (text, rest) e in
    let n = number_read 4 octets b.0.0 b.0.1 refl fits b.1 in
    let s = octets_read b.0.0 b.0.1 text rest n.0.left b.2 in
    let both = then_read octets (number 4 b.0.0) b.0.1 text rest n.0 s.0 in
    subst (λ (k : ℕ). IsRead octets (number 4 k ++ text) rest × (k < 2 ^ 32)) (sym s.1) (both, n.1)

pub string_again : (text rest : List ℕ) → length text < 2 ^ 32 → string_at (string text ++ rest) ≡ Ok (text, rest)
unfolding string_at string
string_again text rest below =
    rw (append_assoc (number 4 (length text)) text rest, number_again 4 (length text) (text ++ rest) refl below) (octets_again text rest)

-- ---- the version

above_zero : (n : ℕ) → eqb n 0 ≡ false → 1 ≤ n
above_zero n e = omega (arith, eqb-false n 0 e)

not_zero : (n : ℕ) → 1 ≤ n → eqb n 0 ≡ false
not_zero zero least = absurd (omega (arith, least))
not_zero (suc n) least = eqb-suc-zero n

-- a version that was read, with its bounds
pub record IsVersion (bound : ℕ) (octets : List ℕ) (value : ℕ) (rest : List ℕ) : Type 0 where
  pub read : IsRead octets (version_of value) rest
  pub least : 1 ≤ value
  pub most : value ≤ bound

pub version_to_read : (most : ℕ) (octets : List ℕ) (value : ℕ) (rest : List ℕ) → IsOctets octets → version_to most octets ≡ Ok (value, rest) → IsVersion most octets value rest
unfolding version_to version_of
version_to_read most octets value rest fits e =
    let b = bind_ok (number_at 1 octets) (λ v. cond (eqb v.0 0 || ltb most v.0) (Err Version) (Ok v)) (value, rest) e in
    let g = guard_ok (eqb b.0.0 0 || ltb most b.0.0) Version b.0 (value, rest) b.2 in
    let n = number_read 1 octets b.0.0 b.0.1 refl fits b.1 in
    let tests = or_parts (eqb b.0.0 0) (ltb most b.0.0) g.0 in
    subst (λ (p : ℕ × List ℕ). IsVersion most octets p.0 p.1) g.1
    (record { read = n.0; least = above_zero b.0.0 tests.0; most = ltb-false most b.0.0 tests.1 })

pub version_to_again : (most value : ℕ) (rest : List ℕ) → 1 ≤ value → value ≤ most → value < 256 → version_to most (version_of value ++ rest) ≡ Ok (value, rest)
unfolding version_to version_of
version_to_again most value rest least within below = rw (number_again 1 value rest refl (omega (arith, below)), not_zero value least, le-ltb most value within) refl

pub version_read : (octets : List ℕ) (value : ℕ) (rest : List ℕ) → IsOctets octets → version_at octets ≡ Ok (value, rest) → IsRead octets version rest × (value ≡ 1)
unfolding version_at version
version_read octets value rest fits e =
    let v = version_to_read 1 octets value rest fits e in
    let one : value ≡ 1 = omega (arith, v.least, v.most) in
    (subst (λ (k : ℕ). IsRead octets (version_of k) rest) one v.read, one)

pub version_again : (rest : List ℕ) → version_at (version ++ rest) ≡ Ok (1, rest)
unfolding version_at version
version_again rest = version_to_again 1 1 rest (lit≤ tt) (lit≤ tt) (lit< tt)

-- ---- one text for each value, and none begins another

same_pair : {A : Type 0} (p q : A × List ℕ) → done p ≡ done q → (p.0 ≡ q.0) × (p.1 ≡ q.1)
same_pair {A = A} p q e = (ap (λ (r : A × List ℕ). r.0) (ok_is p q e), ap (λ (r : A × List ℕ). r.1) (ok_is p q e))

pub number_apart : (width a b : ℕ) (x y : List ℕ) → IsWidth width → a < 256 ^ width → b < 256 ^ width → number width a ++ x ≡ number width b ++ y → (a ≡ b) × (x ≡ y)
number_apart width a b x y h below-a below-b e =
    same_pair (a, x) (b, y) (sym (number_again width a x h below-a) ∙ ap (number_at width) e ∙ number_again width b y h below-b)

pub string_apart : (a b x y : List ℕ) → length a < 2 ^ 32 → length b < 2 ^ 32 → string a ++ x ≡ string b ++ y → (a ≡ b) × (x ≡ y)
string_apart a b x y below-a below-b e =
    same_pair (a, x) (b, y) (sym (string_again a x below-a) ∙ ap string_at e ∙ string_again b y below-b)

pub list_apart : (a b : ℕ) (x y : List ℕ) → a < 2 ^ 16 → b < 2 ^ 16 → list a ++ x ≡ list b ++ y → (a ≡ b) × (x ≡ y)
unfolding list
list_apart a b x y below-a below-b e = number_apart 2 a b x y refl below-a below-b e
