-- A Thing is found among the numbers of all Things as it is among their hardware addresses.
use Rattle.std.proofs.Common.{◌≡◌, ℕ, zero, suc, ◌+◌, ◌%◌, ◌<◌, ◌≤◌, Bool, true, false, ◌==◌, if◌then◌else◌, cond, List, [], ◌∷◌, ◌++◌, length, map, take, get_or, slice_get, Option, Some, None, inl, inr, refl, sym, ap, subst, ◌∙◌, arith}
use denote.Ref.{Bor}
use Rattle.std.specs.Prelude.{◌≢◌}
use Rattle.std.specs.List.{AllByRecursion}
use Rattle.std.specs.Int.{w64, from_be_bytes}
use Rattle.std.specs.Option.{option_copied}
use Rattle.std.specs.Slice.{IsGetResult}
use Rattle.std.specs.Ordering.{nat_cmp}
use Rattle.std.specs.declared.cmp.Ordering.{Ordering}
use Rattle.std.specs.declared.cmp.Ordering.TheVariants.{Less, Equal}
use Rattle.std.specs.Cmp.{nat_cmp_is}
use Rattle.std.proofs.lemmas.Cmp.{ranked}
use Rattle.std.proofs.Math.ListN.{set, replicate}
use Rattle.std.proofs.lemmas.Bool.{cases_eq, cases_lt}
use Rattle.std.proofs.lemmas.Bool.Decides.{nat_tests}
use Rattle.std.proofs.lemmas.List.{length-map, length-set, length-replicate, length-take-le, get_or-set_same, get_or-set_other, get_or-replicate, get_or-take, take_all}
use Rattle.std.proofs.lemmas.Option.{slice_get_past, slice_get_read}
use Rattle.base_rows.specs.Sortable.{sort_key_cmp, same_sort_key, SortKeysAbove, SortKeysAscend, row_at}
use Rattle.base_rows.specs.Search.{sort_key_answer}
use Rattle.base_rows.proofs.Lists.{all_push}
use Rattle.base_rows.proofs.SortableLaws.{row_at_found, same_sort_key_exact}
use Rattle.base_rows.proofs.ProbeLaws.{index_in_met}
use Rattle.mud_base.specs.declared.addr.Mac.{Mac}
use Rattle.table_model.specs.declared.thing.Thing.{Thing}
use Rattle.table_model.specs.Things.{mac_of}
use Rattle.table_model.proofs.RowSets.{take_one, map_push}
use Rattle.thing_book.specs.Numbers.{mac_number, thing_number, IsMac, HasMac, AreNumbersOf, AreRising, IsShared, AreSpotted}
use Rattle.thing_book.proofs.MacNumbers.{mac_cmp}

pub length_numbers : (things : List Thing) (numbers : List ℕ) → AreNumbersOf things numbers → length numbers ≡ length things
length_numbers things numbers are = ap length are.numbers_are ∙ length-map things thing_number

-- ---- Numbers rise as hardware addresses do

order : (mac : Mac) → IsMac mac → (thing : Thing) → HasMac thing → sort_key_cmp mac.0 (mac_of thing) ≡ nat_cmp (mac_number mac) (thing_number thing)
unfolding mac_of
order mac own thing other = sym (mac_cmp mac.0 thing.mac.0 own.six other.six own.octets other.octets)

less_number : (x y : Thing) → HasMac x → HasMac y → sort_key_cmp (mac_of x) (mac_of y) ≡ Less → thing_number x < thing_number y
unfolding mac_of
less_number x y own other lt = ranked (thing_number x) (thing_number y) Less (sym lt ∙ order x.mac own y other)

above_number : (x : Thing) → HasMac x → (xs : List Thing) → AllByRecursion HasMac xs → SortKeysAbove mac_of (mac_of x) xs → (j : ℕ) → j < length xs → thing_number x < get_or (map thing_number xs) j 0
above_number x own [] all above j lt = absurd (omega arith)
above_number x own (y ∷ ys) all above zero lt = less_number x y own all.0 above.0
above_number x own (y ∷ ys) all above (suc j) lt = above_number x own ys all.1 above.1 j (omega arith)

rise : (xs : List Thing) → AllByRecursion HasMac xs → SortKeysAscend mac_of xs → (i j : ℕ) → i ≤ j → j < length xs → get_or (map thing_number xs) i 0 ≤ get_or (map thing_number xs) j 0
rise [] all up i j le lt = absurd (omega arith)
rise (x ∷ xs) all up zero zero le lt = omega arith
rise (x ∷ xs) all up zero (suc j) le lt = omega (arith, above_number x all.0 xs all.1 up.0 j (omega arith))
rise (x ∷ xs) all up (suc i) zero le lt = absurd (omega arith)
rise (x ∷ xs) all up (suc i) (suc j) le lt = rise xs all.1 up.1 i j (omega arith) (omega arith)

pub rising : (things : List Thing) (numbers : List ℕ) → AreNumbersOf things numbers → SortKeysAscend mac_of things → AreRising numbers
rising things numbers are up =
    subst AreRising (sym are.numbers_are) (λ i j le lt. let long : length (map thing_number things) ≡ length things = length-map things thing_number in rise things are.each up i j le (omega arith))

-- ---- The row of a hardware address

module _ (mac : Mac) (own : IsMac mac) where
  -- a search by hardware addresses would be answered so
  answer : (things : List Thing) → AllByRecursion HasMac things → (i : ℕ) (e : Ordering) → i < length things → get_or (map (sort_key_answer mac_of mac.0) things) i e ≡ nat_cmp (mac_number mac) (get_or (map thing_number things) i 0)
  answer [] all i e lt = absurd (omega arith)
  answer (x ∷ xs) all zero e lt = order mac own x all.0
  answer (x ∷ xs) all (suc i) e lt = answer xs all.1 i e (omega arith)

  found_there : (things : List Thing) → AllByRecursion HasMac things → SortKeysAscend mac_of things → (i : ℕ) → i < length things → get_or (map thing_number things) i 0 ≡ mac_number mac → row_at mac_of mac.0 things ≡ slice_get things i
  found_there things all up i lt same =
      row_at_found mac_of mac.0 things i up
      (index_in_met mac_of mac.0 things i up (answer things all i Less lt ∙ sym (nat_cmp_is (mac_number mac) (get_or (map thing_number things) i 0) Equal (sym same))))

  pub found : (things : List Thing) (numbers : List ℕ) → AreNumbersOf things numbers → SortKeysAscend mac_of things → (i : ℕ) → i < length numbers → get_or numbers i 0 ≡ mac_number mac → row_at mac_of mac.0 things ≡ slice_get things i
  found things numbers are up i lt same =
      found_there things are.each up i
      (let long : length numbers ≡ length things = length_numbers things numbers are in omega arith)
      (ap (λ (ns : List ℕ). get_or ns i 0) (sym are.numbers_are) ∙ same)

absent_there : (mac : Mac) (things : List Thing) → ((k : ℕ) → k < length things → get_or (map thing_number things) k 0 ≢ mac_number mac) → row_at mac_of mac.0 things ≡ None
unfolding mac_of
absent_there mac [] none = refl
absent_there mac (x ∷ xs) none = by_first (same_sort_key x.mac.0 mac.0) refl (absent_there mac xs (λ k lt. none (suc k) (omega arith)))
  where
    by_first : (b : Bool) → same_sort_key x.mac.0 mac.0 ≡ b → row_at mac_of mac.0 xs ≡ None → cond b (Some x) (row_at mac_of mac.0 xs) ≡ None
    by_first true e rest = absurd (none 0 (omega arith) (ap (λ (octets : List ℕ). from_be_bytes w64 (0 ∷ 0 ∷ octets)) (same_sort_key_exact x.mac.0 mac.0 e)))
    by_first false e rest = rest

pub absent : (mac : Mac) (things : List Thing) (numbers : List ℕ) → AreNumbersOf things numbers → ((k : ℕ) → k < length numbers → get_or numbers k 0 ≢ mac_number mac) → row_at mac_of mac.0 things ≡ None
absent mac things numbers are none =
    absent_there mac things (λ k lt same. none k (let long : length numbers ≡ length things = length_numbers things numbers are in omega arith) (ap (λ (ns : List ℕ). get_or ns k 0) are.numbers_are ∙ same))

-- what a look-up of an index lends
pub lent : {R : Type 0} (rows : List R) (i : ℕ) (r : Option (Bor R)) → IsGetResult rows i i r → option_copied r ≡ slice_get rows i
lent rows i None h = sym (slice_get_past rows i h.3)
lent rows i (Some x) h = sym (slice_get_read rows (length rows) i x.now refl h.3.0 h.1)

-- ---- The numbers of Things that are gone through

pub none_yet : AreNumbersOf [] []
none_yet = record { numbers_are = refl; each = tt }

pub one_more : (things : List Thing) (numbers numbers' : List ℕ) (thing : Thing) → AreNumbersOf things numbers → numbers' ≡ numbers ++ mac_number thing.mac ∷ [] → IsMac thing.mac → AreNumbersOf (things ++ thing ∷ []) numbers'
one_more things numbers numbers' thing are pushed mac = record {
  numbers_are = pushed ∙ ap (λ ns. ns ++ mac_number thing.mac ∷ []) are.numbers_are ∙ sym (map_push thing_number things thing);
  each = all_push HasMac things thing are.each mac;
}

pub next_number : (things : List Thing) (numbers numbers' : List ℕ) (i : ℕ) (thing : Thing) → i < length things → thing ≡ get_or things i thing → AreNumbersOf (take i things) numbers → numbers' ≡ numbers ++ mac_number thing.mac ∷ [] → IsMac thing.mac → AreNumbersOf (take (i + 1) things) numbers'
next_number things numbers numbers' i thing within is are pushed mac =
    subst (λ ts. AreNumbersOf ts numbers') (sym (take_one things i thing within is)) (one_more (take i things) numbers numbers' thing are pushed mac)

pub all_numbers : (things : List Thing) (numbers : List ℕ) (i : ℕ) → length things ≤ i → AreNumbersOf (take i things) numbers → AreNumbersOf things numbers
all_numbers things numbers i past = subst (λ ts. AreNumbersOf ts numbers) (take_all i things past)

-- ---- Spots

-- a search that found no number, by where it ended
pub not_among : (numbers : List ℕ) (n i : ℕ) → (i ≤ length numbers) × ((k : ℕ) → k < i → get_or numbers k 0 < n) × ((k : ℕ) → i ≤ k → k < length numbers → n < get_or numbers k 0) → (k : ℕ) → k < length numbers → get_or numbers k 0 ≢ n
not_among numbers n i gap k lt same = elim (cases_lt k i) [
  | inl before ↦ (let less : get_or numbers k 0 < n = gap.1 k before in absurd (omega arith))
  | inr after ↦ (let more : n < get_or numbers k 0 = gap.2 k after lt in absurd (omega arith))
]

-- what is taken by a number more, where 65,534 stands in its spot or something else
module _ (there index v : ℕ) (taken : v ≡ (if there == 65534 then index else 65535)) where
  taken_own : v ≢ 65535 → v ≡ index
  taken_own ne = by (there == 65534) taken
    where
      by : (b : Bool) → v ≡ (if b then index else 65535) → v ≡ index
      by true e = e
      by false e = absurd (ne e)

  taken_empty : v ≢ 65535 → there ≡ 65534
  taken_empty ne = by (there == 65534) refl taken
    where
      by : (b : Bool) → (there == 65534) ≡ b → v ≡ (if b then index else 65535) → there ≡ 65534
      by true f e = grind (arith, nat_tests)
      by false f e = absurd (ne e)

  taken_other : index < 512 → v ≡ 65535 → there ≢ 65534
  taken_other few is empty = by (there == 65534) refl taken
    where
      by : (b : Bool) → (there == 65534) ≡ b → v ≡ (if b then index else 65535) → ⊥
      by true f e = omega arith
      by false f e = grind (arith, nat_tests)

-- the numbers of a list are among those of a longer one
shared_more : (room : List ℕ) (count n s : ℕ) → IsShared room count s → IsShared (set room count n) (count + 1) s
shared_more room count n s h = record {
  one = h.one;
  other = h.other;
  apart = h.apart;
  within = let w : h.other < count = h.within in omega arith;
  of_one = ap (λ m. m % 2048) (get_or-set_other room count h.one n 0 (λ e. let w : h.other < count = h.within in let a : h.one < h.other = h.apart in absurd (omega arith))) ∙ h.of_one;
  of_other = ap (λ m. m % 2048) (get_or-set_other room count h.other n 0 (λ e. let w : h.other < count = h.within in absurd (omega arith))) ∙ h.of_other;
}

-- where a spot is shared by the first numbers of their room, it is by the list of them
pub shared_taken : (room : List ℕ) (count s : ℕ) → count ≤ length room → IsShared room count s → IsShared (take count room) (length (take count room)) s
shared_taken room count s fits h =
    let long : length (take count room) ≡ count = length-take-le count room fits in
    let w : h.other < count = h.within in
    let a : h.one < h.other = h.apart in
    record {
      one = h.one;
      other = h.other;
      apart = h.apart;
      within = omega arith;
      of_one = ap (λ m. m % 2048) (get_or-take count room h.one 0 (omega arith)) ∙ h.of_one;
      of_other = ap (λ m. m % 2048) (get_or-take count room h.other 0 w) ∙ h.of_other;
    }

module _ (room spots : List ℕ) (count : ℕ) (are : AreSpotted room spots count) where
  pub length_counted : length (take count room) ≡ count
  length_counted = length-take-le count room (omega (arith, are.room_is, are.within))

  module _ (n v : ℕ) (fits : count < 512) (taken : v ≡ (if get_or spots (n % 2048) 0 == 65534 then count else 65535)) where
    abbrev there : ℕ
    there = get_or spots (n % 2048) 0

    own : v ≢ 65535 → v ≡ count
    own = taken_own there count v taken

    empty : v ≢ 65535 → there ≡ 65534
    empty = taken_empty there count v taken

    abbrev room' : List ℕ
    room' = set room count n

    abbrev spots' : List ℕ
    spots' = set spots (n % 2048) v

    at_own : get_or spots' (n % 2048) 0 ≡ v
    at_own = get_or-set_same spots (n % 2048) v 0 (omega (arith, are.spots_are))

    last_spotted : get_or room' count 0 ≡ n
    last_spotted = get_or-set_same room count n 0 (omega (arith, are.room_is))

    earlier_spotted : (k m : ℕ) → k < count → get_or room k 0 ≡ m → get_or spots' (m % 2048) 0 ≢ 65535 → get_or spots' (m % 2048) 0 ≡ k
    earlier_spotted k m lt here ne = elim (cases_eq (m % 2048) (n % 2048)) [
      | inl same ↦ (
          let now : get_or spots' (m % 2048) 0 ≡ v = ap (λ r. get_or spots' r 0) same ∙ at_own in
          let was : get_or spots (m % 2048) 0 ≡ 65534 = ap (λ r. get_or spots r 0) same ∙ empty (λ shared. ne (now ∙ shared)) in
          let at : get_or spots (get_or room k 0 % 2048) 0 ≡ 65534 = ap (λ i. get_or spots (i % 2048) 0) here ∙ was in
          let is : get_or spots (get_or room k 0 % 2048) 0 ≡ k = are.spotted k lt (λ shared. absurd (omega arith)) in
          absurd (omega arith))
      | inr apart ↦ (
          let kept : get_or spots' (m % 2048) 0 ≡ get_or spots (m % 2048) 0 = get_or-set_other spots (n % 2048) (m % 2048) v 0 apart in
          let at : get_or spots (get_or room k 0 % 2048) 0 ≡ get_or spots (m % 2048) 0 = ap (λ i. get_or spots (i % 2048) 0) here in
          kept ∙ sym at ∙ are.spotted k lt (λ shared. ne (kept ∙ sym at ∙ shared)))
    ]

    now_spotted : (k : ℕ) → k < count + 1 → get_or spots' (get_or room' k 0 % 2048) 0 ≢ 65535 → get_or spots' (get_or room' k 0 % 2048) 0 ≡ k
    now_spotted k lt ne = elim (cases_eq k count) [
      | inl last ↦ (
          let here : get_or room' k 0 ≡ n = ap (λ i. get_or room' i 0) last ∙ last_spotted in
          let spot : get_or spots' (get_or room' k 0 % 2048) 0 ≡ v = ap (λ i. get_or spots' (i % 2048) 0) here ∙ at_own in
          spot ∙ own (λ shared. ne (spot ∙ shared)) ∙ sym last)
      | inr earlier ↦ earlier_spotted k (get_or room' k 0) (omega arith) (sym (get_or-set_other room count k n 0 earlier)) ne
    ]

    now_own : (s : ℕ) → s < 2048 → get_or spots' s 0 ≢ 65534 → get_or spots' s 0 ≢ 65535 → (get_or spots' s 0 < count + 1) × (get_or room' (get_or spots' s 0) 0 % 2048 ≡ s)
    now_own s lt ne nf = elim (cases_eq s (n % 2048)) [
      | inl same ↦ (
          let now : get_or spots' s 0 ≡ v = ap (λ r. get_or spots' r 0) same ∙ at_own in
          let is : get_or spots' s 0 ≡ count = now ∙ own (λ shared. nf (now ∙ shared)) in
          (omega arith, ap (λ i. get_or room' i 0 % 2048) is ∙ ap (λ m. m % 2048) last_spotted ∙ sym same))
      | inr apart ↦ (
          let kept : get_or spots' s 0 ≡ get_or spots s 0 = get_or-set_other spots (n % 2048) s v 0 apart in
          let was : (get_or spots s 0 < count) × (get_or room (get_or spots s 0) 0 % 2048 ≡ s) = are.own s lt (λ e. ne (kept ∙ e)) (λ e. nf (kept ∙ e)) in
          let below : get_or spots s 0 < count = was.0 in
          (omega arith, ap (λ i. get_or room' i 0 % 2048) kept ∙ ap (λ m. m % 2048) (get_or-set_other room count (get_or spots s 0) n 0 (λ e. absurd (omega arith))) ∙ was.1))
    ]

    -- the spot of the number that comes, where something stands in it
    joined : there ≢ 65534 → IsShared room' (count + 1) (n % 2048)
    joined ne = elim (cases_eq there 65535) [
      | inl shared ↦ shared_more room count n (n % 2048) (are.shared (n % 2048) (omega arith) shared)
      | inr one ↦ (
          let was : (there < count) × (get_or room there 0 % 2048 ≡ n % 2048) = are.own (n % 2048) (omega arith) ne one in
          let below : there < count = was.0 in
          record {
            one = there;
            other = count;
            apart = below;
            within = omega arith;
            of_one = ap (λ m. m % 2048) (get_or-set_other room count there n 0 (λ e. absurd (omega arith))) ∙ was.1;
            of_other = ap (λ m. m % 2048) last_spotted;
          })
    ]

    now_shared : (s : ℕ) → s < 2048 → get_or spots' s 0 ≡ 65535 → IsShared room' (count + 1) s
    now_shared s lt is = elim (cases_eq s (n % 2048)) [
      | inl same ↦ (
          let now : get_or spots' s 0 ≡ v = ap (λ r. get_or spots' r 0) same ∙ at_own in
          subst (IsShared room' (count + 1)) (sym same) (joined (taken_other there count v taken fits (sym now ∙ is))))
      | inr apart ↦ shared_more room count n s (are.shared s lt (sym (get_or-set_other spots (n % 2048) s v 0 apart) ∙ is))
    ]

    pub spotted_more : AreSpotted (set room count n) (set spots (n % 2048) v) (count + 1)
    spotted_more = record {
      room_is = length-set room count n ∙ are.room_is;
      spots_are = length-set spots (n % 2048) v ∙ are.spots_are;
      within = omega arith;
      spotted = now_spotted;
      own = now_own;
      shared = now_shared;
    }

-- no number has a spot
in_none : (s : ℕ) → s < 2048 → get_or (replicate {A = ℕ} 2048 65534) s 0 ≡ 65534
in_none s lt = get_or-replicate 2048 s 65534 0 lt

pub none_spotted : (room : List ℕ) → length room ≡ 512 → AreSpotted room (replicate 2048 65534) 0
none_spotted room long = record {
  room_is = long;
  spots_are = length-replicate {A = ℕ} 2048 65534;
  within = omega arith;
  spotted = λ k lt. absurd (omega arith);
  own = λ s lt ne. absurd (ne (in_none s lt));
  shared = λ s lt is. let none : get_or (replicate {A = ℕ} 2048 65534) s 0 ≡ 65534 = in_none s lt in absurd (omega arith);
}
