-- Texts that are read from behind stand to one another as the first octets do in which they differ.
use Rattle.std.proofs.Common.{◌≡◌, ℕ, zero, suc, ◌+◌, ◌-◌, ◌<◌, ◌≤◌, ◌⊎◌, inl, inr, leb, true, false, List, [], ◌∷◌, reverse, take, drop, length, slice_index_or, refl, sym, ap, ◌∙◌, arith}
use Rattle.std.specs.Ordering.{nat_cmp}
use Rattle.std.specs.declared.cmp.Ordering.TheVariants.{Less, Equal, Greater}
use Rattle.std.proofs.lemmas.Bool.Decides.{leb_tells}
use Rattle.std.proofs.lemmas.List.{get_or-reverse, length-reverse}
use Rattle.std.specs.Cmp.{nat_cmp_is}
use Rattle.base_rows.specs.Sortable.{sort_key_cmp}
use Rattle.base_rows.proofs.Orders.{behind, apart, alike}

ended_by : (a b n : ℕ) → n ≤ a → a ≤ b → (n < a → n < b → ⊥) → ((leb a n ≡ true) × (a ≤ n)) ⊎ ((leb a n ≡ false) × (n < a)) → a ≡ n
ended_by a b n p s r (inl c) = omega (arith, p, c.1)
ended_by a b n p s r (inr c) = absurd (r c.1 (omega (arith, c.1, s)))

ended : (a b n : ℕ) → n ≤ a → n ≤ b → (n < a → n < b → ⊥) → a ≤ b → a ≡ n
ended a b n p q r s = ended_by a b n p s r (leb_tells a n)

short : (n : ℕ) (xs ys : List ℕ) → length xs ≡ n → n < length ys → sort_key_cmp (drop n xs) (drop n ys) ≡ Less
short zero [] [] p q = absurd (omega (arith, q))
short zero [] (y ∷ ys) p q = refl
short zero (x ∷ xs) ys p q = absurd (omega (arith, p))
short (suc n) [] ys p q = absurd (omega (arith, p))
short (suc n) (x ∷ xs) [] p q = absurd (omega (arith, q))
short (suc n) (x ∷ xs) (y ∷ ys) p q = short n xs ys (omega (arith, p)) (omega (arith, q))

long : (n : ℕ) (xs ys : List ℕ) → n < length xs → length ys ≡ n → sort_key_cmp (drop n xs) (drop n ys) ≡ Greater
long zero [] ys p q = absurd (omega (arith, p))
long zero (x ∷ xs) [] p q = refl
long zero (x ∷ xs) (y ∷ ys) p q = absurd (omega (arith, q))
long (suc n) [] ys p q = absurd (omega (arith, p))
long (suc n) (x ∷ xs) [] p q = absurd (omega (arith, q))
long (suc n) (x ∷ xs) (y ∷ ys) p q = long n xs ys (omega (arith, p)) (omega (arith, q))

ends_by : (n : ℕ) (xs ys : List ℕ) → n ≤ length xs → n ≤ length ys → (n < length xs → n < length ys → ⊥) → ((leb (length xs) (length ys) ≡ true) × (length xs ≤ length ys)) ⊎ ((leb (length xs) (length ys) ≡ false) × (length ys < length xs)) → ((leb (length ys) (length xs) ≡ true) × (length ys ≤ length xs)) ⊎ ((leb (length ys) (length xs) ≡ false) × (length xs < length ys)) → nat_cmp (length xs) (length ys) ≡ sort_key_cmp (drop n xs) (drop n ys)
ends_by n xs ys p q r (inl a) (inl b) =
    let same : length xs ≡ length ys = omega (arith, a.1, b.1) in
    let at : length xs ≡ n = ended (length xs) (length ys) n p q r a.1 in
    sym (nat_cmp_is (length xs) (length ys) Equal same) ∙ sym (behind n xs ys at (sym same ∙ at))
ends_by n xs ys p q r (inl a) (inr b) =
    let at : length xs ≡ n = ended (length xs) (length ys) n p q r a.1 in
    sym (nat_cmp_is (length xs) (length ys) Less b.1) ∙ sym (short n xs ys at (omega (arith, at, b.1)))
ends_by n xs ys p q r (inr a) b =
    let at : length ys ≡ n = ended (length ys) (length xs) n q p (λ s t. r t s) (omega (arith, a.1)) in
    sym (nat_cmp_is (length xs) (length ys) Greater a.1) ∙ sym (long n xs ys (omega (arith, at, a.1)) at)

ends : (n : ℕ) (xs ys : List ℕ) → n ≤ length xs → n ≤ length ys → (n < length xs → n < length ys → ⊥) → nat_cmp (length xs) (length ys) ≡ sort_key_cmp (drop n xs) (drop n ys)
ends n xs ys p q r = ends_by n xs ys p q r (leb_tells (length xs) (length ys)) (leb_tells (length ys) (length xs))

-- ---- Texts that are read from behind

read_front : (m j : ℕ) (xs : List ℕ) → j < m → slice_index_or (take m xs) j 0 ≡ slice_index_or xs j 0
read_front zero j xs lt = absurd (omega (arith, lt))
read_front (suc m) j [] lt = refl
read_front (suc m) zero (x ∷ xs) lt = refl
read_front (suc m) (suc j) (x ∷ xs) lt = read_front m j xs (omega (arith, lt))

read_within : (k m j : ℕ) (xs : List ℕ) → j < m → slice_index_or (take m (drop k xs)) j 0 ≡ slice_index_or xs (k + j) 0
read_within zero m j xs lt = read_front m j xs lt ∙ ap (λ (i : ℕ). slice_index_or xs i 0) {x = j} {y = 0 + j} (omega arith)
read_within (suc k) m j [] lt = read_front m j [] lt
read_within (suc k) m j (x ∷ xs) lt = read_within k m j xs lt ∙ ap (λ (i : ℕ). slice_index_or (x ∷ xs) i 0) {x = suc (k + j)} {y = suc k + j} (omega arith)

-- an octet of as many at the end
read_end : (xs : List ℕ) (both left : ℕ) → both ≤ length xs → left < both
    → slice_index_or (take (length xs - (length xs - both)) (drop (length xs - both) xs)) left 0 ≡ slice_index_or xs (length xs - 1 - (both - (left + 1))) 0
read_end xs both left le lt =
    read_within (length xs - both) (length xs - (length xs - both)) left xs (omega (arith, le, lt))
    ∙ ap (λ (i : ℕ). slice_index_or xs i 0) {x = length xs - both + left} {y = length xs - 1 - (both - (left + 1))} (omega (arith, le, lt))

turned : (xs : List ℕ) (n : ℕ) → n < length xs → slice_index_or (reverse xs) n 0 ≡ slice_index_or xs (length xs - 1 - n) 0
turned xs n p = get_or-reverse xs n 0 p

-- where the octets are the same, those in front decide
alike_behind : (n : ℕ) (xs ys : List ℕ) → n < length xs → n < length ys → slice_index_or xs (length xs - 1 - n) 0 ≡ slice_index_or ys (length ys - 1 - n) 0
    → sort_key_cmp (drop n (reverse xs)) (drop n (reverse ys)) ≡ sort_key_cmp (drop (n + 1) (reverse xs)) (drop (n + 1) (reverse ys))
alike_behind n xs ys p q e = alike n (reverse xs) (reverse ys) (omega (arith, p, length-reverse xs)) (omega (arith, q, length-reverse ys)) (turned xs n p ∙ e ∙ sym (turned ys n q))

-- where they differ, they decide
apart_behind : (n : ℕ) (xs ys : List ℕ) → n < length xs → n < length ys → (slice_index_or xs (length xs - 1 - n) 0 ≡ slice_index_or ys (length ys - 1 - n) 0 → ⊥)
    → nat_cmp (slice_index_or xs (length xs - 1 - n) 0) (slice_index_or ys (length ys - 1 - n) 0) ≡ sort_key_cmp (drop n (reverse xs)) (drop n (reverse ys))
apart_behind n xs ys p q e =
    (λ i. nat_cmp (sym (turned xs n p) i) (sym (turned ys n q) i))
    ∙ apart n (reverse xs) (reverse ys) (omega (arith, p, length-reverse xs)) (omega (arith, q, length-reverse ys)) (λ same. e (sym (turned xs n p) ∙ same ∙ turned ys n q))

-- where one text ends, the lengths decide
pub ends_behind : (n : ℕ) (xs ys : List ℕ) → n ≤ length xs → n ≤ length ys → (n < length xs → n < length ys → ⊥) → nat_cmp (length xs) (length ys) ≡ sort_key_cmp (drop n (reverse xs)) (drop n (reverse ys))
ends_behind n xs ys p q r =
    (λ i. nat_cmp (sym (length-reverse xs) i) (sym (length-reverse ys) i))
    ∙ ends n (reverse xs) (reverse ys) (omega (arith, p, length-reverse xs)) (omega (arith, q, length-reverse ys)) (λ s t. r (omega (arith, s, length-reverse xs)) (omega (arith, t, length-reverse ys)))

-- ---- As many octets at the ends of both

abbrev end_of : List ℕ → ℕ → List ℕ
end_of xs both = take (length xs - (length xs - both)) (drop (length xs - both) xs)

next_behind : (xs ys : List ℕ) (both left : ℕ) → 0 < left → left ≤ both → sort_key_cmp (drop (both - left + 1) xs) (drop (both - left + 1) ys) ≡ sort_key_cmp (drop (both - (left - 1)) xs) (drop (both - (left - 1)) ys)
next_behind xs ys both left some le = ap (λ (n : ℕ). sort_key_cmp (drop n xs) (drop n ys)) {x = both - left + 1} {y = both - (left - 1)} (omega (arith, some, le))

read_next : (xs : List ℕ) (both left : ℕ) → both ≤ length xs → 0 < left → left ≤ both → slice_index_or (end_of xs both) (left - 1) 0 ≡ slice_index_or xs (length xs - 1 - (both - left)) 0
read_next xs both left within some le =
    read_end xs both (left - 1) within (omega (arith, some, le))
    ∙ ap (λ (i : ℕ). slice_index_or xs i 0) {x = length xs - 1 - (both - (left - 1 + 1))} {y = length xs - 1 - (both - left)} (omega (arith, within, some, le))

-- where the octets are the same, those in front decide
pub alike_end : (xs ys : List ℕ) (both left : ℕ) → both ≤ length xs → both ≤ length ys → 0 < left → left ≤ both → slice_index_or (end_of xs both) (left - 1) 0 ≡ slice_index_or (end_of ys both) (left - 1) 0
    → sort_key_cmp (drop (both - left) (reverse xs)) (drop (both - left) (reverse ys)) ≡ sort_key_cmp (drop (both - (left - 1)) (reverse xs)) (drop (both - (left - 1)) (reverse ys))
alike_end xs ys both left p q some le e =
    alike_behind (both - left) xs ys (omega (arith, p, some, le)) (omega (arith, q, some, le)) (sym (read_next xs both left p some le) ∙ e ∙ read_next ys both left q some le)
    ∙ next_behind (reverse xs) (reverse ys) both left some le

-- where they differ, they decide
pub apart_end : (xs ys : List ℕ) (both left : ℕ) → both ≤ length xs → both ≤ length ys → 0 < left → left ≤ both → (slice_index_or (end_of xs both) (left - 1) 0 ≡ slice_index_or (end_of ys both) (left - 1) 0 → ⊥)
    → nat_cmp (slice_index_or (end_of xs both) (left - 1) 0) (slice_index_or (end_of ys both) (left - 1) 0) ≡ sort_key_cmp (drop (both - left) (reverse xs)) (drop (both - left) (reverse ys))
apart_end xs ys both left p q some le e =
    (λ i. nat_cmp (read_next xs both left p some le i) (read_next ys both left q some le i))
    ∙ apart_behind (both - left) xs ys (omega (arith, p, some, le)) (omega (arith, q, some, le)) (λ same. e (read_next xs both left p some le ∙ same ∙ sym (read_next ys both left q some le)))
