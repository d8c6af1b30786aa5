-- Where the numbers that the first octets of two lists spell differ, the lists stand to one another
-- as these numbers do.
use Rattle.std.proofs.Common.{◌≡◌, ℕ, zero, suc, ◌+◌, ◌-◌, ◌*◌, ◌^◌, ◌<◌, ◌≤◌, ◌⊎◌, inl, inr, leb, true, false, List, [], ◌∷◌, length, reverse, get_or, refl, sym, ap, ap₂, ◌∙◌, arith, pow-suc}
use Rattle.std.specs.Ordering.{nat_cmp, ordering_then}
use Rattle.std.specs.declared.cmp.Ordering.{Ordering}
use Rattle.std.specs.declared.cmp.Ordering.TheVariants.{Less, Equal, Greater}
use Rattle.std.specs.Cmp.{nat_cmp_is}
use Rattle.std.proofs.lemmas.Bool.Decides.{leb_tells}
use Rattle.std.proofs.lemmas.Cmp.{ranked}
use Rattle.std.proofs.lemmas.List.{get_or-reverse, length-reverse}
use Rattle.std.proofs.lemmas.Nat.{mul-add-lt}
use Rattle.std.proofs.Math.ListN.{get_or-eq_default}
use Rattle.base_rows.specs.Sortable.{sort_key_cmp}
use Rattle.base_rows.proofs.Orders.{equal_numbers}
use Rattle.mud_base.specs.Numbers.{IsOctets}
use Rattle.acl_compile.specs.UrlSlots.{lead}

-- ---- A digit in front of a number

same_digit : (h a b : ℕ) (o : Ordering) → o ≡ nat_cmp a b → nat_cmp (h + a) (h + b) ≡ o
same_digit h a b Less is = let lt : a < b = ranked a b Less is in sym (nat_cmp_is (h + a) (h + b) Less (omega (arith, lt)))
same_digit h a b Equal is = let same : a ≡ b = ranked a b Equal is in sym (nat_cmp_is (h + a) (h + b) Equal (omega (arith, same)))
same_digit h a b Greater is = let gt : b < a = ranked a b Greater is in sym (nat_cmp_is (h + a) (h + b) Greater (omega (arith, gt)))

digit_by : (w x y a b : ℕ) → a < w → b < w → (o : Ordering) → o ≡ nat_cmp x y → nat_cmp (x * w + a) (y * w + b) ≡ ordering_then o (nat_cmp a b)
digit_by w x y a b p q Less is =
    let lt : x < y = ranked x y Less is in
    sym (nat_cmp_is (x * w + a) (y * w + b) Less (omega (arith, mul-add-lt x w a y lt p)))
digit_by w x y a b p q Equal is =
    let same : x ≡ y = ranked x y Equal is in
    ap (λ z. nat_cmp (x * w + a) (z * w + b)) (sym same) ∙ same_digit (x * w) a b (nat_cmp a b) refl
digit_by w x y a b p q Greater is =
    let gt : y < x = ranked x y Greater is in
    sym (nat_cmp_is (x * w + a) (y * w + b) Greater (omega (arith, mul-add-lt y w b x gt q)))

-- the digits decide, and then what stands behind them
digit : (w x y a b : ℕ) → a < w → b < w → nat_cmp (x * w + a) (y * w + b) ≡ ordering_then (nat_cmp x y) (nat_cmp a b)
digit w x y a b p q = digit_by w x y a b p q (nat_cmp x y) refl

-- ---- The number of the first octets

none : (n k : ℕ) → lead n k [] ≡ 0
unfolding lead
none zero k = refl
none (suc n) k = omega (arith, none n (suc k))

moved : (n k x : ℕ) (p : List ℕ) → lead n (suc k) (x ∷ p) ≡ lead n k p
unfolding lead
moved zero k x p = refl
moved (suc n) k x p = ap (λ z. get_or p k 0 * 256 ^ n + z) (moved n (suc k) x p)

small : (n k : ℕ) (p : List ℕ) → IsOctets p → lead n k p < 256 ^ n
unfolding lead
small zero k p octets = omega arith
small (suc n) k p octets = rw (pow-suc 256 n) (mul-add-lt (get_or p k 0) (256 ^ n) (lead n (suc k) p) 256 (octets k) (small n (suc k) p octets))

then_by : (o a b : Ordering) → (o ≡ Equal → a ≡ b) → ordering_then o a ≡ ordering_then o b
then_by Less a b same = refl
then_by Equal a b same = same refl
then_by Greater a b same = refl

-- where the numbers differ, they decide
pub lead_apart : (n : ℕ) (p q : List ℕ) → IsOctets p → IsOctets q → (lead n 0 p ≡ lead n 0 q → ⊥) → nat_cmp (lead n 0 p) (lead n 0 q) ≡ sort_key_cmp p q
unfolding lead
lead_apart zero p q op oq apart = absurd (apart refl)
lead_apart (suc n) [] [] op oq apart = absurd (apart refl)
lead_apart (suc n) [] (y ∷ q) op oq apart =
    let zero_here : lead (suc n) 0 [] ≡ 0 = none (suc n) 0 in
    sym (nat_cmp_is (lead (suc n) 0 []) (lead (suc n) 0 (y ∷ q)) Less (omega (arith, zero_here, apart)))
lead_apart (suc n) (x ∷ p) [] op oq apart =
    let zero_here : lead (suc n) 0 [] ≡ 0 = none (suc n) 0 in
    sym (nat_cmp_is (lead (suc n) 0 (x ∷ p)) (lead (suc n) 0 []) Greater (omega (arith, zero_here, apart)))
lead_apart (suc n) (x ∷ p) (y ∷ q) op oq apart =
    ap₂ (λ a b. nat_cmp (x * 256 ^ n + a) (y * 256 ^ n + b)) (moved n 0 x p) (moved n 0 y q)
    ∙ digit (256 ^ n) x y (lead n 0 p) (lead n 0 q) (small n 0 p (λ k. op (suc k))) (small n 0 q (λ k. oq (suc k)))
    ∙ then_by (nat_cmp x y) (nat_cmp (lead n 0 p) (lead n 0 q)) (sort_key_cmp p q)
    (λ same. lead_apart n p q (λ k. op (suc k)) (λ k. oq (suc k))
    (λ e. apart (ap₂ (λ (a b : ℕ). a * 256 ^ n + b) (equal_numbers x y same) (moved n 0 x p ∙ e ∙ sym (moved n 0 y q)))))

-- ---- Of a text that is read from behind

octet_by : (xs : List ℕ) → IsOctets xs → (k : ℕ) → ((leb (length xs) k ≡ true) × (length xs ≤ k)) ⊎ ((leb (length xs) k ≡ false) × (k < length xs)) → get_or (reverse xs) k 0 < 256
octet_by xs octets k (inl past) =
    let at : get_or (reverse xs) k 0 ≡ 0 = get_or-eq_default (reverse xs) 0 (omega (arith, past.1, length-reverse xs)) in
    omega (arith, at)
octet_by xs octets k (inr within) =
    let at : get_or (reverse xs) k 0 ≡ get_or xs (length xs - 1 - k) 0 = get_or-reverse xs k 0 within.1 in
    omega (arith, at, octets (length xs - 1 - k))

pub octets_behind : (xs : List ℕ) → IsOctets xs → IsOctets (reverse xs)
octets_behind xs octets k = octet_by xs octets k (leb_tells (length xs) k)

-- eight octets as one number
pub lead_8 : (p : List ℕ) → lead 8 0 p ≡ get_or p 7 0 + get_or p 6 0 * 256 + get_or p 5 0 * 65536 + get_or p 4 0 * 16777216 + get_or p 3 0 * 4294967296 + get_or p 2 0 * 1099511627776 + get_or p 1 0 * 281474976710656 + get_or p 0 0 * 72057594037927936
unfolding lead
lead_8 p = omega arith

-- the last eight octets of a text as one number
pub lead_behind : (xs : List ℕ) → 8 ≤ length xs → lead 8 0 (reverse xs) ≡ get_or xs (length xs - 8) 0 + get_or xs (length xs - 7) 0 * 256 + get_or xs (length xs - 6) 0 * 65536 + get_or xs (length xs - 5) 0 * 16777216 + get_or xs (length xs - 4) 0 * 4294967296 + get_or xs (length xs - 3) 0 * 1099511627776 + get_or xs (length xs - 2) 0 * 281474976710656 + get_or xs (length xs - 1) 0 * 72057594037927936
lead_behind xs long = omega (arith, lead_8 (reverse xs), octet 0 (omega arith), octet 1 (omega arith), octet 2 (omega arith), octet 3 (omega arith), octet 4 (omega arith), octet 5 (omega arith), octet 6 (omega arith), octet 7 (omega arith))
  where
    octet : (k : ℕ) → k < length xs → get_or (reverse xs) k 0 ≡ get_or xs (length xs - suc k) 0
    octet k lt = get_or-reverse xs k 0 lt ∙ ap (λ i. get_or xs i 0) {x = length xs - 1 - k} {y = length xs - suc k} (omega arith)
