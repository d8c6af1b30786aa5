-- Numbers as octets, most significant first, at any width.
use Rattle.std.proofs.Common.{◌≡◌, ℕ, zero, suc, ◌+◌, ◌-◌, ◌*◌, ◌/◌, ◌%◌, ◌^◌, ◌<◌, List, [], ◌∷◌, length, get_or, refl, sym, ap, ap₂, ◌∙◌, arith}
use Rattle.std.specs.Int.{w128, byte_at, byte_worth, bytes_high_first, sum_through, to_be_bytes, from_be_bytes}
use Rattle.std.specs.Net.Addr.{segments_of, octets_of}
use Rattle.std.proofs.Math.Nat.{pow-suc, pow-succ', div-div-eq-div-mul}
use Rattle.std.proofs.lemmas.Nat.{div_below, div-mul-add, mod-mul-add}

byte_at_is : (i n : ℕ) → byte_at i n ≡ n / 256 ^ i % 256
byte_at_is zero n = omega arith
byte_at_is (suc i) n = refl

byte_worth_is : (i b : ℕ) → byte_worth i b ≡ b * 256 ^ i
byte_worth_is zero b = omega arith
byte_worth_is (suc i) b = refl

byte_at_lt : (i n : ℕ) → byte_at i n < 256
byte_at_lt i n = rw (byte_at_is i n) (omega arith)

pub bytes_high_first_lt : (m n i : ℕ) → get_or (bytes_high_first m n) i 0 < 256
bytes_high_first_lt zero n i = omega arith
bytes_high_first_lt (suc m) n zero = byte_at_lt m n
bytes_high_first_lt (suc m) n (suc i) = bytes_high_first_lt m n i

get_or-bytes_high_first : (m n i : ℕ) → i < m → get_or (bytes_high_first m n) i 0 ≡ byte_at (m - 1 - i) n
get_or-bytes_high_first zero n i h = absurd (omega arith)
get_or-bytes_high_first (suc m) n zero h = ap (λ j. byte_at j n) (omega arith)
get_or-bytes_high_first (suc m) n (suc i) h = get_or-bytes_high_first m n i (omega arith) ∙ ap (λ j. byte_at j n) (omega arith)

-- what the octet at an offset is worth in the number
worth_at : (m n i : ℕ) → i < m → byte_worth (m - 1 - i) (get_or (bytes_high_first m n) i 0) ≡ n / 256 ^ (m - 1 - i) % 256 * 256 ^ (m - 1 - i)
worth_at m n i h =
    ap (byte_worth (m - 1 - i)) (get_or-bytes_high_first m n i h ∙ byte_at_is (m - 1 - i) n) ∙ byte_worth_is (m - 1 - i) _

joined : (high low p : ℕ) → high * (p * 256) + low * p ≡ (high * 256 + low) * p
joined high low p = omega arith

low_and_rest : (n : ℕ) → n / 256 * 256 + n % 256 ≡ n
low_and_rest n = omega arith

-- one octet more
one_more : (n p : ℕ) → n / (p * 256) * (p * 256) + n / p % 256 * p ≡ n / p * p
one_more n p =
    ap (λ q. q * (p * 256) + n / p % 256 * p) (sym (div-div-eq-div-mul n p 256)) ∙ joined (n / p / 256) (n / p % 256) p
    ∙ ap (λ q. q * p) (low_and_rest (n / p))

first_octet : (m n : ℕ) → n < 256 ^ suc m → n / 256 ^ m % 256 ≡ n / 256 ^ m
first_octet m n fits =
    let small : n / 256 ^ m < 256 = div_below n (256 ^ m) 256 (pow_pos m) (rw (pow-succ' 256 m) at fits) in
    omega arith
  where
    pow_pos : (k : ℕ) → 0 < 256 ^ k
    pow_pos zero = omega arith
    pow_pos (suc k) = rw (pow-suc 256 k) (omega (arith, pow_pos k))

-- the octets up to an offset are worth the number without what stands behind them
front_sum : (m n k : ℕ) → k < m → n < 256 ^ m → sum_through (λ i. byte_worth (m - 1 - i) (get_or (bytes_high_first m n) i 0)) k ≡ n / 256 ^ (m - 1 - k) * 256 ^ (m - 1 - k)
front_sum zero n zero h fits = absurd (omega arith)
front_sum (suc m) n zero h fits =
    let top : suc m - 1 - 0 ≡ m = omega arith in
    worth_at (suc m) n 0 h ∙ ap (λ j. n / 256 ^ j % 256 * 256 ^ j) top ∙ ap (λ q. q * 256 ^ m) (first_octet m n fits)
    ∙ ap (λ j. n / 256 ^ j * 256 ^ j) (sym top)
front_sum m n (suc k) h fits =
    let low : ℕ = m - 1 - suc k in
    let above : m - 1 - k ≡ suc low = omega arith in
    ap₂ ◌+◌ (front_sum m n k (omega arith) fits) (worth_at m n (suc k) h)
    ∙ ap (λ p. n / p * p + n / 256 ^ low % 256 * 256 ^ low) (ap (λ j. 256 ^ j) above ∙ pow-suc 256 low) ∙ one_more n (256 ^ low)

pub from_be_bytes-to_be_bytes_16 : (n : ℕ) → n < 2 ^ 128 → from_be_bytes w128 (to_be_bytes w128 n) ≡ n
from_be_bytes-to_be_bytes_16 n fits = front_sum 16 n 15 (omega arith) fits ∙ omega arith

-- groups of two octets, taken apart again
pub octets_of-segments_of : (bs : List ℕ) → length bs % 2 ≡ 0 → ((i : ℕ) → get_or bs i 0 < 256) → octets_of (segments_of bs) ≡ bs
octets_of-segments_of [] even small = refl
octets_of-segments_of (a ∷ []) even small = absurd (omega arith)
octets_of-segments_of (a ∷ b ∷ bs) even small =
    let high : (a * 256 + b) / 256 ≡ a = div-mul-add a 256 b (small 1) in
    let low : (a * 256 + b) % 256 ≡ b = mod-mul-add a 256 b (small 1) in
    let rest = octets_of-segments_of bs (omega arith) (λ i. small (suc (suc i))) in
    λ i. high i ∷ low i ∷ rest i

pub segments_of_lt : (bs : List ℕ) → ((i : ℕ) → get_or bs i 0 < 256) → (k : ℕ) → get_or (segments_of bs) k 0 < 2 ^ 16
segments_of_lt [] small k = omega arith
segments_of_lt (a ∷ []) small k = omega arith
segments_of_lt (a ∷ b ∷ bs) small zero = omega (arith, small 0, small 1)
segments_of_lt (a ∷ b ∷ bs) small (suc k) = segments_of_lt bs (λ i. small (suc (suc i))) k
