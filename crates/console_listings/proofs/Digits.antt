-- Texts of addresses, octet by octet.
use Rattle.std.proofs.Common.{◌≡◌, ℕ, ◌+◌, ◌/◌, ◌%◌, ◌<◌, ◌≤◌, ◌^◌, List, [], ◌∷◌, ◌++◌, length, drop, flat_map, slice_index, refl, sym, ap, ◌∙◌, arith, append_assoc, decimal}
use Rattle.std.proofs.lemmas.Fmt.{decimal_digit, decimal_step}
use Rattle.std.specs.Char.{digit_char}
use Rattle.mud_base.specs.Texts.{hex_pair}
use Rattle.mud_base.proofs.Parts.{colon_pair}

pairs_of : (m : List ℕ) → length m ≡ 6 → hex_pair (slice_index m 0) ++ flat_map colon_pair (drop 1 m) ≡ digit_char (slice_index m 0 / 16) ∷ digit_char (slice_index m 0 % 16) ∷ 58 ∷ digit_char (slice_index m 1 / 16) ∷ digit_char (slice_index m 1 % 16) ∷ 58 ∷ digit_char (slice_index m 2 / 16) ∷ digit_char (slice_index m 2 % 16) ∷ 58 ∷ digit_char (slice_index m 3 / 16) ∷ digit_char (slice_index m 3 % 16) ∷ 58 ∷ digit_char (slice_index m 4 / 16) ∷ digit_char (slice_index m 4 % 16) ∷ 58 ∷ digit_char (slice_index m 5 / 16) ∷ digit_char (slice_index m 5 % 16) ∷ []
unfolding hex_pair
pairs_of (a ∷ b ∷ c ∷ d ∷ e ∷ f ∷ []) six = refl
pairs_of [] six = absurd (omega arith)
pairs_of (a ∷ []) six = absurd (omega arith)
pairs_of (a ∷ b ∷ []) six = absurd (omega arith)
pairs_of (a ∷ b ∷ c ∷ []) six = absurd (omega arith)
pairs_of (a ∷ b ∷ c ∷ d ∷ []) six = absurd (omega arith)
pairs_of (a ∷ b ∷ c ∷ d ∷ e ∷ []) six = absurd (omega arith)
pairs_of (a ∷ b ∷ c ∷ d ∷ e ∷ f ∷ g ∷ more) six = absurd (omega arith)

-- the six pairs of a hardware address with colons between them
pub mac_pairs : (m : List ℕ) → length m ≡ 6 → digit_char (slice_index m 0 / 16) ∷ digit_char (slice_index m 0 % 16) ∷ 58 ∷ digit_char (slice_index m 1 / 16) ∷ digit_char (slice_index m 1 % 16) ∷ 58 ∷ digit_char (slice_index m 2 / 16) ∷ digit_char (slice_index m 2 % 16) ∷ 58 ∷ digit_char (slice_index m 3 / 16) ∷ digit_char (slice_index m 3 % 16) ∷ 58 ∷ digit_char (slice_index m 4 / 16) ∷ digit_char (slice_index m 4 % 16) ∷ 58 ∷ digit_char (slice_index m 5 / 16) ∷ digit_char (slice_index m 5 % 16) ∷ [] ≡ hex_pair (slice_index m 0) ++ flat_map colon_pair (drop 1 m)
mac_pairs m six = sym (pairs_of m six)

two_digits : (n : ℕ) → 10 ≤ n → n < 100 → decimal n ≡ (48 + n / 10) ∷ (48 + n % 10) ∷ []
two_digits n low high = decimal_step n low (omega arith) ∙ ap (λ (front : List ℕ). front ++ (48 + n % 10) ∷ []) (decimal_digit (n / 10) (omega arith))

three_digits : (n : ℕ) → 100 ≤ n → n < 256 → decimal n ≡ (48 + n / 100) ∷ (48 + n / 10 % 10) ∷ (48 + n % 10) ∷ []
three_digits n low high =
    let hundreds : n / 10 / 10 ≡ n / 100 = omega arith in
    decimal_step n (omega arith) (omega arith)
    ∙ ap (λ (front : List ℕ). front ++ (48 + n % 10) ∷ []) (two_digits (n / 10) (omega arith) (omega arith))
    ∙ ap (λ (first : ℕ). (48 + first) ∷ (48 + n / 10 % 10) ∷ (48 + n % 10) ∷ []) hundreds

-- the digits of an octet, one behind the other
pub one_put : (s a : List ℕ) (n : ℕ) → n < 10 → a ≡ s ++ (48 + n) ∷ [] → a ≡ s ++ decimal n
one_put s a n low first = first ∙ ap (λ (digits : List ℕ). s ++ digits) (sym (decimal_digit n low))

pub two_put : (s a b : List ℕ) (n : ℕ) → 10 ≤ n → n < 100 → a ≡ s ++ (48 + n / 10) ∷ [] → b ≡ a ++ (48 + n % 10) ∷ [] → b ≡ s ++ decimal n
two_put s a b n low high first second =
    second
    ∙ ap (λ (front : List ℕ). front ++ (48 + n % 10) ∷ []) first
    ∙ append_assoc s ((48 + n / 10) ∷ []) ((48 + n % 10) ∷ [])
    ∙ ap (λ (digits : List ℕ). s ++ digits) (sym (two_digits n low high))

pub three_put : (s a b c : List ℕ) (n : ℕ) → 100 ≤ n → n < 256 → a ≡ s ++ (48 + n / 100) ∷ [] → b ≡ a ++ (48 + n / 10 % 10) ∷ [] → c ≡ b ++ (48 + n % 10) ∷ [] → c ≡ s ++ decimal n
three_put s a b c n low high first second third =
    third
    ∙ ap (λ (front : List ℕ). front ++ (48 + n % 10) ∷ []) (second ∙ ap (λ (front : List ℕ). front ++ (48 + n / 10 % 10) ∷ []) first ∙ append_assoc s ((48 + n / 100) ∷ []) ((48 + n / 10 % 10) ∷ []))
    ∙ append_assoc s ((48 + n / 100) ∷ (48 + n / 10 % 10) ∷ []) ((48 + n % 10) ∷ [])
    ∙ ap (λ (digits : List ℕ). s ++ digits) (sym (three_digits n low high))
