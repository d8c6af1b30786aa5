-- The texts of hardware addresses, written and read back.
use Rattle.std.proofs.Common.{◌≡◌, ℕ, ◌+◌, ◌*◌, ◌/◌, ◌%◌, ◌^◌, ◌<◌, List, [], ◌∷◌, length, get_or, Some, None, cond, refl, ap, ◌∙◌, arith, ltb, lt-ltb}
use Rattle.std.specs.Char.{digit_char, digit_value}
use Rattle.std.proofs.lemmas.Str.{digit_value-digit_char}
use Rattle.mud_base.specs.declared.addr.Mac.{Mac}
use Rattle.mud_base.specs.Texts.{hex_pair, mac_text}
use Rattle.mud_base.specs.Reading.{hex_value, octet_at, mac_in}

six_items : (xs : List ℕ) → length xs ≡ 6 → xs ≡ get_or xs 0 0 ∷ get_or xs 1 0 ∷ get_or xs 2 0 ∷ get_or xs 3 0 ∷ get_or xs 4 0 ∷ get_or xs 5 0 ∷ []
six_items [] l = absurd (omega arith)
six_items (a ∷ []) l = absurd (omega arith)
six_items (a ∷ b ∷ []) l = absurd (omega arith)
six_items (a ∷ b ∷ c ∷ []) l = absurd (omega arith)
six_items (a ∷ b ∷ c ∷ d ∷ []) l = absurd (omega arith)
six_items (a ∷ b ∷ c ∷ d ∷ e ∷ []) l = absurd (omega arith)
six_items (a ∷ b ∷ c ∷ d ∷ e ∷ f ∷ []) l = refl
six_items (a ∷ b ∷ c ∷ d ∷ e ∷ f ∷ g ∷ xs) l = absurd (omega arith)

hex_value-digit_char : (d : ℕ) → d < 16 → hex_value (digit_char d) ≡ Some d
unfolding hex_value
hex_value-digit_char d small =
    let value : digit_value (digit_char d) ≡ d = digit_value-digit_char d (omega arith) in
    ap (λ v. cond (ltb v 16) (Some v) None) value ∙ ap (λ b. cond b (Some d) None) (lt-ltb d 16 small)

-- two hex digits of an octet spell it
octet_at-digits : (text : List ℕ) (offset octet : ℕ) → octet < 2 ^ 8 → get_or text offset 0 ≡ digit_char (octet / 16) → get_or text (offset + 1) 0 ≡ digit_char (octet % 16) → octet_at text offset ≡ Some octet
unfolding octet_at
octet_at-digits text offset octet small high low =
    let whole : octet / 16 * 16 + octet % 16 ≡ octet = omega arith in
    rw (high, low, hex_value-digit_char (octet / 16) (omega arith), hex_value-digit_char (octet % 16) (omega arith)) (ap Some whole)

mac_in-octets : (a b c d e f : ℕ) → a < 2 ^ 8 → b < 2 ^ 8 → c < 2 ^ 8 → d < 2 ^ 8 → e < 2 ^ 8 → f < 2 ^ 8 → mac_in (mac_text (record { 0 = a ∷ b ∷ c ∷ d ∷ e ∷ f ∷ [] })) ≡ Some (record { 0 = a ∷ b ∷ c ∷ d ∷ e ∷ f ∷ [] })
unfolding mac_in mac_text hex_pair
mac_in-octets a b c d e f a' b' c' d' e' f' =
    let text : List ℕ = mac_text (record { 0 = a ∷ b ∷ c ∷ d ∷ e ∷ f ∷ [] }) in
    rw (
      octet_at-digits text 0 a a' refl refl,
      octet_at-digits text 3 b b' refl refl,
      octet_at-digits text 6 c c' refl refl,
      octet_at-digits text 9 d d' refl refl,
      octet_at-digits text 12 e e' refl refl,
      octet_at-digits text 15 f f' refl refl,
    ) refl

pub mac_in-mac_text : (mac : Mac) → length mac.0 ≡ 6 → ((i : ℕ) → get_or mac.0 i 0 < 2 ^ 8) → mac_in (mac_text mac) ≡ Some mac
mac_in-mac_text mac six small =
    let items = six_items mac.0 six in
    let Holds : List ℕ → Type 0 = λ xs. mac_in (mac_text (record { 0 = xs })) ≡ Some (record { 0 = xs }) in
    rw items (mac_in-octets _ _ _ _ _ _ (small 0) (small 1) (small 2) (small 3) (small 4) (small 5))
