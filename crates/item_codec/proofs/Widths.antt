-- Numbers of 1, 2, 4 or 8 octets: what is spelled reads back, and what is read is spelled so.
use Rattle.std.proofs.Common.{◌≡◌, ℕ, ◌-◌, ◌^◌, ◌<◌, List, [], ◌∷◌, length, drop, refl, sym, ap, ◌∙◌, subst, inl, inr, arith}
use Rattle.std.specs.Int.{w16, w32, w64, to_be_bytes, from_be_bytes, bytes_high_first}
use Rattle.std.proofs.lemmas.Bool.{cases_eq}
use Rattle.std.proofs.lemmas.Bool.Decides.{nat_tests}
use Rattle.std.proofs.lemmas.Nat.{be_bytes_2, be_bytes_4, be_bytes_8, from_be_bytes-to_be_bytes_2, from_be_bytes-to_be_bytes_4, from_be_bytes-to_be_bytes_8}
use Rattle.mud_base.specs.Numbers.{IsOctets}
use Rattle.item_codec.specs.Spelling.{IsWidth, number}
use Rattle.item_codec.specs.Reading.{number_of}

-- what holds of 1, 2, 4 and 8 holds of each width
pub by_width : (P : ℕ → Type 0) → P 1 → P 2 → P 4 → P 8 → (width : ℕ) → IsWidth width → P width
by_width P one two four eight width h =
    elim (cases_eq width 1) [
      | inl e ↦ subst P (sym e) one
      | inr not_one ↦ elim (cases_eq width 2) [
        | inl e ↦ subst P (sym e) two
        | inr not_two ↦ elim (cases_eq width 4) [
          | inl e ↦ subst P (sym e) four
          | inr not_four ↦
              let e : width ≡ 8 = grind (arith, nat_tests) in
              subst P (sym e) eight
        ]
      ]
    ]

-- ---- the number that octets spell, in the library's words

same_2 : (octets : List ℕ) → length octets ≡ 2 → number_of octets ≡ from_be_bytes w16 octets
unfolding number_of
same_2 [] len = absurd (omega arith)
same_2 (a ∷ []) len = absurd (omega arith)
same_2 (a ∷ b ∷ []) len = omega arith
same_2 (a ∷ b ∷ i ∷ more) len = absurd (omega arith)

same_4 : (octets : List ℕ) → length octets ≡ 4 → number_of octets ≡ from_be_bytes w32 octets
unfolding number_of
same_4 [] len = absurd (omega arith)
same_4 (a ∷ []) len = absurd (omega arith)
same_4 (a ∷ b ∷ []) len = absurd (omega arith)
same_4 (a ∷ b ∷ c ∷ []) len = absurd (omega arith)
same_4 (a ∷ b ∷ c ∷ d ∷ []) len = omega arith
same_4 (a ∷ b ∷ c ∷ d ∷ i ∷ more) len = absurd (omega arith)

same_8 : (octets : List ℕ) → length octets ≡ 8 → number_of octets ≡ from_be_bytes w64 octets
unfolding number_of
same_8 [] len = absurd (omega arith)
same_8 (a ∷ []) len = absurd (omega arith)
same_8 (a ∷ b ∷ []) len = absurd (omega arith)
same_8 (a ∷ b ∷ c ∷ []) len = absurd (omega arith)
same_8 (a ∷ b ∷ c ∷ d ∷ []) len = absurd (omega arith)
same_8 (a ∷ b ∷ c ∷ d ∷ e ∷ []) len = absurd (omega arith)
same_8 (a ∷ b ∷ c ∷ d ∷ e ∷ f ∷ []) len = absurd (omega arith)
same_8 (a ∷ b ∷ c ∷ d ∷ e ∷ f ∷ g ∷ []) len = absurd (omega arith)
same_8 (a ∷ b ∷ c ∷ d ∷ e ∷ f ∷ g ∷ h ∷ []) len = omega arith
same_8 (a ∷ b ∷ c ∷ d ∷ e ∷ f ∷ g ∷ h ∷ i ∷ more) len = absurd (omega arith)

-- ---- both ways

again_1 : (value : ℕ) → value < 256 → number_of (number 1 value) ≡ value
unfolding number number_of
again_1 value below = omega arith

again_2 : (value : ℕ) → value < 256 ^ 2 → number_of (number 2 value) ≡ value
unfolding number
again_2 value below = same_2 (bytes_high_first 2 value) refl ∙ from_be_bytes-to_be_bytes_2 value below

again_4 : (value : ℕ) → value < 256 ^ 4 → number_of (number 4 value) ≡ value
unfolding number
again_4 value below = same_4 (bytes_high_first 4 value) refl ∙ from_be_bytes-to_be_bytes_4 value below

again_8 : (value : ℕ) → value < 256 ^ 8 → number_of (number 8 value) ≡ value
unfolding number
again_8 value below = same_8 (bytes_high_first 8 value) refl ∙ from_be_bytes-to_be_bytes_8 value below

-- the octets of a number spell it
pub number_of-number : (width value : ℕ) → IsWidth width → value < 256 ^ width → number_of (number width value) ≡ value
number_of-number width value h below =
    by_width (λ w. value < 256 ^ w → number_of (number w value) ≡ value) (again_1 value) (again_2 value) (again_4 value) (again_8 value) width h below

-- the octets that a number was read of, and its bound
pub record IsNumberOf (octets : List ℕ) (width : ℕ) : Type 0 where
  pub spelled : number width (number_of octets) ≡ octets
  pub below : number_of octets < 256 ^ width

back_1 : (octets : List ℕ) → length octets ≡ 1 → IsOctets octets → IsNumberOf octets 1
unfolding number number_of
back_1 [] len fits = absurd (omega arith)
back_1 (a ∷ []) len fits = record { spelled = ap (λ (n : ℕ). n ∷ []) (omega (arith, fits 0)); below = omega (arith, fits 0) }
back_1 (a ∷ b ∷ more) len fits = absurd (omega arith)

back_2 : (octets : List ℕ) → length octets ≡ 2 → IsOctets octets → IsNumberOf octets 2
unfolding number
back_2 octets len fits = record { spelled = be_bytes_2 octets _ len fits (same_2 octets len); below = rw (same_2 octets len) (omega (arith, fits 0, fits 1)) }

back_4 : (octets : List ℕ) → length octets ≡ 4 → IsOctets octets → IsNumberOf octets 4
unfolding number
back_4 octets len fits = record { spelled = be_bytes_4 octets _ len fits (same_4 octets len); below = rw (same_4 octets len) (omega (arith, fits 0, fits 1, fits 2, fits 3)) }

back_8 : (octets : List ℕ) → length octets ≡ 8 → IsOctets octets → IsNumberOf octets 8
unfolding number
back_8 octets len fits = record { spelled = be_bytes_8 octets _ len fits (same_8 octets len); below = rw (same_8 octets len) (omega (arith, fits 0, fits 1, fits 2, fits 3, fits 4, fits 5, fits 6, fits 7)) }

-- octets of a width are those of the number that they spell
pub number-number_of : (width : ℕ) (octets : List ℕ) → IsWidth width → length octets ≡ width → IsOctets octets → IsNumberOf octets width
number-number_of width octets h len fits =
    by_width (λ w. length octets ≡ w → IsNumberOf octets w) (λ e. back_1 octets e fits) (λ e. back_2 octets e fits) (λ e. back_4 octets e fits) (λ e. back_8 octets e fits) width h len

pub length-number : (width value : ℕ) → IsWidth width → length (number width value) ≡ width
unfolding number
length-number width value h = by_width (λ w. length (bytes_high_first w value) ≡ w) refl refl refl refl width h

-- the last octets of the eight of a number
pub low_octets : (width value : ℕ) → IsWidth width → drop (8 - width) (to_be_bytes w64 value) ≡ bytes_high_first width value
low_octets width value h = by_width (λ w. drop (8 - w) (to_be_bytes w64 value) ≡ bytes_high_first w value) refl refl refl refl width h
