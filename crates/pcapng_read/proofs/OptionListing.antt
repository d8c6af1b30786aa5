-- What the first octets of the options do to their listing.
use Rattle.std.proofs.Common.{◌≡◌, ◌≢◌, ℕ, suc, zero, ◌+◌, ◌<◌, ◌≤◌, ltb, List, [], ◌∷◌, length, take, drop, refl, sym, ap, ◌∙◌, arith, ne_eqb, le-ltb, lt-ltb}
use Rattle.std.proofs.lemmas.List.{drop-drop}
use Rattle.std.proofs.Math.Bool.{or-true}
use Rattle.mud_base.specs.Numbers.{number_16}
use Rattle.mud_base.specs.declared.number.ByteOrder.{ByteOrder}
use Rattle.pcapng_read.specs.Options.{options_from, no_more, beyond, with_option}
use Rattle.pcapng_read.proofs.Parts.{filled}

options_skipped : (order : ByteOrder) (skipped : ℕ) (octets : List ℕ) → options_from order skipped octets ≡ options_from order 0 (drop skipped octets)
unfolding options_from
options_skipped order zero octets = refl
options_skipped order (suc skipped) [] = refl
options_skipped order (suc skipped) (octet ∷ behind) = options_skipped order skipped behind

pub short_step : (order : ByteOrder) (octets : List ℕ) → length octets < 4 → options_from order 0 octets ≡ no_more
unfolding options_from
short_step order [] short = refl
short_step order (octet ∷ behind) short = rw (lt-ltb (length (octet ∷ behind)) 4 short) refl

pub end_step : (order : ByteOrder) (octets : List ℕ) (code : ℕ) → code ≡ number_16 order 0 octets → code ≡ 0 → options_from order 0 octets ≡ no_more
unfolding options_from
end_step order [] code is end = refl
end_step order (octet ∷ behind) code is end =
    let none : number_16 order 0 (octet ∷ behind) ≡ 0 = cc in
    rw (none, or-true (ltb (length (octet ∷ behind)) 4)) refl

pub beyond_step : (order : ByteOrder) (octets : List ℕ) (code len : ℕ) → 4 ≤ length octets → code ≡ number_16 order 0 octets → code ≢ 0 → len ≡ number_16 order 2 octets → length octets < 4 + len
    → options_from order 0 octets ≡ beyond
unfolding options_from
beyond_step order [] code len enough is some size short = absurd (omega arith)
beyond_step order (octet ∷ behind) code len enough is some size short =
    let long : length (octet ∷ behind) < 4 + number_16 order 2 (octet ∷ behind) = omega (arith, size) in
    let other : number_16 order 0 (octet ∷ behind) ≢ 0 = λ e. some (is ∙ e) in
    rw (le-ltb (length (octet ∷ behind)) 4 enough, ne_eqb (number_16 order 0 (octet ∷ behind)) 0 other, lt-ltb (length (octet ∷ behind)) (4 + number_16 order 2 (octet ∷ behind)) long) refl

pub whole_step : (order : ByteOrder) (octets : List ℕ) (code len : ℕ) → 4 ≤ length octets → code ≡ number_16 order 0 octets → code ≢ 0 → len ≡ number_16 order 2 octets → 4 + len ≤ length octets
    → options_from order 0 octets ≡ with_option (record { code = code; content = take len (drop 4 octets) }) (options_from order 0 (drop (filled len) (drop 4 octets)))
unfolding options_from
whole_step order [] code len enough is some size fits = absurd (omega arith)
whole_step order (octet ∷ behind) code len enough is some size fits =
    let all = octet ∷ behind in
    let within : 4 + number_16 order 2 all ≤ length all = omega (arith, size) in
    let other : number_16 order 0 all ≢ 0 = λ e. some (is ∙ e) in
    rw (size, is, le-ltb (length all) 4 enough, ne_eqb (number_16 order 0 all) 0 other, le-ltb (length all) (4 + number_16 order 2 all) within)
    (ap (with_option (record { code = number_16 order 0 all; content = take (number_16 order 2 all) (drop 4 all) })) (options_skipped order (3 + filled (number_16 order 2 all)) behind ∙ ap (options_from order 0) (sym (drop-drop (filled (number_16 order 2 all)) 3 behind))))
