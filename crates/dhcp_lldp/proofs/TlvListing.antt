-- What the first octets of the TLVs do to their listing.
use Rattle.std.proofs.Common.{◌≡◌, ◌≢◌, ℕ, suc, zero, ◌+◌, ◌*◌, ◌/◌, ◌%◌, ◌<◌, ◌≤◌, List, [], ◌∷◌, length, take, drop, refl, ap, ◌∙◌, arith, add-one, ne_eqb, eq-eqb, le-ltb, lt-ltb}
use Rattle.std.proofs.lemmas.List.{length-take-le}
use Rattle.dhcp_lldp.specs.Listings.{no_more, cut_at, with_first}
use Rattle.dhcp_lldp.specs.Tlvs.{listing}

pub listing-skipped : (skipped offset : ℕ) (octets : List ℕ) → listing skipped offset octets ≡ listing 0 (offset + skipped) (drop skipped octets)
listing-skipped zero offset octets = ap (λ n. listing 0 n octets) (omega arith)
listing-skipped (suc skipped) offset [] = refl
listing-skipped (suc skipped) offset (octet ∷ behind) =
    listing-skipped skipped (offset + 1) behind ∙ ap (λ n. listing 0 n (drop skipped behind)) (omega arith)

pub whole_step : (header low len offset : ℕ) (behind : List ℕ) → header / 2 ≢ 0 → len ≡ 256 * (header % 2) + low → len ≤ length behind
    → listing 0 offset (header ∷ low ∷ behind)
    ≡ with_first (record { kind = header / 2; content = take len behind }) (listing 0 (offset + (2 + length (take len behind))) (drop len behind))
whole_step header low len offset behind k is fits =
    rw (← is, ne_eqb (header / 2) 0 k, le-ltb (suc (length behind)) (len + 1) (omega arith), add-one len)
    (ap (with_first (record { kind = header / 2; content = take len behind }))
    (listing-skipped (suc len) (offset + 1) (low ∷ behind)
    ∙ ap (λ n. listing 0 n (drop len behind)) (omega (arith, length-take-le len behind fits))))

pub last_step : (header low len offset : ℕ) (behind : List ℕ) → header / 2 ≡ 0 → len ≡ 256 * (header % 2) + low → len ≤ length behind
    → listing 0 offset (header ∷ low ∷ behind) ≡ with_first (record { kind = header / 2; content = take len behind }) no_more
last_step header low len offset behind k is fits =
    rw (← is, eq-eqb (header / 2) 0 k, le-ltb (suc (length behind)) (len + 1) (omega arith), add-one len) refl

pub cut_step : (header low len offset : ℕ) (behind : List ℕ) → len ≡ 256 * (header % 2) + low → length behind < len
    → listing 0 offset (header ∷ low ∷ behind) ≡ cut_at offset
cut_step header low len offset behind is short = rw (← is, lt-ltb (suc (length behind)) (len + 1) (omega arith)) refl
