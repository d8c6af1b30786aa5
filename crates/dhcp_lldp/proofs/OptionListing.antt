-- What the first octets of the options do to their listing.
use Rattle.std.proofs.Common.{◌≡◌, ◌≢◌, ℕ, suc, zero, ◌+◌, ◌<◌, ◌≤◌, List, [], ◌∷◌, length, take, drop, refl, ap, ◌∙◌, arith, add-one, ne_eqb, le-ltb, lt-ltb}
use Rattle.std.proofs.lemmas.List.{length-take-le}
use Rattle.dhcp_lldp.specs.Listings.{cut_at, with_first}
use Rattle.dhcp_lldp.specs.Options.{listing}

pub listing-skipped : (skipped offset : ℕ) (octets : List ℕ) → listing skipped offset octets ≡ listing 0 (offset + skipped) (drop skipped octets)
listing-skipped zero offset octets = ap (λ n. listing 0 n octets) (omega arith)
listing-skipped (suc skipped) offset [] = refl
listing-skipped (suc skipped) offset (octet ∷ behind) =
    listing-skipped skipped (offset + 1) behind ∙ ap (λ n. listing 0 n (drop skipped behind)) (omega arith)

pub whole_step : (code len offset : ℕ) (behind : List ℕ) → code ≢ 0 → code ≢ 255 → len ≤ length behind
    → listing 0 offset (code ∷ len ∷ behind)
    ≡ with_first (record { code = code; content = take len behind }) (listing 0 (offset + (2 + length (take len behind))) (drop len behind))
whole_step code len offset behind c0 c255 fits =
    rw (ne_eqb code 0 c0, ne_eqb code 255 c255, le-ltb (suc (length behind)) (len + 1) (omega arith), add-one len)
    (ap (with_first (record { code = code; content = take len behind }))
    (listing-skipped (suc len) (offset + 1) (len ∷ behind) ∙ ap (λ n. listing 0 n (drop len behind)) (omega (arith, length-take-le len behind fits))))

pub cut_step : (code len offset : ℕ) (behind : List ℕ) → code ≢ 0 → code ≢ 255 → length behind < len
    → listing 0 offset (code ∷ len ∷ behind) ≡ cut_at offset
cut_step code len offset behind c0 c255 short =
    rw (ne_eqb code 0 c0, ne_eqb code 255 c255, lt-ltb (suc (length behind)) (len + 1) (omega arith)) refl
