-- The numbers that octets spell.
use Rattle.std.proofs.Common.{◌≡◌, ℕ, ◌+◌, ◌*◌, ◌^◌, ◌<◌, ◌≤◌, List, length, get_or, drop, refl, sym, ap, ◌∙◌, arith, drop-cons, add-one, lit<}
use Rattle.std.proofs.Math.Nat.{pow-le-pow_right, pow-suc}
use Rattle.std.proofs.Math.ListN.{drop_of_length-le}
use Rattle.std.proofs.lemmas.Bool.Decides.{nat_tests}
use Rattle.item_codec.specs.Spelling.{IsWidth}
use Rattle.item_codec.specs.Reading.{number_behind, number_of}

-- behind less than eight octets one more has room
pub number_fits : (n i octet : ℕ) → i < 8 → n < 256 ^ i → octet < 256 → n * 256 + octet < 2 ^ 64
number_fits n i octet few below small =
    let seven : i ≤ 7 = omega arith in
    let most : 256 ^ i ≤ 256 ^ 7 = pow-le-pow_right {n = 256} (lit< tt) {i = i} {j = 7} seven in
    omega arith

pub number_grows : (n i octet : ℕ) → n < 256 ^ i → octet < 256 → n * 256 + octet < 256 ^ (i + 1)
number_grows n i octet below small = rw (add-one, pow-suc) (omega arith)

-- one octet more, at an index
pub number_step : (n : ℕ) (octets : List ℕ) (i : ℕ) → i < length octets → number_behind n (drop i octets) ≡ number_behind (n * 256 + get_or octets i 0) (drop (i + 1) octets)
number_step n octets i here = ap (number_behind n) (drop-cons octets i 0 here) ∙ ap (λ k. number_behind (n * 256 + get_or octets i 0) (drop k octets)) (sym (add-one i))

pub number_end : (n : ℕ) (octets : List ℕ) (i : ℕ) → length octets ≤ i → number_behind n (drop i octets) ≡ n
number_end n octets i over = ap (number_behind n) (drop_of_length-le octets over)

pub number_start : (octets : List ℕ) → number_of octets ≡ number_behind 0 octets
unfolding number_of
number_start octets = refl

-- a width is at most 8
pub width_le : (width : ℕ) → IsWidth width → width ≤ 8
width_le width h = grind (arith, nat_tests)
