-- Extension headers of IPv6 one after the other.
use Rattle.std.proofs.Common.{◌≡◌, ℕ, suc, zero, ◌-◌, ◌<◌, ◌≤◌, true, false, List, length, drop, slice_index, Ok, Err, arith, refl}
use Rattle.std.proofs.lemmas.Bool.Decides.{nat_tests}
use Rattle.frame_view.specs.declared.views.Part.TheVariants as part
use Rattle.frame_view.specs.Ipv6.{is_extension, extension_len, is_cut, is_later_fragment, upper_layer, upper_behind}
use Rattle.frame_view.proofs.Parts.{later_part}

pub extension_long : (number : ℕ) (octets : List ℕ) → 8 ≤ extension_len number octets
unfolding extension_len
extension_long number octets = grind (arith, nat_tests)

pub extension_within : (number : ℕ) (octets : List ℕ) → is_cut number octets ≡ false → extension_len number octets ≤ length octets
unfolding is_cut
extension_within number octets whole = grind (arith, nat_tests)

pub behind_end : (left number : ℕ) (octets : List ℕ) → is_extension number ≡ false → upper_behind left number octets ≡ upper_layer number octets
unfolding upper_behind
behind_end zero number octets other = rw other refl
behind_end (suc left) number octets other = rw other refl

pub behind_ninth : (left number : ℕ) (octets : List ℕ) → left ≡ 0 → is_extension number ≡ true → upper_behind left number octets ≡ Err part.Extension
unfolding upper_behind
behind_ninth zero number octets none extension = rw extension refl
behind_ninth (suc left) number octets none extension = absurd (omega arith)

pub behind_cut : (left number : ℕ) (octets : List ℕ) → is_extension number ≡ true → is_cut number octets ≡ true → upper_behind left number octets ≡ Err part.Extension
unfolding upper_behind
behind_cut zero number octets extension cut = rw extension refl
behind_cut (suc left) number octets extension cut = rw (extension, cut) refl

pub behind_later : (left number : ℕ) (octets : List ℕ) → 0 < left → is_extension number ≡ true → is_cut number octets ≡ false → is_later_fragment number octets ≡ true → upper_behind left number octets ≡ Ok (later_part (slice_index octets 0))
unfolding upper_behind
behind_later zero number octets some extension whole later = absurd (omega arith)
behind_later (suc left) number octets some extension whole later = rw (extension, whole, later) refl

pub behind_more : (left number : ℕ) (octets : List ℕ) → 0 < left → is_extension number ≡ true → is_cut number octets ≡ false → is_later_fragment number octets ≡ false → upper_behind left number octets ≡ upper_behind (left - 1) (slice_index octets 0) (drop (extension_len number octets) octets)
unfolding upper_behind
behind_more zero number octets some extension whole first = absurd (omega arith)
behind_more (suc left) number octets some extension whole first =
    let less : suc left - 1 ≡ left = omega arith in rw (less, extension, whole, first) refl
