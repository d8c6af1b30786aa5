-- A frame in which the type of IPv4 stands first has no tag.
use Rattle.std.proofs.Common.{◌≡◌, ℕ, ◌≤◌, Bool, true, false, ◌&&◌, ◌||◌, ◌==◌, nat_le, nat_lt, List, length, drop, None, Ok, Err, if◌then◌else◌, refl, sym, ap, ◌∙◌, arith}
use Rattle.frame_view.specs.declared.views.Part.TheVariants as part
use Rattle.frame_view.specs.Ipv4 as ipv4
use Rattle.frame_view.specs.Ipv6 as ipv6
use Rattle.frame_view.specs.Carried.{first_type, is_tag, past_tag, by_type, carried}

no_tag : (typed : List ℕ) → first_type typed ≡ 0x0800 → is_tag typed ≡ false
unfolding is_tag
no_tag typed plain = ap (λ (kind : ℕ). nat_le 2 (length typed) && (kind == 0x8100 || kind == 0x88A8)) plain ∙ and_false (nat_le 2 (length typed))
  where
    and_false : (b : Bool) → (b && false) ≡ false
    and_false true = refl
    and_false false = refl

no_past : (typed : List ℕ) → is_tag typed ≡ false → past_tag typed ≡ typed
unfolding past_tag
no_past typed none = ap (λ (b : Bool). if b then (drop 4 typed) else typed) none

by_plain : (typed : List ℕ) → first_type typed ≡ 0x0800 → by_type typed ≡ ipv4.packet_of (drop 2 typed)
unfolding by_type
by_plain typed plain = ap (λ (kind : ℕ). if kind == 0x0800 then (ipv4.packet_of (drop 2 typed)) else (if kind == 0x86DD then (ipv6.packet_of (drop 2 typed)) else (Ok None))) plain

not_short : (n : ℕ) → 2 ≤ n → nat_lt n 2 ≡ false
not_short n long = grind arith

carried_by : (typed : List ℕ) → past_tag (past_tag typed) ≡ typed → nat_lt (length typed) 2 ≡ false → is_tag typed ≡ false → carried typed ≡ by_type typed
unfolding carried
carried_by typed past long none =
    ap (λ (inner : List ℕ). if nat_lt (length inner) 2 || is_tag inner then (Err part.Tag) else (by_type inner)) past
    ∙ ap (λ (b : Bool). if b || is_tag typed then (Err part.Tag) else (by_type typed)) long
    ∙ ap (λ (b : Bool). if false || b then (Err part.Tag) else (by_type typed)) none

pub plain_carried : (typed : List ℕ) → 2 ≤ length typed → first_type typed ≡ 0x0800 → ipv4.packet_of (drop 2 typed) ≡ carried typed
plain_carried typed long plain =
    let none = no_tag typed plain in
    let once = no_past typed none in
    sym (carried_by typed (ap past_tag once ∙ once) (not_short (length typed) long) none ∙ by_plain typed plain)
