-- Octets that are all 0, and parts of a buffer.
use Rattle.std.proofs.Common.{◌≡◌, ℕ, ◌+◌, ◌-◌, ◌≤◌, List, ◌++◌, length, take, drop, refl, sym, ap, ◌∙◌, arith, length-drop, length-take-le}
use Rattle.std.specs.Prelude.{slice_range, All, replicate}
use Rattle.std.specs.List.{copy_within}
use lib.Seq.{paste}
use Rattle.std.proofs.lemmas.List.{drop-take, drop-drop, drop-append-le, take-append-le, drop_all, take_all}
use Rattle.std.proofs.lemmas.List.Edits.{take-paste}
use Rattle.std.proofs.lemmas.List.Elements.{All-replicate}
use Rattle.mud_world.proofs.Doors.{take_further}

pub zeros_alone : (len : ℕ) → All (λ (octet : ℕ). octet ≡ 0) (replicate len 0)
zeros_alone len = All-replicate (λ (octet : ℕ). octet ≡ 0) len 0 refl

pub length-part : (xs : List ℕ) (a b : ℕ) → a ≤ b → b ≤ length xs → length (slice_range xs a b) ≡ b - a
length-part xs a b ordered within = length-take-le (b - a) (drop a xs) (omega (arith, length-drop a xs))

-- what stands behind the front of a part
pub part_rest : (xs : List ℕ) (a b n : ℕ) → a + n ≤ b → slice_range xs (a + n) b ≡ drop n (slice_range xs a b)
part_rest xs a b n fits =
    let size : b - a ≡ n + (b - (a + n)) = omega arith in
    ap (take (b - (a + n))) (sym (drop-drop n a xs)) ∙ sym (drop-take n (b - (a + n)) (drop a xs)) ∙ ap (λ k. drop n (take k (drop a xs))) (sym size)

-- a part that was moved to the front
pub part_moved : (xs : List ℕ) (a b : ℕ) → a ≤ b → b ≤ length xs → take (b - a) (copy_within xs a b 0) ≡ slice_range xs a b
part_moved xs a b ordered within =
    let same : b - a ≡ 0 + (b - a) = omega arith in
    ap (λ k. take k (paste xs 0 (drop a xs) (b - a))) same ∙ take-paste xs 0 (drop a xs) (b - a) (omega arith) (omega (arith, length-drop a xs))

-- a part that stands in front
pub part_in_front : (xs : List ℕ) (a b : ℕ) → a ≤ 0 → take (b - a) xs ≡ slice_range xs a b
part_in_front xs a b front =
    let none : a ≡ 0 = omega arith in
    ap (λ k. take (b - a) (drop k xs)) (sym none)

pub front_kept : (xs room : List ℕ) (at : ℕ) → at ≤ length xs → take at (take at xs ++ room) ≡ take at xs
front_kept xs room at within =
    let size = length-take-le at xs within in
    take-append-le at (take at xs) room (omega arith) ∙ take_all at (take at xs) (omega arith)

pub behind_front : (xs room : List ℕ) (at : ℕ) → at ≤ length xs → drop at (take at xs ++ room) ≡ room
behind_front xs room at within =
    let size = length-take-le at xs within in
    drop-append-le at (take at xs) room (omega arith) ∙ ap (λ front. front ++ room) (drop_all at (take at xs) (omega arith))

-- what the front of a buffer holds, where octets were read behind a part that was moved there
pub part_grown : (xs ys : List ℕ) (a b n : ℕ) → take (b - a) ys ≡ slice_range xs a b → slice_range ys 0 (b - a + n) ≡ slice_range xs a b ++ take n (drop (b - a) ys)
part_grown xs ys a b n front =
    let size : b - a + n - 0 ≡ b - a + n = omega arith in
    ap (λ k. take k ys) size ∙ take_further (b - a) n ys ∙ ap (λ part. part ++ take n (drop (b - a) ys)) front

-- the same, where the buffer is what was written back
pub part_filled : (xs ys written old : List ℕ) (a b n : ℕ) → written ≡ ys → take (b - a) ys ≡ slice_range xs a b → slice_range xs a b ≡ old → slice_range written 0 (b - a + n) ≡ old ++ take n (drop (b - a) ys)
part_filled xs ys written old a b n same front held =
    ap (λ octets. slice_range octets 0 (b - a + n)) same ∙ part_grown xs ys a b n front ∙ ap (λ part. part ++ take n (drop (b - a) ys)) held

-- taking octets away from the front of a part
pub part_consumed : (xs old : List ℕ) (a b n : ℕ) → a ≤ b → b ≤ length xs → slice_range xs a b ≡ old → n ≤ length old → slice_range xs (a + n) b ≡ drop n old
part_consumed xs old a b n ordered within held fits =
    part_rest xs a b n (omega (arith, length-part xs a b ordered within, ap length held)) ∙ ap (drop n) held
