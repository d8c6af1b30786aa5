-- The first octets that a door keeps.
use Rattle.std.proofs.Common.{◌≡◌, ℕ, ◌+◌, ◌≤◌, min, List, ◌++◌, length, take, Result, Ok, Err, sym, ap, ◌∙◌, arith}
use Rattle.std.specs.Prelude.{◌↔◌, IsOk, OnOk}
use Rattle.std.proofs.lemmas.List.{take_min}
use Rattle.std.proofs.Math.Seq.{take-append-add}

pub front_kept : (xs ys : List ℕ) (room : ℕ) → room + length xs ≡ 24 → xs ++ take (min room (length ys)) ys ≡ take 24 (xs ++ ys)
front_kept xs ys room full =
    let all : length xs + room ≡ 24 = omega (arith, full) in
    ap (λ (front : List ℕ). xs ++ front) (take_min room ys) ∙ sym (take-append-add xs ys room) ∙ ap (λ n. take n (xs ++ ys)) all

-- what is taken in of a piece that fits
pub first_kept : {V E : Type 0} (result : Result V E) (xs ys piece new : List ℕ) (room count : ℕ) → room + length xs ≡ 24 → count ≡ min room (length ys)
    → piece ≡ take count ys → length piece ≡ count → (IsOk result ↔ (length xs + length piece ≤ 24)) → OnOk result (new ≡ xs ++ piece)
    → new ≡ take 24 (xs ++ ys)
first_kept (Ok value) xs ys piece new room count full least front long fits ok =
    ok ∙ ap (λ (it : List ℕ). xs ++ it) (front ∙ ap (λ n. take n ys) least) ∙ front_kept xs ys room full
first_kept (Err error) xs ys piece new room count full least front long fits ok =
    let within : length xs + length piece ≤ 24 = omega (arith, full, least, long) in
    absurd (cc (fits.1 within))
