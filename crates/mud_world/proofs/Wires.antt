-- Laws of the octets that are left of a connection's pieces.
use Rattle.std.proofs.Common.{◌≡◌, ℕ, ◌+◌, ◌-◌, ◌<◌, ◌≤◌, List, [], ◌∷◌, ◌++◌, length, take, drop, get_or, refl, sym, ap, ◌∙◌, inl, inr, arith, length-drop}
use Rattle.std.specs.List.{concat}
use Rattle.std.proofs.lemmas.List.{drop-append-le, take-append-le, drop_at, drop-drop, drop_more}
use Rattle.std.proofs.Math.Seq.{drop-nil}
use Rattle.std.proofs.lemmas.Bool.{cases_lt}
use Rattle.std.proofs.lemmas.Bool.Decides.{nat_tests}
use Rattle.mud_world.specs.Wire.{left_of, rest_of}

-- octets behind a front
pub drop_past : (p q : List ℕ) (n : ℕ) → length p ≤ n → drop n (p ++ q) ≡ drop (n - length p) q
drop_past p q n h =
    ap (λ k. drop k (p ++ q)) (let e : n ≡ length p + (n - length p) = omega arith in e)
    ∙ sym (drop-drop (n - length p) (length p) (p ++ q)) ∙ ap (drop (n - length p)) (drop_at p q (length p) refl)

-- a piece that was taken whole is passed by
pub left_past : (p : List ℕ) (ps : List (List ℕ)) (n : ℕ) → length p ≤ n → left_of n (p ∷ ps) ≡ left_of (n - length p) ps
left_past p ps n h = drop_past p (concat ps) n h

pub rest_past : (p : List ℕ) (ps : List (List ℕ)) (n : ℕ) → length p ≤ n → rest_of n (p ∷ ps) ≡ rest_of (n - length p) ps
rest_past p ps n h = grind (arith, nat_tests)

pub rest_here : (p : List ℕ) (ps : List (List ℕ)) (n : ℕ) → n < length p → rest_of n (p ∷ ps) ≡ drop n p
rest_here p ps n h = grind (arith, nat_tests)

-- pieces from an index on
pieces_from : (pieces : List (List ℕ)) (i : ℕ) (p : List ℕ) → i < length pieces → p ≡ get_or pieces i p → drop i pieces ≡ p ∷ drop (i + 1) pieces
pieces_from pieces i p h e = drop_more pieces i p h ∙ ap (λ (q : List ℕ). q ∷ drop (i + 1) pieces) (sym e)

-- the same, for the piece at an index
pub left_on : (pieces : List (List ℕ)) (i n len : ℕ) (p : List ℕ) → i < length pieces → p ≡ get_or pieces i p → len ≡ length p → len ≤ n → left_of (n - len) (drop (i + 1) pieces) ≡ left_of n (drop i pieces)
left_on pieces i n len p h e same within =
    let past : length p ≤ n = omega arith in
    ap (λ (k : ℕ). left_of (n - k) (drop (i + 1) pieces)) same ∙ sym (ap (left_of n) (pieces_from pieces i p h e) ∙ left_past p (drop (i + 1) pieces) n past)

pub rest_on : (pieces : List (List ℕ)) (i n len : ℕ) (p : List ℕ) → i < length pieces → p ≡ get_or pieces i p → len ≡ length p → len ≤ n → rest_of (n - len) (drop (i + 1) pieces) ≡ rest_of n (drop i pieces)
rest_on pieces i n len p h e same within =
    let past : length p ≤ n = omega arith in
    ap (λ (k : ℕ). rest_of (n - k) (drop (i + 1) pieces)) same ∙ sym (ap (rest_of n) (pieces_from pieces i p h e) ∙ rest_past p (drop (i + 1) pieces) n past)

pub rest_at : (pieces : List (List ℕ)) (i n : ℕ) (p : List ℕ) → i < length pieces → p ≡ get_or pieces i p → n < length p → rest_of n (drop i pieces) ≡ drop n p
rest_at pieces i n p h e within = ap (rest_of n) (pieces_from pieces i p h e) ∙ rest_here p (drop (i + 1) pieces) n within

-- a front of the first piece that has octets left is a front of all that is left
pub front_of_left : (n offset : ℕ) (ps : List (List ℕ)) → n ≤ length (rest_of offset ps) → take n (rest_of offset ps) ≡ take n (left_of offset ps)
front_of_left n offset [] h = ap (take n) (sym (drop-nil {A = ℕ} offset))
front_of_left n offset (p ∷ ps) h =
    let more = front_of_left n (offset - length p) ps in
    elim (cases_lt offset (length p)) [
      | inl within ↦
          let here = rest_here p ps offset within in
          ap (take n) here ∙ sym (ap (take n) (drop-append-le offset p (concat ps) (omega arith)) ∙ take-append-le n (drop offset p) (concat ps) (omega (arith, ap length here)))
      | inr past ↦
          let on = rest_past p ps offset past in
          ap (take n) on ∙ more (omega (arith, ap length on)) ∙ ap (take n) (sym (left_past p ps offset past))
    ]

-- where no piece has octets left, none are left
pub none_left : (offset : ℕ) (ps : List (List ℕ)) → length (rest_of offset ps) ≡ 0 → left_of offset ps ≡ []
none_left offset [] h = drop-nil offset
none_left offset (p ∷ ps) h =
    let more = none_left (offset - length p) ps in
    elim (cases_lt offset (length p)) [
      | inl within ↦ absurd (omega (arith, ap length (rest_here p ps offset within), length-drop offset p))
      | inr past ↦ left_past p ps offset past ∙ more (omega (arith, ap length (rest_past p ps offset past)))
    ]
