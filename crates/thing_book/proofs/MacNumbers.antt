-- Hardware addresses stand to one another as the numbers do that their octets spell.
use Rattle.std.proofs.Common.{◌≡◌, ℕ, ◌+◌, ◌*◌, ◌<◌, List, [], ◌∷◌, length, get_or, refl, sym, ap, ap₂, ◌∙◌, arith}
use Rattle.std.specs.Int.{w64, from_be_bytes}
use Rattle.std.specs.Ordering.{nat_cmp, ordering_then}
use Rattle.std.specs.declared.cmp.Ordering.{Ordering}
use Rattle.std.specs.declared.cmp.Ordering.TheVariants.{Less, Equal, Greater}
use Rattle.std.specs.Cmp.{nat_cmp_is}
use Rattle.std.proofs.lemmas.Cmp.{ranked}
use Rattle.std.proofs.lemmas.Nat.{mul-add-lt}
use Rattle.base_rows.specs.Sortable.{sort_key_cmp}
use Rattle.base_rows.proofs.Orders.{then_equal}

same_first : (h a b : ℕ) (o : Ordering) → o ≡ nat_cmp a b → nat_cmp (h + a) (h + b) ≡ o
same_first h a b Less is = let lt : a < b = ranked a b Less is in sym (nat_cmp_is (h + a) (h + b) Less (omega (arith, lt)))
same_first h a b Equal is = let same : a ≡ b = ranked a b Equal is in sym (nat_cmp_is (h + a) (h + b) Equal (omega (arith, same)))
same_first h a b Greater is = let gt : b < a = ranked a b Greater is in sym (nat_cmp_is (h + a) (h + b) Greater (omega (arith, gt)))

first_by : (w x y a b : ℕ) → a < w → b < w → (o : Ordering) → o ≡ nat_cmp x y → nat_cmp (x * w + a) (y * w + b) ≡ ordering_then o (nat_cmp a b)
first_by w x y a b p q Less is =
    let lt : x < y = ranked x y Less is in
    sym (nat_cmp_is (x * w + a) (y * w + b) Less (omega (arith, mul-add-lt x w a y lt p)))
first_by w x y a b p q Equal is =
    let same : x ≡ y = ranked x y Equal is in
    ap (λ z. nat_cmp (x * w + a) (z * w + b)) (sym same) ∙ same_first (x * w) a b (nat_cmp a b) refl
first_by w x y a b p q Greater is =
    let gt : y < x = ranked x y Greater is in
    sym (nat_cmp_is (x * w + a) (y * w + b) Greater (omega (arith, mul-add-lt y w b x gt q)))

-- the first octets decide, and then what stands behind them
first : (w x y a b : ℕ) → a < w → b < w → nat_cmp (x * w + a) (y * w + b) ≡ ordering_then (nat_cmp x y) (nat_cmp a b)
first w x y a b p q = first_by w x y a b p q (nat_cmp x y) refl

abbrev pub spelled : List ℕ → ℕ
spelled p = from_be_bytes w64 (0 ∷ 0 ∷ p)

-- the number from its first octet on
low_first : (p : List ℕ) → spelled p ≡ get_or p 0 0 * 1099511627776 + (get_or p 1 0 * 4294967296 + (get_or p 2 0 * 16777216 + (get_or p 3 0 * 65536 + (get_or p 4 0 * 256 + get_or p 5 0))))
low_first p = omega arith

six : (a b c d e f a' b' c' d' e' f' : ℕ) → b < 256 → c < 256 → d < 256 → e < 256 → f < 256 → b' < 256 → c' < 256 → d' < 256 → e' < 256 → f' < 256
    → nat_cmp (a * 1099511627776 + (b * 4294967296 + (c * 16777216 + (d * 65536 + (e * 256 + f))))) (a' * 1099511627776 + (b' * 4294967296 + (c' * 16777216 + (d' * 65536 + (e' * 256 + f')))))
    ≡ sort_key_cmp (a ∷ b ∷ c ∷ d ∷ e ∷ f ∷ []) (a' ∷ b' ∷ c' ∷ d' ∷ e' ∷ f' ∷ [])
six a b c d e f a' b' c' d' e' f' b< c< d< e< f< b'< c'< d'< e'< f'< =
    first 1099511627776 a a' (b * 4294967296 + (c * 16777216 + (d * 65536 + (e * 256 + f)))) (b' * 4294967296 + (c' * 16777216 + (d' * 65536 + (e' * 256 + f')))) (omega arith) (omega arith)
    ∙ ap (ordering_then (nat_cmp a a')) (first 4294967296 b b' (c * 16777216 + (d * 65536 + (e * 256 + f))) (c' * 16777216 + (d' * 65536 + (e' * 256 + f'))) (omega arith) (omega arith)
    ∙ ap (ordering_then (nat_cmp b b')) (first 16777216 c c' (d * 65536 + (e * 256 + f)) (d' * 65536 + (e' * 256 + f')) (omega arith) (omega arith)
    ∙ ap (ordering_then (nat_cmp c c')) (first 65536 d d' (e * 256 + f) (e' * 256 + f') (omega arith) (omega arith)
    ∙ ap (ordering_then (nat_cmp d d')) (first 256 e e' f f' f< f'< ∙ ap (ordering_then (nat_cmp e e')) (sym (then_equal (nat_cmp f f')))))))

six_octets : (p : List ℕ) → length p ≡ 6 → get_or p 0 0 ∷ get_or p 1 0 ∷ get_or p 2 0 ∷ get_or p 3 0 ∷ get_or p 4 0 ∷ get_or p 5 0 ∷ [] ≡ p
six_octets [] long = absurd (omega arith)
six_octets (a ∷ []) long = absurd (omega arith)
six_octets (a ∷ b ∷ []) long = absurd (omega arith)
six_octets (a ∷ b ∷ c ∷ []) long = absurd (omega arith)
six_octets (a ∷ b ∷ c ∷ d ∷ []) long = absurd (omega arith)
six_octets (a ∷ b ∷ c ∷ d ∷ e ∷ []) long = absurd (omega arith)
six_octets (a ∷ b ∷ c ∷ d ∷ e ∷ f ∷ []) long = refl
six_octets (a ∷ b ∷ c ∷ d ∷ e ∷ f ∷ g ∷ p) long = absurd (omega arith)

pub mac_cmp : (p q : List ℕ) → length p ≡ 6 → length q ≡ 6 → ((k : ℕ) → get_or p k 0 < 256) → ((k : ℕ) → get_or q k 0 < 256) → nat_cmp (spelled p) (spelled q) ≡ sort_key_cmp p q
mac_cmp p q lp lq op oq =
    ap₂ nat_cmp (low_first p) (low_first q)
    ∙ six (get_or p 0 0) (get_or p 1 0) (get_or p 2 0) (get_or p 3 0) (get_or p 4 0) (get_or p 5 0) (get_or q 0 0) (get_or q 1 0) (get_or q 2 0) (get_or q 3 0) (get_or q 4 0) (get_or q 5 0)
    (op 1) (op 2) (op 3) (op 4) (op 5) (oq 1) (oq 2) (oq 3) (oq 4) (oq 5)
    ∙ ap₂ sort_key_cmp (six_octets p lp) (six_octets q lq)
