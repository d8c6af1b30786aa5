-- A text of a hardware address is the written one, but for the case of its letters.
use Rattle.std.proofs.Common.{◌≡◌, ℕ, ◌+◌, ◌*◌, ◌/◌, ◌%◌, ◌<◌, List, [], ◌∷◌, length, get_or, Option, Some, None, Bool, true, false, cond, ◌&&◌, refl, sym, ap, ◌∙◌, arith, ltb, map, eqb, eqb-true, IfSome}
use Rattle.std.specs.Char.{digit_char, digit_value, to_ascii_lowercase}
use Rattle.std.specs.Str.{str_to_ascii_lowercase}
use Rattle.std.proofs.lemmas.Bool.{and_parts, ltb-true}
use Rattle.std.proofs.lemmas.Bool.Decides.{nat_tests}
use Rattle.std.proofs.lemmas.Option.{cond_some, none-some, option_and_then_some, same_Some}
use Rattle.std.proofs.lemmas.Nat.{div-mul-add, mod-mul-add}
use Rattle.std.proofs.lemmas.Slice.Eq.{text_from_reads}
use Rattle.mud_base.specs.declared.addr.Mac.{Mac}
use Rattle.mud_base.specs.Texts.{hex_pair, mac_text}
use Rattle.mud_base.specs.Reading.{hex_value, octet_at, mac_in}
use Rattle.mud_base.proofs.Parts.{has_mac_colons}

lowered_digit : (c : ℕ) → digit_value c < 16 → to_ascii_lowercase c ≡ digit_char (digit_value c)
lowered_digit c small = grind (arith, nat_tests)

lowered-hex_value : (c d : ℕ) → hex_value c ≡ Some d → (d < 16) × (to_ascii_lowercase c ≡ digit_char d)
unfolding hex_value
lowered-hex_value c d e =
    let (below, is) = cond_some (ltb (digit_value c) 16) (digit_value c) d e in
    let small : digit_value c < 16 = ltb-true _ _ below in
    (rw is at small, lowered_digit c small ∙ ap digit_char is)

-- the lowered digits at an offset are those of the octet
record LowersTo (text : List ℕ) (offset octet : ℕ) : Type 0 where
  high : to_ascii_lowercase (get_or text offset 0) ≡ digit_char (octet / 16)
  low : to_ascii_lowercase (get_or text (offset + 1) 0) ≡ digit_char (octet % 16)

octet_at_lowers : (text : List ℕ) (offset octet : ℕ) → octet_at text offset ≡ Some octet → LowersTo text offset octet
unfolding octet_at
octet_at_lowers text offset octet e =
    option_and_then_some _ (hex_value (get_or text offset 0)) octet e λ h is_high e'.
    option_and_then_some _ (hex_value (get_or text (offset + 1) 0)) octet e' λ l is_low e''.
    let whole : h * 16 + l ≡ octet = same_Some _ _ e'' in
    let (h_small, high) = lowered-hex_value _ h is_high in
    let (l_small, low) = lowered-hex_value _ l is_low in
    record {
      high = high ∙ ap digit_char (sym (div-mul-add h 16 l l_small) ∙ ap (λ o. o / 16) whole);
      low = low ∙ ap digit_char (sym (mod-mul-add h 16 l l_small) ∙ ap (λ o. o % 16) whole);
    }

if_some : {A : Type 0} (b : Bool) (o : Option A) (x : A) → cond b o None ≡ Some x → (b ≡ true) × (o ≡ Some x)
if_some true o x e = (refl, e)
if_some false o x e = absurd (none-some x e)

-- the colons, lowered
record HasColons (text : List ℕ) : Type 0 where
  first : to_ascii_lowercase (get_or text 2 0) ≡ 58
  second : to_ascii_lowercase (get_or text 5 0) ≡ 58
  third : to_ascii_lowercase (get_or text 8 0) ≡ 58
  fourth : to_ascii_lowercase (get_or text 11 0) ≡ 58
  fifth : to_ascii_lowercase (get_or text 14 0) ≡ 58

colon : (c : ℕ) → eqb c 58 ≡ true → to_ascii_lowercase c ≡ 58
colon c e = ap to_ascii_lowercase (eqb-true c 58 e)

each_of_five : (a b c d e : Bool) → (a && (b && (c && (d && (e && true))))) ≡ true → (a ≡ true) × (b ≡ true) × (c ≡ true) × (d ≡ true) × (e ≡ true)
each_of_five a b c d e h =
    let at_a = and_parts a (b && (c && (d && (e && true)))) h in
    let at_b = and_parts b (c && (d && (e && true))) at_a.1 in
    let at_c = and_parts c (d && (e && true)) at_b.1 in
    let at_d = and_parts d (e && true) at_c.1 in
    (at_a.0, at_b.0, at_c.0, at_d.0, (and_parts e true at_d.1).0)

colons : (text : List ℕ) → has_mac_colons text ≡ true → HasColons text
colons text e =
    let each = each_of_five (eqb (get_or text 2 0) 58) (eqb (get_or text 5 0) 58) (eqb (get_or text 8 0) 58) (eqb (get_or text 11 0) 58) (eqb (get_or text 14 0) 58) e in
    record {
      first = colon (get_or text 2 0) each.0;
      second = colon (get_or text 5 0) each.1;
      third = colon (get_or text 8 0) each.2;
      fourth = colon (get_or text 11 0) each.3;
      fifth = colon (get_or text 14 0) each.4;
    }

seventeen_items : (xs : List ℕ) → length xs ≡ 17 → xs ≡ get_or xs 0 0 ∷ get_or xs 1 0 ∷ get_or xs 2 0 ∷ get_or xs 3 0 ∷ get_or xs 4 0 ∷ get_or xs 5 0 ∷ get_or xs 6 0 ∷ get_or xs 7 0 ∷ get_or xs 8 0 ∷ get_or xs 9 0 ∷ get_or xs 10 0 ∷ get_or xs 11 0 ∷ get_or xs 12 0 ∷ get_or xs 13 0 ∷ get_or xs 14 0 ∷ get_or xs 15 0 ∷ get_or xs 16 0 ∷ []
seventeen_items xs h = text_from_reads xs _ h (refl, (refl, (refl, (refl, (refl, (refl, (refl, (refl, (refl, (refl, (refl, (refl, (refl, (refl, (refl, (refl, (refl, tt)))))))))))))))))

pub lowered-mac_in : (text : List ℕ) (mac : Mac) → mac_in text ≡ Some mac → str_to_ascii_lowercase text ≡ mac_text mac
unfolding mac_in mac_text hex_pair
lowered-mac_in text mac e =
    let (shape, e0) = if_some (eqb (length text) 17 && has_mac_colons text) _ mac e in
    let (long, colon) = and_parts (eqb (length text) 17) (has_mac_colons text) shape in
    let len : length text ≡ 17 = eqb-true (length text) 17 long in
    let h = colons text colon in
    option_and_then_some _ (octet_at text 0) mac e0 λ a is_a e1.
    option_and_then_some _ (octet_at text 3) mac e1 λ b is_b e2.
    option_and_then_some _ (octet_at text 6) mac e2 λ c is_c e3.
    option_and_then_some _ (octet_at text 9) mac e3 λ d is_d e4.
    option_and_then_some _ (octet_at text 12) mac e4 λ f is_f e5.
    option_and_then_some _ (octet_at text 15) mac e5 λ g is_g e6.
    let A = octet_at_lowers text 0 a is_a in
    let B = octet_at_lowers text 3 b is_b in
    let C = octet_at_lowers text 6 c is_c in
    let D = octet_at_lowers text 9 d is_d in
    let F = octet_at_lowers text 12 f is_f in
    let G = octet_at_lowers text 15 g is_g in
    ap (map to_ascii_lowercase) (seventeen_items text len)
    ∙ (λ i. A.high i ∷ A.low i ∷ h.first i ∷ B.high i ∷ B.low i ∷ h.second i ∷ C.high i ∷ C.low i ∷ h.third i ∷ D.high i ∷ D.low i ∷ h.fourth i ∷ F.high i ∷ F.low i ∷ h.fifth i ∷ G.high i ∷ G.low i ∷ [])
    ∙ ap mac_text (same_Some _ _ e6)

pub one_text : (text : List ℕ) → IfSome (mac_in text) (λ mac. str_to_ascii_lowercase text ≡ mac_text mac)
one_text text = by_result (mac_in text) (lowered-mac_in text)
  where
    by_result : (result : Option Mac) → ((mac : Mac) → result ≡ Some mac → str_to_ascii_lowercase text ≡ mac_text mac) → IfSome result (λ mac. str_to_ascii_lowercase text ≡ mac_text mac)
    by_result None same = tt
    by_result (Some mac) same = same mac refl
