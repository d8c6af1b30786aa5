-- The TLVs one after the other, as the reader meets them.
use Rattle.std.proofs.Common.{◌≡◌, ◌⊎◌, inl, inr, ℕ, ◌+◌, suc, ltb, Bool, true, false, cond, List, [], ◌∷◌, length, drop, Option, Some, None, Result, Ok, Err, refl, ap, sym, ◌∙◌, arith, zero-add, add-zero}
use Rattle.std.specs.Prelude.{is_some}
use Rattle.std.proofs.lemmas.Bool.{cases_Bool}
use Rattle.mud_base.specs.Faults.{row, first_row, unless_fault}
use Rattle.dhcp_lldp.specs.declared.heard.HearFault.{HearFault}
use Rattle.dhcp_lldp.specs.declared.heard.HearFault.TheVariants as faults
use Rattle.dhcp_lldp.specs.Listings.{Listing, no_more, cut_at, with_first}
use Rattle.dhcp_lldp.specs.Tlvs.{Tlv, is_out_of_order, is_mud, tlv_fault, mud_string_of}
use Rattle.dhcp_lldp.specs.TlvStep.{SeenTlvs, nothing_seen, seen_in, seen_after}
use Rattle.dhcp_lldp.proofs.Parts.{tlv_rows}

abbrev pub at_end : SeenTlvs → Option ℕ → Result SeenTlvs HearFault
at_end seen None = cond (ltb seen.count 3) (Err faults.Order) (Ok seen)
at_end seen (Some offset) = Err (faults.Cut offset)

abbrev pub then_seen : Result SeenTlvs HearFault → (SeenTlvs → Result SeenTlvs HearFault) → Result SeenTlvs HearFault
then_seen (Ok seen) f = f seen
then_seen (Err fault) f = Err fault

abbrev pub walk : SeenTlvs → List Tlv → Option ℕ → Result SeenTlvs HearFault
walk seen [] cut = at_end seen cut
walk seen (tlv ∷ more) cut = then_seen (seen_after seen tlv) (λ s. walk s more cut)

unfoldable pub walked : SeenTlvs → Listing Tlv → Result SeenTlvs HearFault
walked seen l = walk seen l.whole l.cut

abbrev or_else : Option (List ℕ) → Option (List ℕ) → Option (List ℕ)
or_else None later = later
or_else (Some string) later = Some string

-- the answer by the definition, where so many TLVs and this string were seen before these
abbrev answered : ℕ → Option (List ℕ) → List Tlv → Option ℕ → Result SeenTlvs HearFault
answered count string tlvs cut =
    unless_fault (first_row (tlv_rows count (is_some string) cut tlvs)) (Ok (record { count = count + length tlvs; string = or_else string (mud_string_of tlvs) }))

ending : (is_short : Bool) (seen : SeenTlvs) → cond is_short (Err faults.Order) (Ok seen) ≡ unless_fault (first_row (None ∷ row is_short faults.Order ∷ [])) (Ok seen)
ending true seen = refl
ending false seen = refl

or_none : (string : Option (List ℕ)) → or_else string None ≡ string
or_none None = refl
or_none (Some content) = refl

abbrev IsAnswered : List Tlv → Option ℕ → Type 0
IsAnswered tlvs cut = (count : ℕ) (string : Option (List ℕ)) → walk (record { count = count; string = string }) tlvs cut ≡ answered count string tlvs cut

module _ (tlv : Tlv) (more : List Tlv) (cut : Option ℕ) (later : IsAnswered more cut) (count : ℕ) where
  counted : count + 1 + length more ≡ count + suc (length more)
  counted = omega arith

  at_tlv : (string : Option (List ℕ)) → (is_out_of_order count tlv ≡ true) ⊎ (is_out_of_order count tlv ≡ false) → (is_mud tlv ≡ true) ⊎ (is_mud tlv ≡ false)
      → walk (record { count = count; string = string }) (tlv ∷ more) cut ≡ answered count string (tlv ∷ more) cut
  unfolding seen_after mud_string_of
  at_tlv string (inl out) mud = simp out
  at_tlv None (inr order) (inl mud) = simp (order, mud, ← counted) (later (count + 1) (Some (drop 4 tlv.content)))
  at_tlv (Some earlier) (inr order) (inl mud) = simp (order, mud)
  at_tlv None (inr order) (inr other) = simp (order, other, ← counted) (later (count + 1) None)
  at_tlv (Some earlier) (inr order) (inr other) = simp (order, other, ← counted) (later (count + 1) (Some earlier))

walk_all : (tlvs : List Tlv) (cut : Option ℕ) → IsAnswered tlvs cut
unfolding mud_string_of
walk_all [] None count string = simp (add-zero, or_none) (ending (ltb count 3) (record { count = count; string = string }))
walk_all [] (Some offset) count string = refl
walk_all (tlv ∷ more) cut count string =
    at_tlv tlv more cut (walk_all more cut) count string (cases_Bool (is_out_of_order count tlv)) (cases_Bool (is_mud tlv))

pub walked_all : (l : Listing Tlv) → walked nothing_seen l ≡ unless_fault (tlv_fault l) (Ok (seen_in l.whole))
unfolding walked tlv_fault seen_in
walked_all l = walk_all l.whole l.cut 0 None ∙ simp zero-add

pub walked_end : (seen : SeenTlvs) → ltb seen.count 3 ≡ false → walked seen no_more ≡ Ok seen
unfolding walked
walked_end seen enough = ap (λ b. cond b (Err faults.Order) (Ok seen)) enough

pub walked_short : (seen : SeenTlvs) → ltb seen.count 3 ≡ true → walked seen no_more ≡ Err faults.Order
unfolding walked
walked_short seen short = ap (λ b. cond b (Err faults.Order) (Ok seen)) short

pub walked_cut : (seen : SeenTlvs) (offset : ℕ) → walked seen (cut_at offset) ≡ Err (faults.Cut offset)
unfolding walked
walked_cut seen offset = refl

-- one more TLV, at the front of the listing
pub walked_tlv : (seen next : SeenTlvs) (tlv : Tlv) (later l : Listing Tlv) → l ≡ with_first tlv later → Ok next ≡ seen_after seen tlv → walked next later ≡ walked seen l
unfolding walked
walked_tlv seen next tlv later l first is = ap (λ r. then_seen r (λ s. walk s later.whole later.cut)) is ∙ sym (ap (walked seen) first)

-- a TLV that is refused
pub walked_fault : (seen : SeenTlvs) (fault : HearFault) (tlv : Tlv) (later l : Listing Tlv) → l ≡ with_first tlv later → Err fault ≡ seen_after seen tlv → Err fault ≡ walked seen l
unfolding walked
walked_fault seen fault tlv later l first is = ap (λ r. then_seen r (λ s. walk s later.whole later.cut)) is ∙ sym (ap (walked seen) first)
