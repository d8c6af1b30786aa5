-- The first entry that matches decides: at its index, and by none where none matches.
use Rattle.std.proofs.Common.{◌≡◌, ℕ, zero, suc, ◌+◌, ◌-◌, Bool, true, false, cond, ◌⊎◌, inl, inr, List, [], ◌∷◌, take, Option, Some, None, refl, sym, ap, ◌∙◌, subst, arith}
use Rattle.std.specs.Prelude.{slice_get}
use Rattle.std.specs.List.{list_any}
use Rattle.std.proofs.lemmas.Bool.{cases_Bool, cond-true, cond-false, or_parts, or_from}
use Rattle.mud_base.specs.declared.packet.Direction.{Direction}
use Rattle.acl_model.specs.declared.entry.Action.{Action}
use Rattle.acl_model.specs.declared.entry.Action.TheVariants as action
use Rattle.acl_model.specs.declared.entry.Entry.{Entry}
use Rattle.acl_model.specs.declared.entry.Policy.{Policy}
use Rattle.acl_model.specs.declared.ruling.DefaultRule.{DefaultRule}
use Rattle.acl_model.specs.declared.ruling.DefaultRule.TheVariants.{Dns, Ntp}
use Rattle.acl_model.specs.declared.ruling.Why.{Why}
use Rattle.acl_model.specs.declared.ruling.Ruling.{Ruling}
use Rattle.acl_model.specs.declared.ruling.Ruling.TheVariants.{Accept, AcceptDefault, Drop, DropDefault, DropHeld}
use Rattle.acl_model.specs.Defaults.{default_entry, defaults_of}
use Rattle.acl_model.specs.FirstMatch.{ruled_by, default_ruling, ruling_by, NoneMatches, IsFirstMatch, IsFirstDefault, file_entries, why_of, IsRuling, FirstMatchDecides}
use Rattle.acl_model.proofs.Parts.{first_ruling}

-- the entry at this index, from 0 on, is the first that matches, and its action is this one
pub record StandsFirst (matches : Entry → Bool) (entries : List Entry) (k : ℕ) (act : Action) : Type 0 where
  pub entry : Entry
  pub stands : slice_get entries k ≡ Some entry
  pub matched : matches entry ≡ true
  pub acts : entry.action ≡ act
  pub earlier : list_any matches (take k entries) ≡ false

-- the first that matches rules, by its number
pub first_ruling-found : (matches : Entry → Bool) (n : ℕ) (entries : List Entry) (otherwise : Ruling) (k : ℕ) (act : Action) → StandsFirst matches entries k act → first_ruling matches n entries otherwise ≡ ruled_by (n + k) act
first_ruling-found matches n [] otherwise k act first = absurd (let h = first.stands in cc)
first_ruling-found matches n (e ∷ entries) otherwise zero act first =
    let it : e ≡ first.entry = (let h = first.stands in cc) in
    let m : matches e ≡ true = ap matches it ∙ first.matched in
    let a : e.action ≡ act = ap (λ (x : Entry). x.action) it ∙ first.acts in
    let count : n ≡ n + 0 = omega arith in
    cond-true (matches e) (ruled_by n e.action) (first_ruling matches (n + 1) entries otherwise) m ∙ ap (ruled_by n) a ∙ ap (λ i. ruled_by i act) count
first_ruling-found matches n (e ∷ entries) otherwise (suc k) act first =
    let none = or_parts (matches e) (list_any matches (take k entries)) first.earlier in
    let later = first_ruling-found matches (n + 1) entries otherwise k act (record { entry = first.entry; stands = first.stands; matched = first.matched; acts = first.acts; earlier = none.1 }) in
    let count : n + 1 + k ≡ n + suc k = omega arith in
    cond-false (matches e) (ruled_by n e.action) (first_ruling matches (n + 1) entries otherwise) none.0 ∙ later ∙ ap (λ i. ruled_by i act) count

pub first_ruling-none : (matches : Entry → Bool) (n : ℕ) (entries : List Entry) (otherwise : Ruling) → list_any matches entries ≡ false → first_ruling matches n entries otherwise ≡ otherwise
first_ruling-none matches n [] otherwise none = refl
first_ruling-none matches n (e ∷ entries) otherwise none =
    let parts = or_parts (matches e) (list_any matches entries) none in
    cond-false (matches e) (ruled_by n e.action) (first_ruling matches (n + 1) entries otherwise) parts.0 ∙ first_ruling-none matches (n + 1) entries otherwise parts.1

-- some entry is the first that matches, or none matches
pub cases_first : (matches : Entry → Bool) (entries : List Entry) → ((k : ℕ) × (act : Action) × StandsFirst matches entries k act) ⊎ (list_any matches entries ≡ false)
cases_first matches [] = inr refl
cases_first matches (e ∷ entries) =
    elim (cases_Bool (matches e)) [
      | inl yes_e ↦ inl (zero, e.action, record { entry = e; stands = refl; matched = yes_e; acts = refl; earlier = refl })
      | inr no_e ↦ elim (cases_first matches entries) [
        | inl found ↦ inl (suc found.0, found.1, record { entry = found.2.entry; stands = found.2.stands; matched = found.2.matched; acts = found.2.acts; earlier = or_from (matches e) _ no_e found.2.earlier })
        | inr none ↦ inr (or_from (matches e) _ no_e none)
      ]
    ]

-- with and without a file
pub ruling_by-split : (matches : Entry → Bool) (side : Direction) (policy : Option Policy) → ruling_by matches side policy ≡ first_ruling matches 1 (file_entries side policy) (default_ruling matches side (why_of policy))
unfolding ruling_by
ruling_by-split matches side None = refl
ruling_by-split matches side (Some policy) = refl

-- ---- By numbers from 1 on

IsFirstMatch-from : (matches : Entry → Bool) (entries : List Entry) (k : ℕ) (act : Action) → StandsFirst matches entries k act → IsFirstMatch matches entries (1 + k) act
IsFirstMatch-from matches entries k act first =
    let index : k ≡ 1 + k - 1 = omega arith in
    record {
      entry = first.entry;
      counted = omega arith;
      stands = subst (λ (i : ℕ). slice_get entries i ≡ Some first.entry) index first.stands;
      matched = first.matched;
      acts = first.acts;
      earlier = subst (λ (i : ℕ). list_any matches (take i entries) ≡ false) index first.earlier;
    }

StandsFirst-from : (matches : Entry → Bool) (entries : List Entry) (n : ℕ) (act : Action) → IsFirstMatch matches entries n act → StandsFirst matches entries (n - 1) act
StandsFirst-from matches entries n act first = record { entry = first.entry; stands = first.stands; matched = first.matched; acts = first.acts; earlier = first.earlier }

pub first_ruling-IsFirstMatch : (matches : Entry → Bool) (entries : List Entry) (otherwise : Ruling) (n : ℕ) (act : Action) → IsFirstMatch matches entries n act → first_ruling matches 1 entries otherwise ≡ ruled_by n act
first_ruling-IsFirstMatch matches entries otherwise n act first =
    let counted = first.counted in
    let number : 1 + (n - 1) ≡ n = omega arith in
    first_ruling-found matches 1 entries otherwise (n - 1) act (StandsFirst-from matches entries n act first) ∙ ap (λ i. ruled_by i act) number

-- ---- What holds of the ruling

ruled_by-says : (matches : Entry → Bool) (side : Direction) (policy : Option Policy) (n : ℕ) (act : Action) → IsFirstMatch matches (file_entries side policy) n act → IsRuling matches side policy (ruled_by n act)
unfolding ruled_by
ruled_by-says matches side policy n action.Accept first = first
ruled_by-says matches side policy n action.Drop first = first

default_ruling-says : (matches : Entry → Bool) (side : Direction) (policy : Option Policy) → NoneMatches matches (file_entries side policy) → IsRuling matches side policy (default_ruling matches side (why_of policy))
unfolding default_ruling
default_ruling-says matches side policy none =
    let dns = matches (default_entry Dns side) in
    let ntp = matches (default_entry Ntp side) in
    elim (cases_Bool dns) [
      | inl yes_dns ↦ subst (IsRuling matches side policy) (sym (cond-true dns (AcceptDefault Dns) (cond ntp (AcceptDefault Ntp) (DropDefault (why_of policy))) yes_dns)) (none, yes_dns)
      | inr no_dns ↦ subst (IsRuling matches side policy) (sym (cond-false dns (AcceptDefault Dns) (cond ntp (AcceptDefault Ntp) (DropDefault (why_of policy))) no_dns)) (elim (cases_Bool ntp) [
        | inl yes_ntp ↦ subst (IsRuling matches side policy) (sym (cond-true ntp (AcceptDefault Ntp) (DropDefault (why_of policy)) yes_ntp)) (none, (no_dns, yes_ntp))
        | inr no_ntp ↦ subst (IsRuling matches side policy) (sym (cond-false ntp (AcceptDefault Ntp) (DropDefault (why_of policy)) no_ntp)) (none, or_from dns _ no_dns (or_from ntp _ no_ntp refl), refl)
      ])
    ]

ruling_by-says : (matches : Entry → Bool) (side : Direction) (policy : Option Policy) → IsRuling matches side policy (ruling_by matches side policy)
ruling_by-says matches side policy =
    let entries = file_entries side policy in
    let otherwise = default_ruling matches side (why_of policy) in
    rw (ruling_by-split matches side policy)
    (elim (cases_first matches entries) [
      | inl found ↦ subst (IsRuling matches side policy) (sym (first_ruling-found matches 1 entries otherwise found.0 found.1 found.2)) (ruled_by-says matches side policy (1 + found.0) found.1 (IsFirstMatch-from matches entries found.0 found.1 found.2))
      | inr none ↦ subst (IsRuling matches side policy) (sym (first_ruling-none matches 1 entries otherwise none)) (default_ruling-says matches side policy none)
    ])

-- ---- And of no other

default_ruling-accepts : (matches : Entry → Bool) (side : Direction) (why : Why) (which : DefaultRule) → IsFirstDefault matches side which → default_ruling matches side why ≡ AcceptDefault which
unfolding default_ruling
default_ruling-accepts matches side why Dns dns = cond-true (matches (default_entry Dns side)) (AcceptDefault Dns) _ dns
default_ruling-accepts matches side why Ntp both =
    cond-false (matches (default_entry Dns side)) (AcceptDefault Dns) _ both.0 ∙ cond-true (matches (default_entry Ntp side)) (AcceptDefault Ntp) (DropDefault why) both.1

default_ruling-drops : (matches : Entry → Bool) (side : Direction) (why : Why) → NoneMatches matches (defaults_of side) → default_ruling matches side why ≡ DropDefault why
unfolding default_ruling
default_ruling-drops matches side why none =
    let dns = or_parts (matches (default_entry Dns side)) _ none in
    let ntp = or_parts (matches (default_entry Ntp side)) _ dns.1 in
    cond-false (matches (default_entry Dns side)) (AcceptDefault Dns) _ dns.0 ∙ cond-false (matches (default_entry Ntp side)) (AcceptDefault Ntp) (DropDefault why) ntp.0

ruling_by-is : (matches : Entry → Bool) (side : Direction) (policy : Option Policy) (ruling : Ruling) → IsRuling matches side policy ruling → ruling_by matches side policy ≡ ruling
unfolding ruled_by
ruling_by-is matches side policy (Accept n) first =
    ruling_by-split matches side policy ∙ first_ruling-IsFirstMatch matches (file_entries side policy) (default_ruling matches side (why_of policy)) n action.Accept first
ruling_by-is matches side policy (Drop n) first =
    ruling_by-split matches side policy ∙ first_ruling-IsFirstMatch matches (file_entries side policy) (default_ruling matches side (why_of policy)) n action.Drop first
ruling_by-is matches side policy (AcceptDefault which) says =
    ruling_by-split matches side policy ∙ first_ruling-none matches 1 (file_entries side policy) (default_ruling matches side (why_of policy)) says.0 ∙ default_ruling-accepts matches side (why_of policy) which says.1
ruling_by-is matches side policy (DropDefault why) says =
    ruling_by-split matches side policy ∙ first_ruling-none matches 1 (file_entries side policy) (default_ruling matches side (why_of policy)) says.0 ∙ default_ruling-drops matches side (why_of policy) says.1 ∙ ap DropDefault (sym says.2)
ruling_by-is matches side policy DropHeld says = absurd says

pub first_match_decides : FirstMatchDecides
first_match_decides matches side policy ruling = (λ e. subst (IsRuling matches side policy) e (ruling_by-says matches side policy), ruling_by-is matches side policy ruling)
