-- The ruling by the rows of a view is the ruling by the bindings that the rows are made from.
use Rattle.std.proofs.Common.{◌≡◌, ℕ, suc, ◌+◌, ◌<◌, Bool, true, false, cond, ◌&&◌, ◌||◌, List, [], ◌∷◌, slice_get, Option, Some, None, refl, sym, ap, subst, ◌∙◌, arith}
use Rattle.std.specs.Prelude.{not, bytes_eq}
use Rattle.std.specs.Option.{option_map, option_map_or}
use Rattle.std.proofs.lemmas.Bool.{false≢true}
use Rattle.std.proofs.lemmas.Option.{same_Some, none-some}
use Rattle.std.proofs.lemmas.Slice.Eq.{bytes_eq-Decides}
use Rattle.std.specs.Cmp.{first_so, second_so}
use Rattle.std.proofs.Math.Bool.{and-false}
use Rattle.base_rows.specs.Sortable.{SortKeysAscend}
use Rattle.mud_base.specs.declared.packet.Direction.{Direction}
use Rattle.mud_base.specs.declared.packet.Direction.TheVariants.{From, To}
use Rattle.acl_model.specs.declared.entry.Entry.{Entry}
use Rattle.acl_model.specs.declared.entry.Policy.{Policy}
use Rattle.acl_model.specs.declared.binding.Binding.{Binding}
use Rattle.acl_model.specs.declared.ruling.Ruling.{Ruling}
use Rattle.acl_model.specs.declared.ruling.Ruling.TheVariants.{AcceptDefault, DropDefault}
use Rattle.acl_model.specs.declared.ruling.DefaultRule.{DefaultRule}
use Rattle.acl_model.specs.declared.ruling.DefaultRule.TheVariants.{Dns, Ntp}
use Rattle.acl_model.specs.declared.ruling.Why.{Why}
use Rattle.acl_model.specs.declared.ruling.Why.TheVariants.{NoFile, NoMatch}
use Rattle.acl_model.specs.Keys.{is_membered, key_of}
use Rattle.acl_model.specs.Match.{peer_of, is_in_family, family_matches, near_matches, rest_matches}
use Rattle.acl_model.specs.Defaults.{default_entry, default_policy, defaults_of}
use Rattle.acl_model.specs.FirstMatch.{entries_of, default_ruling, ruling_by}
use Rattle.acl_model.specs.Policies.{UrlPolicy}
use Rattle.acl_rows.specs.declared.row.Owner.{Owner}
use Rattle.acl_rows.specs.declared.row.Owner.TheVariants.{Url, Default}
use Rattle.acl_rows.specs.declared.row.Row.{Row}
use Rattle.acl_model.specs.SortKeys.{binding_sort_key}
use Rattle.acl_rows.specs.Rows.{for_ever, row, entry_at, expiry_at, held_by, slot_policy, default_held, Slots, Holder, rows_of}
use Rattle.acl_rows.specs.View.{Part, part, View, rows_at, rows_of_side, wide_from, in_slot, holder_from, IsPartOf, IsFilePart, holder_policy}
use Rattle.acl_rows.proofs.Sound.{expiry_at-entry}
use Rattle.acl_rows.proofs.AtSortKeys.{row_at-rows_of, ascend-rows_of}
use Rattle.table_model.specs.Bindings.{selector_met, members_met, matches_by_bindings, ruling_by_bindings}
use Rattle.packet_judge.specs.ByRows.{Asked, passes, passes_at, row_passes, peer_rows, first_row, first_wide, first_in, ruling_at, default_at, ruling_in, ruling_by_rows, IsViewOver}
use Rattle.packet_judge.proofs.Least.{IsLeastFrom, least_alike, least-lesser, least_first, least_later}
use Rattle.packet_judge.proofs.Rulings.{at_number, IsRest, all_rest, rest_next, rest_none, first_ruling-least, wide-least}
use Rattle.packet_judge.proofs.LiveBindings.{live_expiry, entry_alike}
use Rattle.packet_judge.proofs.FirstRow.{live_row, hit, row_test, least-peer_rows}

-- what passes is of the entry's family
passes_family : (asked : Asked) (side : Direction) (e : Entry) → passes asked side e ≡ true → is_in_family e.family (peer_of side asked.fields) ≡ true
unfolding passes rest_matches family_matches peer_of
passes_family asked From e p =
    second_so (is_in_family e.family asked.fields.src) (is_in_family e.family asked.fields.dst)
    (first_so _ _ (first_so _ _ (first_so _ _ (second_so (near_matches e asked.fields.dst asked.locals) _ p))))
passes_family asked To e p =
    first_so (is_in_family e.family asked.fields.src) (is_in_family e.family asked.fields.dst)
    (first_so _ _ (first_so _ _ (first_so _ _ (second_so (near_matches e asked.fields.src asked.locals) _ p))))

-- the match by the bindings, in what is asked
unfoldable pub matched : List Binding → Asked → List ℕ → Direction → Entry → Bool
matched bindings asked url side e = matches_by_bindings bindings asked.locals asked.moment url side asked.fields asked.begun e

-- the part of a side of an owner's policy
unfoldable pub part_of : List Row → Direction → Owner → Policy → ℕ → Part
part_of rows side owner policy n = part side (entries_of side policy) (wide_from 1 (entries_of side policy)) (rows_of_side owner side rows) n

pub part_is : (rows : List Row) (side : Direction) (owner : Owner) (policy : Policy) (p : Part) → IsPartOf rows side owner policy p → p ≡ part_of rows side owner policy p.among
unfolding part_of
part_is rows side owner policy p is = λ i. part (is.side_is i) (is.entries i) (is.wide i) (is.rows_are i) p.among

-- the entries of the default rules, by the side
pub entries_default : (s : Direction) → entries_of s default_policy ≡ defaults_of s
unfolding entries_of
entries_default From = refl
entries_default To = refl

module _ (slots : Slots) (bindings : List Binding) (ascend : SortKeysAscend binding_sort_key bindings) (asked : Asked) (small : asked.moment < for_ever) (side : Direction) (among : ℕ) where
  unfoldable pub own_part : Owner → UrlPolicy → Part
  own_part owner held = part_of (rows_of slots bindings) side owner held.policy among

  live_made : (owner : Owner) (n : ℕ) (o : Option ℕ) → live_row owner side (peer_of side asked.fields) asked.moment (λ m. true) (option_map (row owner side (peer_of side asked.fields) n) o) ≡ live_expiry asked.moment o
  unfolding live_row live_expiry row
  live_made owner n None = refl
  live_made owner n (Some u) = refl

  number_by : (owner : Owner) (held : UrlPolicy) → held_by slots owner ≡ Some held → (n : ℕ) (o : Option Entry) → entry_at n (entries_of side held.policy) ≡ o
      → ((live_expiry asked.moment (expiry_at slots bindings owner side (peer_of side asked.fields) n) && option_map_or (passes asked side) o false) || option_map_or (λ e. not (is_membered e) && passes asked side e) o false)
      ≡ option_map_or (matched bindings asked held.url side) o false
  unfolding matched matches_by_bindings passes
  number_by owner held h n None is = ap (λ b. b || false) (and-false _)
  number_by owner held h n (Some e) is =
      ap (λ (u : Option ℕ). (live_expiry asked.moment u && passes asked side e) || (not (is_membered e) && passes asked side e)) (expiry_at-entry slots bindings owner side (peer_of side asked.fields) n held e h is)
      ∙ entry_alike bindings ascend held.url e (peer_of side asked.fields) asked.moment small (passes asked side e) (passes_family asked side e)

  number_alike : (owner : Owner) (held : UrlPolicy) → held_by slots owner ≡ Some held → (n : ℕ)
      → (hit owner side (peer_of side asked.fields) asked.moment (passes_at asked (own_part owner held)) (rows_of slots bindings) n || at_number (λ e. not (is_membered e) && passes asked side e) (entries_of side held.policy) n)
      ≡ at_number (matched bindings asked held.url side) (entries_of side held.policy) n
  unfolding hit live_row at_number passes_at own_part part_of
  number_alike owner held h n =
      ap (λ (r : Option Row). (live_row owner side (peer_of side asked.fields) asked.moment (λ m. true) r && option_map_or (passes asked side) (entry_at n (entries_of side held.policy)) false) || option_map_or (λ e. not (is_membered e) && passes asked side e) (entry_at n (entries_of side held.policy)) false)
      (row_at-rows_of slots bindings owner side (peer_of side asked.fields) n)
      ∙ ap (λ (b : Bool). (b && option_map_or (passes asked side) (entry_at n (entries_of side held.policy)) false) || option_map_or (λ e. not (is_membered e) && passes asked side e) (entry_at n (entries_of side held.policy)) false)
      (live_made owner n (expiry_at slots bindings owner side (peer_of side asked.fields) n))
      ∙ number_by owner held h n (entry_at n (entries_of side held.policy)) refl

  none_at_zero : (owner : Owner) (held : UrlPolicy) → hit owner side (peer_of side asked.fields) asked.moment (passes_at asked (own_part owner held)) (rows_of slots bindings) 0 ≡ false
  unfolding hit passes_at own_part part_of entry_at
  none_at_zero owner held = and-false _

  rows_least : (owner : Owner) (held : UrlPolicy) → IsLeastFrom 0 (hit owner side (peer_of side asked.fields) asked.moment (passes_at asked (own_part owner held)) (rows_of slots bindings)) (first_row asked (own_part owner held))
  unfolding first_row row_passes peer_rows rows_at own_part part_of row_test
  rows_least owner held = least-peer_rows owner side (peer_of side asked.fields) asked.moment (passes_at asked (own_part owner held)) (rows_of slots bindings) (ascend-rows_of slots bindings)

  wides_least : (owner : Owner) (held : UrlPolicy) → IsLeastFrom 1 (at_number (λ e. not (is_membered e) && passes asked side e) (entries_of side held.policy)) (first_wide asked (own_part owner held))
  unfolding first_wide passes_at own_part part_of at_number
  wides_least owner held = wide-least (passes asked side) (entries_of side held.policy) 1 (entries_of side held.policy) (all_rest (entries_of side held.policy))

  -- the least number by rows and wide entries is that of the first match
  pub part_least : (owner : Owner) (held : UrlPolicy) → held_by slots owner ≡ Some held → IsLeastFrom 1 (at_number (matched bindings asked held.url side) (entries_of side held.policy)) (first_in asked (own_part owner held))
  unfolding first_in
  part_least owner held h =
      let p : ℕ → Bool = hit owner side (peer_of side asked.fields) asked.moment (passes_at asked (own_part owner held)) (rows_of slots bindings) in
      let q : ℕ → Bool = at_number (λ e. not (is_membered e) && passes asked side e) (entries_of side held.policy) in
      least_alike 1 (λ n. p n || q n) (at_number (matched bindings asked held.url side) (entries_of side held.policy)) (number_alike owner held h) (first_in asked (own_part owner held))
      (least-lesser 1 p q (first_row asked (own_part owner held)) (first_wide asked (own_part owner held)) (least_later 0 p (first_row asked (own_part owner held)) (none_at_zero owner held) (rows_least owner held)) (wides_least owner held))

  -- ---- Defaults

  default_none : (m : Entry → Bool) (d e : Entry) (why : Why) (o : Option ℕ) → IsLeastFrom 3 (at_number m (d ∷ (e ∷ []))) o → default_at why o ≡ DropDefault why
  unfolding default_at at_number
  default_none m d e why None least = refl
  default_none m d e why (Some n) least =
      let rest : IsRest (d ∷ (e ∷ [])) 3 [] = rest_next (d ∷ (e ∷ [])) 2 e [] (rest_next (d ∷ (e ∷ [])) 1 d (e ∷ []) (all_rest (d ∷ (e ∷ [])))) in
      absurd (false≢true (sym (ap (λ (x : Option Entry). option_map_or m x false) (rest_none (d ∷ (e ∷ [])) 3 n rest least.0)) ∙ least.1))

  default_by : (m : Entry → Bool) (d e : Entry) (why : Why) (o : Option ℕ) → IsLeastFrom 1 (at_number m (d ∷ (e ∷ []))) o → (b c : Bool) → m d ≡ b → m e ≡ c
      → default_at why o ≡ cond b (AcceptDefault Dns) (cond c (AcceptDefault Ntp) (DropDefault why))
  unfolding at_number entry_at default_at
  default_by m d e why o least true c is next = ap (default_at why) (least_first 1 (at_number m (d ∷ (e ∷ []))) o is least)
  default_by m d e why o least false true is next = ap (default_at why) (least_first 2 (at_number m (d ∷ (e ∷ []))) o next (least_later 1 (at_number m (d ∷ (e ∷ []))) o is least))
  default_by m d e why o least false false is next = default_none m d e why o (least_later 2 (at_number m (d ∷ (e ∷ []))) o next (least_later 1 (at_number m (d ∷ (e ∷ []))) o is least))

  -- the default entries name no URL
  default_matched : (url : List ℕ) (which : DefaultRule) → matched bindings asked [] side (default_entry which side) ≡ matched bindings asked url side (default_entry which side)
  unfolding matched matches_by_bindings members_met selector_met key_of default_entry
  default_matched url which = refl

  pub default_alike : (url : List ℕ) (why : Why) → default_at why (first_in asked (part_of (rows_of slots bindings) side Default default_policy among)) ≡ default_ruling (matched bindings asked url side) side why
  unfolding own_part held_by default_held default_ruling
  default_alike url why =
      let held : UrlPolicy = default_held in
      let least : IsLeastFrom 1 (at_number (matched bindings asked [] side) (entries_of side default_policy)) (first_in asked (own_part Default held)) = part_least Default held refl in
      default_by (matched bindings asked [] side) (default_entry Dns side) (default_entry Ntp side) why (first_in asked (own_part Default held))
      (subst (λ (es : List Entry). IsLeastFrom 1 (at_number (matched bindings asked [] side) es) (first_in asked (own_part Default held))) (entries_default side) least)
      (matched bindings asked url side (default_entry Dns side)) (matched bindings asked url side (default_entry Ntp side)) (default_matched url Dns) (default_matched url Ntp)

  -- ---- The whole ruling

  pub file_alike : (owner : Owner) (held : UrlPolicy) (otherwise : Ruling) → held_by slots owner ≡ Some held → otherwise ≡ default_ruling (matched bindings asked held.url side) side NoMatch
      → ruling_at (entries_of side held.policy) otherwise (first_in asked (own_part owner held)) ≡ ruling_by (matched bindings asked held.url side) side (Some held.policy)
  unfolding ruling_by
  file_alike owner held otherwise h is =
      ap (λ (r : Ruling). ruling_at (entries_of side held.policy) r (first_in asked (own_part owner held))) is
      ∙ sym (first_ruling-least (matched bindings asked held.url side) (entries_of side held.policy) 1 (entries_of side held.policy) (default_ruling (matched bindings asked held.url side) side NoMatch) (first_in asked (own_part owner held)) (all_rest (entries_of side held.policy)) (part_least owner held h))

-- ---- The holder of a URL

pub record IsHolder (slots : Slots) (url : List ℕ) (h : Holder) : Type 0 where
  pub holds : held_by slots h.0 ≡ Some h.1
  pub named : h.1.url ≡ url

abbrev pub IsTail : Slots → ℕ → Slots → Type 0
IsTail all n slots = (i : ℕ) → slice_get all (n + i) ≡ slice_get slots i

holder_by : (all : Slots) (url : List ℕ) (n : ℕ) (held : UrlPolicy) (slots : Slots) (rest : Option Holder) (h : Holder) → IsTail all n (Some held ∷ slots) → (rest ≡ Some h → IsHolder all url h) → (b : Bool) → bytes_eq held.url url ≡ b → cond b (Some (Url n, held)) rest ≡ Some h → IsHolder all url h
unfolding held_by slot_policy
holder_by all url n held slots rest h tail later true e is =
    let one : IsHolder all url (Url n, held) = record { holds = ap slot_policy (subst (λ m. slice_get all m ≡ Some (Some held)) {x = n + 0} {y = n} (omega arith) (tail 0)); named = (bytes_eq-Decides held.url url).0 e } in
    subst (IsHolder all url) (same_Some (Url n, held) h is) one
holder_by all url n held slots rest h tail later false e is = later is

pub holder_sound : (all : Slots) (url : List ℕ) (n : ℕ) (slots : Slots) (h : Holder) → IsTail all n slots → holder_from url n slots ≡ Some h → IsHolder all url h
unfolding holder_from in_slot
holder_sound all url n [] h tail is = absurd (none-some h is)
holder_sound all url n (None ∷ slots) h tail is = holder_sound all url (n + 1) slots h (λ i. subst (λ m. slice_get all m ≡ slice_get slots i) {x = n + suc i} {y = (n + 1) + i} (omega arith) (tail (suc i))) is
holder_sound all url n (Some held ∷ slots) h tail is =
    holder_by all url n held slots (holder_from url (n + 1) slots) h tail (holder_sound all url (n + 1) slots h (λ i. subst (λ m. slice_get all m ≡ slice_get slots i) {x = n + suc i} {y = (n + 1) + i} (omega arith) (tail (suc i)))) (bytes_eq held.url url) refl is

-- ---- The whole ruling

module _ (slots : Slots) (bindings : List Binding) (ascend : SortKeysAscend binding_sort_key bindings) (asked : Asked) (small : asked.moment < for_ever) (side : Direction) (url : List ℕ) where
  abbrev rows : List Row
  rows = rows_of slots bindings

  defaults_rule : (why : Why) (defaults : Part) → IsPartOf rows side Default default_policy defaults → default_at why (first_in asked defaults) ≡ default_ruling (matched bindings asked url side) side why
  defaults_rule why defaults is =
      ap (λ (p : Part). default_at why (first_in asked p)) (part_is rows side Default default_policy defaults is)
      ∙ default_alike slots bindings ascend asked small side defaults.among url why

  file_rules : (h : Holder) (p : Part) (otherwise : Ruling) → IsHolder slots url h → IsPartOf rows side h.0 h.1.policy p → otherwise ≡ default_ruling (matched bindings asked url side) side NoMatch
      → ruling_at p.entries otherwise (first_in asked p) ≡ ruling_by (matched bindings asked url side) side (Some h.1.policy)
  unfolding own_part part_of
  file_rules h p otherwise holder is rest =
      (λ i. ruling_at (is.entries i) otherwise (first_in asked (part_is rows side h.0 h.1.policy p is i)))
      ∙ subst (λ (u : List ℕ). ruling_at (entries_of side h.1.policy) otherwise (first_in asked (part_of rows side h.0 h.1.policy p.among)) ≡ ruling_by (matched bindings asked u side) side (Some h.1.policy)) holder.named
      (file_alike slots bindings ascend asked small side p.among h.0 h.1 otherwise holder.holds
      (rest ∙ ap (λ (u : List ℕ). default_ruling (matched bindings asked u side) side NoMatch) (sym holder.named)))

  view_by : (o : Option Holder) (file : Option Part) (defaults : Part) → holder_from url 0 slots ≡ o → IsFilePart rows side o file → IsPartOf rows side Default default_policy defaults
      → ruling_in asked defaults file ≡ ruling_by (matched bindings asked url side) side (option_map holder_policy o)
  unfolding ruling_in ruling_by
  view_by None None defaults is file rest = defaults_rule NoFile defaults rest
  view_by None (Some p) defaults is file rest = absurd file
  view_by (Some h) None defaults is file rest = absurd file
  view_by (Some h) (Some p) defaults is file rest =
      file_rules h p (default_at NoMatch (first_in asked defaults)) (holder_sound slots url 0 slots h (λ i. ap (slice_get slots) {x = 0 + i} {y = i} (omega arith)) is) file (defaults_rule NoMatch defaults rest)

-- The ruling by the rows of a view is the one by the bindings, at every moment.
pub rows_alike : (slots : Slots) (bindings : List Binding) (url : List ℕ) (policy : Option Policy) (side : Direction) (view : View) (asked : Asked) → IsViewOver slots bindings url policy side view → asked.moment < for_ever
    → ruling_by_rows asked view ≡ ruling_by_bindings bindings asked.locals asked.moment url policy side asked.fields asked.begun
unfolding ruling_by_rows ruling_by_bindings matched
rows_alike slots bindings url policy side view asked is small =
    view_by slots bindings is.ascend asked small side url (holder_from url 0 slots) view.file view.defaults refl is.lends.file is.lends.defaults
    ∙ ap (λ (p : Option Policy). ruling_by (matched bindings asked url side) side p) is.held
