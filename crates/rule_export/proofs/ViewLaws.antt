-- The list of a view over the bindings of tables is the list by the tables.
use Rattle.std.proofs.Common.{◌≡◌, ℕ, ◌+◌, ◌<◌, Bool, true, false, cond, not, ◌&&◌, ◌||◌, List, [], ◌∷◌, ◌++◌, map, slice_get, Option, Some, None, append-nil, refl, sym, ap, subst, ◌∙◌, arith}
use Rattle.std.specs.Prelude.{nat_eq, flat_map, codes}
use Rattle.std.specs.Option.{option_map, option_map_or, option_and_then}
use Rattle.std.specs.List.{list_any, list_all, filter, AllByRecursion}
use Rattle.std.proofs.lemmas.Bool.{false≢true}
use Rattle.std.proofs.Math.Bool.{or-false}
use Rattle.base_rows.specs.Sortable.{SortKeysAscend}
use Rattle.base_rows.proofs.ListTests.{both_ways, left_of, right_of, any_first, any_later, any_by, any_more, any-map}
use Rattle.base_rows.proofs.Lists.{all-append}
use Rattle.mud_base.specs.Addresses.{prefix_holds}
use Rattle.mud_base.specs.declared.addr.Addr.{Addr}
use Rattle.mud_base.specs.declared.addr.Family.{Family}
use Rattle.mud_base.specs.declared.addr.Family.TheVariants as family
use Rattle.mud_base.specs.declared.packet.Direction.{Direction}
use Rattle.mud_base.specs.declared.prefix.Prefix.{Prefix}
use Rattle.acl_model.specs.declared.binding.Binding.{Binding}
use Rattle.acl_model.specs.declared.binding.MemberKey.{MemberKey}
use Rattle.acl_model.specs.declared.entry.Selector.{Selector}
use Rattle.acl_model.specs.declared.entry.Entry.{Entry}
use Rattle.acl_model.specs.declared.entry.Policy.{Policy}
use Rattle.acl_model.specs.declared.ruling.DefaultRule.{DefaultRule}
use Rattle.acl_model.specs.declared.ruling.DefaultRule.TheVariants.{Dns, Ntp}
use Rattle.acl_model.specs.Changes.{HaveSame}
use Rattle.acl_model.specs.Keys.{key_of, is_membered}
use Rattle.acl_model.specs.Match.{is_in_family, near_met, near_matches}
use Rattle.acl_model.specs.Defaults.{default_entry, default_policy, defaults_of}
use Rattle.acl_model.specs.FirstMatch.{entries_of}
use Rattle.acl_model.specs.SortKeys.{binding_sort_key}
use Rattle.acl_model.specs.Policies.{UrlPolicy}
use Rattle.acl_model.proofs.BindingLaws.{same_addr_exact, same_addr_itself}
use Rattle.acl_rows.specs.declared.row.Owner.{Owner}
use Rattle.acl_rows.specs.declared.row.Owner.TheVariants.{Default}
use Rattle.acl_rows.specs.declared.row.Row.{Row}
use Rattle.acl_rows.specs.Rows.{for_ever, entry_expiry, numbered, entry_at, held_by, default_held, Slots, Holder, rows_of}
use Rattle.acl_rows.specs.View.{Part, View, rows_of_side, holder_from, IsPartOf, IsFilePart, holder_policy}
use Rattle.table_model.specs.Expiries.{is_live}
use Rattle.table_model.specs.Tables.{Tables, meets}
use Rattle.table_model.specs.Bindings.{bindings_of, is_met_by, has_live_binding, key_met, selector_met, members_met}
use Rattle.table_model.proofs.Alike.{met_by_binding}
use Rattle.table_laws.proofs.Stores.{tests_alike}
use Rattle.packet_judge.specs.ByRows.{IsViewOver}
use Rattle.packet_judge.proofs.LiveBindings.{live_expiry, entry_alike}
use Rattle.packet_judge.proofs.Rulings.{IsRest, all_rest, rest_next, rest_first}
use Rattle.packet_judge.proofs.ByRows.{entries_default, holder_sound, IsHolder}
use Rattle.rule_export.specs.declared.item.RuleNumber.{RuleNumber}
use Rattle.rule_export.specs.declared.item.RuleNumber.TheVariants as rule
use Rattle.rule_export.specs.declared.item.Resolved.{Resolved}
use Rattle.rule_export.specs.Networks.{has_near, near_networks}
use Rattle.rule_export.specs.Listed.{ListItem, item_of, covers, items_from, table_addrs, addr_network, is_listed, listed_networks, listed_items, listed_file, listed_of}
use Rattle.rule_export.proofs.Parts.{list_item, addr_networks, listed_default}
use Rattle.rule_export.specs.Resolved.{Wanted, is_wanted, host_network, wanted_networks, member_networks, entry_networks, entry_items, part_items, file_items, default_rule, resolved_of}
use Rattle.rule_export.specs.Ruling.{entry_of}
use Rattle.text_values.specs.Lists.{behind_comma, with_commas}
use Rattle.rule_export.specs.Text.{item_text, listed_text, resolved_text}
use Rattle.rule_export.proofs.NetworkLaws.{any-in_order, in_order_alike}
use Rattle.rule_export.proofs.EntryLaws.{any-filter, any_member}
use Rattle.rule_export.proofs.StandingLaws.{network_of, any_listed}

-- ---- The same addresses give the same networks

-- the networks of the first addresses hold no address that those of the second don't
abbrev HoldNoMore : List Addr → List Addr → Type 0
HoldNoMore xs ys = (a : Addr) → list_any (λ p. prefix_holds p a) (map addr_network xs) ≡ true → list_any (λ p. prefix_holds p a) (map addr_network ys) ≡ true

own_network : (a : Addr) → prefix_holds (addr_network a) a ≡ true
own_network a = network_of a a ∙ same_addr_itself a

-- so each test that one of the first passes one of the second passes
no_more : (t : Prefix → Bool) (xs ys : List Addr) → HoldNoMore xs ys → list_any t (map addr_network xs) ≡ true → list_any t (map addr_network ys) ≡ true
no_more t [] ys each e = absurd (false≢true e)
no_more t (x ∷ xs) ys each e =
    any_by t (addr_network x) (map addr_network xs)
    (λ here.
    any-map t addr_network ys
    ∙ any_more (λ y. prefix_holds (addr_network y) x) (λ y. t (addr_network y)) ys
    (λ y holds. subst (λ c. t (addr_network c) ≡ true) (same_addr_exact x y (sym (network_of y x) ∙ holds)) here)
    (sym (any-map (λ p. prefix_holds p x) addr_network ys) ∙ each x (any_first (λ p. prefix_holds p x) (addr_network x) (map addr_network xs) (own_network x))))
    (no_more t xs ys (λ a h. each a (any_later (λ p. prefix_holds p a) (addr_network x) (map addr_network xs) h)))
    e

-- what one of the elements says
any_tells : {A : Type 0} {P : Type 0} (p : A → Bool) (xs : List A) → ((x : A) → p x ≡ true → P) → list_any p xs ≡ true → P
any_tells p [] each e = absurd (false≢true e)
any_tells p (x ∷ xs) each e = any_by p x xs (each x) (any_tells p xs each) e

-- ---- Selectors by the bindings and over the tables

module _ (bindings : List Binding) (tables : Tables) (same : HaveSame bindings (bindings_of tables)) (locals : List Prefix) (same_locals : locals ≡ tables.locals) (now : ℕ) (small : now < for_ever) (url : List ℕ) (a : Addr) where
  key_alike : (o : Option MemberKey) → key_met bindings o a now ≡ key_met (bindings_of tables) o a now
  unfolding key_met has_live_binding
  key_alike None = refl
  key_alike (Some key) = tests_alike bindings (bindings_of tables) same (is_met_by key a now)

  selector_alike : (s : Selector) → (selector_met bindings url a now s && near_met locals a s) ≡ meets tables now url s a
  unfolding selector_met
  selector_alike s = (λ i. key_alike (key_of url s) i && near_met (same_locals i) a s) ∙ met_by_binding tables now url small a s

  regroup : (x xs y ys : Bool) → ((x && xs) && (y && ys)) ≡ ((x && y) && (xs && ys))
  regroup true xs true ys = refl
  regroup true true false ys = refl
  regroup true false false ys = refl
  regroup false xs y ys = refl

  all_alike : (ss : List Selector) → (list_all (selector_met bindings url a now) ss && list_all (near_met locals a) ss) ≡ list_all (λ s. meets tables now url s a) ss
  all_alike [] = refl
  all_alike (s ∷ ss) =
      regroup (selector_met bindings url a now s) (list_all (selector_met bindings url a now) ss) (near_met locals a s) (list_all (near_met locals a) ss)
      ∙ (λ i. selector_alike s i && all_alike ss i)

  pub entry_met : (e : Entry) → (members_met bindings url e a now && near_matches e a locals) ≡ list_all (λ s. meets tables now url s a) e.selectors
  unfolding members_met near_matches
  entry_met e = all_alike e.selectors

-- ---- The networks of an entry

-- an address of a version that the entry is for is of the entry's version
in_covered : (g f : Family) (a : Addr) → covers g f ≡ true → is_in_family f a ≡ true → is_in_family g a ≡ true
unfolding covers is_in_family
in_covered family.Both f a c of = refl
in_covered family.V4 family.V4 a c of = of
in_covered family.V6 family.V6 a c of = of
in_covered family.V4 family.V6 a c of = absurd (false≢true c)
in_covered family.V4 family.Both a c of = absurd (false≢true c)
in_covered family.V6 family.V4 a c of = absurd (false≢true c)
in_covered family.V6 family.Both a c of = absurd (false≢true c)

module _ (slots : Slots) (bindings : List Binding) (ascend : SortKeysAscend binding_sort_key bindings) (tables : Tables) (same : HaveSame bindings (bindings_of tables))
    (w : Wanted) (same_locals : w.locals ≡ tables.locals) (small : w.moment < for_ever) (side : Direction) (url : List ℕ) where
  abbrev rows_for : Owner → List Row
  rows_for o = rows_of_side o side (rows_of slots bindings)

  module _ (o : Owner) (held : UrlPolicy) (holds : held_by slots o ≡ Some held) (n : ℕ) (e : Entry) (stands : entry_at n (entries_of side held.policy) ≡ Some e)
      (named : (a : Addr) → list_all (λ s. meets tables w.moment held.url s a) e.selectors ≡ list_all (λ s. meets tables w.moment url s a) e.selectors) (covered : covers e.family w.family ≡ true) where
    abbrev kept : List Row
    kept = filter (is_wanted w n e) (rows_for o)

    abbrev by_rows : List Addr
    by_rows = map (λ (row : Row). row.addr) kept

    abbrev by_tables : List Addr
    by_tables = filter (is_listed tables w.moment url w.family e) (table_addrs tables)

    hosts_of : (rows : List Row) → map host_network rows ≡ map addr_network (map (λ (row : Row). row.addr) rows)
    unfolding host_network addr_network
    hosts_of [] = refl
    hosts_of (row ∷ rows) = ap (λ ps. host_network row ∷ ps) (hosts_of rows)

    of_rows : wanted_networks w n e (rows_for o) ≡ map addr_network by_rows
    unfolding wanted_networks
    of_rows = hosts_of kept

    -- the addresses of rows are of the version
    row_version : (a : Addr) → list_any (λ p. prefix_holds p a) (map addr_network by_rows) ≡ true → is_in_family w.family a ≡ true
    unfolding is_wanted host_network addr_network
    row_version a h =
        any_tells (λ row. is_wanted w n e row && prefix_holds (host_network row) a) (rows_for o)
        (λ row is.
        let want : is_wanted w n e row ≡ true = left_of (is_wanted w n e row) (prefix_holds (host_network row) a) is in
        let live : (is_live row.until w.moment && (is_in_family w.family row.addr && near_matches e row.addr w.locals)) ≡ true = right_of (nat_eq row.entry n) _ want in
        subst (λ c. is_in_family w.family c ≡ true) (sym (same_addr_exact a row.addr (sym (network_of row.addr a) ∙ right_of (is_wanted w n e row) (prefix_holds (host_network row) a) is)))
        (left_of (is_in_family w.family row.addr) (near_matches e row.addr w.locals) (right_of (is_live row.until w.moment) _ live)))
        (sym (any-filter (λ row. prefix_holds (host_network row) a) (is_wanted w n e) (rows_for o))
        ∙ sym (any-map (λ p. prefix_holds p a) host_network kept)
        ∙ ap (λ ps. list_any (λ p. prefix_holds p a) ps) (hosts_of kept)
        ∙ h)

    member_met : (a : Addr) → is_membered e ≡ true → is_in_family w.family a ≡ true → (live_expiry w.moment (entry_expiry bindings held.url e a) && near_matches e a w.locals) ≡ is_listed tables w.moment url w.family e a
    unfolding is_listed
    member_met a member of =
        sym (or-false (live_expiry w.moment (entry_expiry bindings held.url e a) && near_matches e a w.locals))
        ∙ ap (λ b. (live_expiry w.moment (entry_expiry bindings held.url e a) && near_matches e a w.locals) || (not b && near_matches e a w.locals)) (sym member)
        ∙ entry_alike bindings ascend held.url e a w.moment small (near_matches e a w.locals) (λ near. in_covered e.family w.family a covered of)
        ∙ entry_met bindings tables same w.locals same_locals w.moment small held.url a e
        ∙ named a
        ∙ ap (λ b. b && list_all (λ s. meets tables w.moment url s a) e.selectors) (sym of)

    held_alike : (a : Addr) → is_membered e ≡ true → is_in_family w.family a ≡ true → list_any (λ p. prefix_holds p a) (map addr_network by_rows) ≡ list_any (λ p. prefix_holds p a) (map addr_network by_tables)
    unfolding member_networks
    held_alike a member of =
        ap (λ ps. list_any (λ p. prefix_holds p a) ps) (sym of_rows)
        ∙ sym (any-in_order (λ p. prefix_holds p a) (wanted_networks w n e (rows_for o)))
        ∙ any_member slots bindings w o side held holds n e stands a of
        ∙ member_met a member of
        ∙ sym (any_listed tables w.moment url w.family e a member)
        ∙ any-in_order (λ p. prefix_holds p a) (map addr_network by_tables)

    listed_version : (a : Addr) → is_membered e ≡ true → list_any (λ p. prefix_holds p a) (map addr_network by_tables) ≡ true → is_in_family w.family a ≡ true
    unfolding is_listed
    listed_version a member h =
        left_of (is_in_family w.family a) (list_all (λ s. meets tables w.moment url s a) e.selectors)
        (sym (any_listed tables w.moment url w.family e a member) ∙ any-in_order (λ p. prefix_holds p a) (map addr_network by_tables) ∙ h)

    tests_both : is_membered e ≡ true → (t : Prefix → Bool) → list_any t (map addr_network by_rows) ≡ list_any t (map addr_network by_tables)
    tests_both member t = both_ways (list_any t (map addr_network by_rows)) (list_any t (map addr_network by_tables))
        (no_more t by_rows by_tables (λ a h. sym (held_alike a member (row_version a h)) ∙ h))
        (no_more t by_tables by_rows (λ a h. held_alike a member (listed_version a member h) ∙ h))

    members_alike : is_membered e ≡ true → member_networks w (rows_for o) n e ≡ addr_networks tables w.moment url w.family e
    unfolding member_networks
    members_alike member = in_order_alike (wanted_networks w n e (rows_for o)) (map addr_network by_tables) (λ t. ap (λ ps. list_any t ps) of_rows ∙ tests_both member t)

    networks_by : (b : Bool) → is_membered e ≡ b
        → cond b (map Some (member_networks w (rows_for o) n e)) (cond (has_near e) (map Some (near_networks w.family w.locals e)) (None ∷ []))
        ≡ cond b (map Some (addr_networks tables w.moment url w.family e)) (cond (has_near e) (map Some (near_networks w.family tables.locals e)) (None ∷ []))
    networks_by true is = ap (λ ps. map Some ps) (members_alike is)
    networks_by false is = ap (λ ls. cond (has_near e) (map Some (near_networks w.family ls e)) (None ∷ [])) same_locals

    pub networks_alike : entry_networks w (rows_for o) n e ≡ listed_networks tables w.moment url w.family e
    unfolding entry_networks listed_networks
    networks_alike = networks_by (is_membered e) refl

  -- ---- Items

  items_back : (e : Entry) (items : List Resolved) → items ≡ map item_of (map (list_item e) items)
  items_back e [] = refl
  items_back e (item ∷ items) = ap (λ rest. item ∷ rest) (items_back e items)

  module _ (o : Owner) (held : UrlPolicy) (holds : held_by slots o ≡ Some held) (rule_at : ℕ → RuleNumber) (n : ℕ) (e : Entry) (stands : entry_at n (entries_of side held.policy) ≡ Some e)
      (named : (a : Addr) → list_all (λ s. meets tables w.moment held.url s a) e.selectors ≡ list_all (λ s. meets tables w.moment url s a) e.selectors) where
    items_by : (c : Bool) → covers e.family w.family ≡ c
        → cond c (items_from (rule_at n) 1 (entry_networks w (rows_for o) n e)) [] ≡ map item_of (cond c (map (list_item e) (items_from (rule_at n) 1 (listed_networks tables w.moment url w.family e))) [])
    items_by true is =
        ap (λ networks. items_from (rule_at n) 1 networks) (networks_alike o held holds n e stands named is)
        ∙ items_back e (items_from (rule_at n) 1 (listed_networks tables w.moment url w.family e))
    items_by false is = refl

    items_alike : entry_items w rule_at (rows_for o) (n, e) ≡ map item_of (listed_items tables w.moment url w.family (rule_at n) e)
    unfolding entry_items listed_items
    items_alike = items_by (covers e.family w.family) refl

  map-append : (xs ys : List ListItem) → map item_of (xs ++ ys) ≡ map item_of xs ++ map item_of ys
  map-append [] ys = refl
  map-append (x ∷ xs) ys = ap (λ items. item_of x ∷ items) (map-append xs ys)

  file_alike : (o : Owner) (held : UrlPolicy) → held_by slots o ≡ Some held → held.url ≡ url → (n : ℕ) (es : List Entry) → IsRest (entries_of side held.policy) n es
      → flat_map (entry_items w rule.File (rows_for o)) (numbered n es) ≡ map item_of (listed_file tables w.moment url w.family n es)
  unfolding numbered listed_file
  file_alike o held holds is n [] rest = refl
  file_alike o held holds is n (e ∷ es) rest =
      (λ i. items_alike o held holds rule.File n e (rest_first (entries_of side held.policy) n e es rest) (λ a j. list_all (λ s. meets tables w.moment (is j) s a) e.selectors) i
      ++ file_alike o held holds is (n + 1) es (rest_next (entries_of side held.policy) n e es rest) i)
      ∙ sym (map-append (listed_items tables w.moment url w.family (rule.File n) e) (listed_file tables w.moment url w.family (n + 1) es))

  -- the default entries name no URL
  unnamed : (which : DefaultRule) (a : Addr) → list_all (λ s. meets tables w.moment [] s a) (default_entry which side).selectors ≡ list_all (λ s. meets tables w.moment url s a) (default_entry which side).selectors
  unfolding default_entry meets
  unnamed which a = refl

  defaults_alike : (part : Part) → IsPartOf (rows_of slots bindings) side Default default_policy part
      → part_items w default_rule part ≡ map item_of (listed_default tables w.moment url w.family side Dns ++ listed_default tables w.moment url w.family side Ntp)
  unfolding part_items numbered default_rule default_held held_by entry_at
  defaults_alike part is =
      let entries : part.entries ≡ defaults_of side = is.entries ∙ entries_default side in
      let own : entries_of side default_policy ≡ defaults_of side = entries_default side in
      let dns = default_entry Dns side in
      let ntp = default_entry Ntp side in
      (λ i. flat_map (entry_items w default_rule (is.rows_are i)) (numbered 1 (entries i)))
      ∙ (λ i. items_alike Default default_held refl default_rule 1 dns (ap (λ es. entry_at 1 es) own) (unnamed Dns) i
      ++ (items_alike Default default_held refl default_rule 2 ntp (ap (λ es. entry_at 2 es) own) (unnamed Ntp) i ++ []))
      ∙ ap (λ items. map item_of (listed_items tables w.moment url w.family (rule.Default Dns) dns) ++ items) (append-nil (map item_of (listed_items tables w.moment url w.family (rule.Default Ntp) ntp)))
      ∙ sym (map-append (listed_items tables w.moment url w.family (rule.Default Dns) dns) (listed_items tables w.moment url w.family (rule.Default Ntp) ntp))

  whole_by : (h : Option Holder) (file : Option Part) (defaults : Part) → holder_from url 0 slots ≡ h → IsFilePart (rows_of slots bindings) side h file → IsPartOf (rows_of slots bindings) side Default default_policy defaults
      → file_items w file ++ part_items w default_rule defaults ≡ map item_of (listed_of tables w.moment url w.family (option_map holder_policy h) side)
  unfolding file_items part_items listed_of listed_file
  whole_by None None defaults holder file rest = defaults_alike defaults rest
  whole_by None (Some part) defaults holder file rest = absurd file
  whole_by (Some h) None defaults holder file rest = absurd file
  whole_by (Some h) (Some part) defaults holder file rest =
      let held : IsHolder slots url h = holder_sound slots url 0 slots h (λ i. ap (slice_get slots) {x = 0 + i} {y = i} (omega arith)) holder in
      (λ i. flat_map (entry_items w rule.File (file.rows_are i)) (numbered 1 (file.entries i)) ++ part_items w default_rule defaults)
      ∙ (λ i. file_alike h.0 h.1 held.holds held.named 1 (entries_of side h.1.policy) (all_rest (entries_of side h.1.policy)) i ++ defaults_alike defaults rest i)
      ∙ sym (map-append (listed_file tables w.moment url w.family 1 (entries_of side h.1.policy)) (listed_default tables w.moment url w.family side Dns ++ listed_default tables w.moment url w.family side Ntp))

-- The list of a view has the items of the list by the tables.
pub same_items : (slots : Slots) (bindings : List Binding) (tables : Tables) (url : List ℕ) (policy : Option Policy) (side : Direction) (view : View) (w : Wanted)
    → IsViewOver slots bindings url policy side view → HaveSame bindings (bindings_of tables) → w.locals ≡ tables.locals → w.moment < for_ever
    → resolved_of w view ≡ map item_of (listed_of tables w.moment url w.family policy side)
unfolding resolved_of
same_items slots bindings tables url policy side view w is same locals small =
    whole_by slots bindings is.ascend tables same w locals small side url (holder_from url 0 slots) view.file view.defaults refl is.lends.file is.lends.defaults
    ∙ ap (λ p. map item_of (listed_of tables w.moment url w.family p side)) is.held

-- ---- The text

-- the view has the item's entry
abbrev HasEntry : View → ListItem → Type 0
HasEntry view listed = entry_of view listed.item.rule ≡ Some listed.entry

module _ (view : View) (version : Family) where
  text_alike : (listed : ListItem) → HasEntry view listed → resolved_text view version listed.item ≡ listed_text view.side version listed
  unfolding resolved_text listed_text
  text_alike listed has = ap (λ o. option_map_or (item_text view.side version listed.item) o []) has

  later_alike : (items : List ListItem) → AllByRecursion (HasEntry view) items → flat_map (behind_comma (resolved_text view version)) (map item_of items) ≡ flat_map (behind_comma (listed_text view.side version)) items
  later_alike [] has = refl
  later_alike (x ∷ xs) has = λ i. behind_text (text_alike x has.0 i) ++ later_alike xs has.1 i
    where
      behind_text : List ℕ → List ℕ
      behind_text text = codes "," ++ text

  texts_alike : (items : List ListItem) → AllByRecursion (HasEntry view) items → with_commas (resolved_text view version) (map item_of items) ≡ with_commas (listed_text view.side version) items
  unfolding with_commas
  texts_alike [] has = refl
  texts_alike (x ∷ xs) has = λ i. text_alike x has.0 i ++ later_alike xs has.1 i

  module _ (tables : Tables) (now : ℕ) (url : List ℕ) where
    all_from : (r : RuleNumber) (e : Entry) → entry_of view r ≡ Some e → (k : ℕ) (networks : List (Option Prefix)) → AllByRecursion (HasEntry view) (map (list_item e) (items_from r k networks))
    unfolding items_from
    all_from r e has k [] = tt
    all_from r e has k (network ∷ networks) = (has, all_from r e has (k + 1) networks)

    all_items : (r : RuleNumber) (e : Entry) → entry_of view r ≡ Some e → AllByRecursion (HasEntry view) (listed_items tables now url version r e)
    unfolding listed_items
    all_items r e has = by (covers e.family version)
      where
        by : (c : Bool) → AllByRecursion (HasEntry view) (cond c (map (list_item e) (items_from r 1 (listed_networks tables now url version e))) [])
        by true = all_from r e has 1 (listed_networks tables now url version e)
        by false = tt

    all_file : (part : Part) → view.file ≡ Some part → (n : ℕ) (es : List Entry) → IsRest part.entries n es → AllByRecursion (HasEntry view) (listed_file tables now url version n es)
    unfolding listed_file entry_of
    all_file part is n [] rest = tt
    all_file part is n (e ∷ es) rest =
        all-append (HasEntry view) (listed_items tables now url version (rule.File n) e) (listed_file tables now url version (n + 1) es)
        (all_items (rule.File n) e (ap (λ o. option_and_then (λ p. entry_at n p.entries) o) is ∙ rest_first part.entries n e es rest))
        (all_file part is (n + 1) es (rest_next part.entries n e es rest))

    all_defaults : (side : Direction) → view.defaults.entries ≡ defaults_of side → AllByRecursion (HasEntry view) (listed_default tables now url version side Dns ++ listed_default tables now url version side Ntp)
    unfolding entry_of entry_at
    all_defaults side entries =
        all-append (HasEntry view) (listed_default tables now url version side Dns) (listed_default tables now url version side Ntp)
        (all_items (rule.Default Dns) (default_entry Dns side) (ap (entry_at 1) entries))
        (all_items (rule.Default Ntp) (default_entry Ntp side) (ap (entry_at 2) entries))

    all_of : (rows : List Row) (side : Direction) (h : Option Holder) (file : Option Part) → view.file ≡ file → IsFilePart rows side h file → view.defaults.entries ≡ defaults_of side
        → AllByRecursion (HasEntry view) (listed_of tables now url version (option_map holder_policy h) side)
    unfolding listed_of listed_file
    all_of rows side None None is part entries = all_defaults side entries
    all_of rows side None (Some p) is part entries = absurd part
    all_of rows side (Some h) None is part entries = absurd part
    all_of rows side (Some h) (Some p) is part entries =
        all-append (HasEntry view) (listed_file tables now url version 1 (entries_of side h.1.policy)) (listed_default tables now url version side Dns ++ listed_default tables now url version side Ntp)
        (all_file p is 1 (entries_of side h.1.policy) (subst (λ es. IsRest p.entries 1 es) part.entries (all_rest p.entries)))
        (all_defaults side entries)

-- The list of a view has the text of the list by the tables.
pub same_text : (slots : Slots) (bindings : List Binding) (tables : Tables) (url : List ℕ) (policy : Option Policy) (side : Direction) (view : View) (w : Wanted)
    → IsViewOver slots bindings url policy side view → HaveSame bindings (bindings_of tables) → w.locals ≡ tables.locals → w.moment < for_ever
    → with_commas (resolved_text view w.family) (resolved_of w view) ≡ with_commas (listed_text side w.family) (listed_of tables w.moment url w.family policy side)
same_text slots bindings tables url policy side view w is same locals small =
    let list : List ListItem = listed_of tables w.moment url w.family policy side in
    let has : AllByRecursion (HasEntry view) list =
    subst (λ p. AllByRecursion (HasEntry view) (listed_of tables w.moment url w.family p side)) is.held
    (all_of view w.family tables w.moment url (rows_of slots bindings) side (holder_from url 0 slots) view.file refl is.lends.file (is.lends.defaults.entries ∙ entries_default side)) in
    ap (with_commas (resolved_text view w.family)) (same_items slots bindings tables url policy side view w is same locals small)
    ∙ texts_alike view w.family list has
    ∙ ap (λ s. with_commas (listed_text s w.family) list) is.lends.side_is
