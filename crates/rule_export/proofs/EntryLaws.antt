-- The items of one entry: one of them matches exactly where the entry does, by the bindings.
use Rattle.std.proofs.Common.{◌≡◌, ◌≢◌, ℕ, ◌+◌, ◌<◌, Bool, true, false, cond, not, ◌&&◌, ◌||◌, List, [], ◌∷◌, map, Option, Some, None, refl, sym, ap, subst, ◌∙◌}
use Rattle.std.specs.Prelude.{nat_eq}
use Rattle.std.specs.Option.{option_map, option_map_or}
use Rattle.std.specs.List.{list_any, list_all, filter}
use Rattle.std.proofs.Math.Nat.{div-one}
use Rattle.std.proofs.lemmas.Bool.{false≢true, eqb-true, eq-eqb}
use Rattle.std.proofs.Math.Bool.{or-false, and_assoc, and-false}
use Rattle.base_rows.specs.Sortable.{same_sort_key, SortKeysAscend, is_under}
use Rattle.base_rows.proofs.SortableLaws.{same_sort_key_exact, same_sort_key_itself}
use Rattle.base_rows.proofs.RowSets.{tested_at}
use Rattle.base_rows.proofs.ListTests.{both_ways, left_of, right_of, both, any-map, or_first}
use Rattle.mud_base.specs.Addresses.{same_addr, addr_bits, same_front, prefix_holds}
use Rattle.mud_base.specs.declared.addr.Addr.{Addr}
use Rattle.mud_base.specs.declared.addr.Addr.TheVariants.{V4, V6}
use Rattle.mud_base.specs.declared.addr.Family.{Family}
use Rattle.mud_base.specs.declared.addr.Family.TheVariants as family
use Rattle.mud_base.specs.declared.prefix.Prefix.{Prefix}
use Rattle.mud_base.specs.declared.packet.Direction.{Direction}
use Rattle.mud_base.specs.declared.packet.Direction.TheVariants.{From, To}
use Rattle.mud_base.specs.declared.packet.Fields.{Fields}
use Rattle.acl_model.specs.declared.entry.Selector.{Selector}
use Rattle.acl_model.specs.declared.entry.Entry.{Entry}
use Rattle.acl_model.specs.declared.binding.Binding.{Binding}
use Rattle.acl_model.specs.Keys.{is_member, is_membered}
use Rattle.acl_model.specs.Match.{peer_of, is_in_family, family_matches, own_of, prefix_passes, header_matches, layer_matches, near_met, near_matches, rest_matches}
use Rattle.acl_model.specs.FirstMatch.{entries_of}
use Rattle.acl_model.specs.SortKeys.{binding_sort_key}
use Rattle.acl_model.specs.Policies.{UrlPolicy}
use Rattle.acl_model.proofs.BindingLaws.{same_addr_exact, same_addr_itself}
use Rattle.acl_rows.specs.declared.row.Owner.{Owner}
use Rattle.acl_rows.specs.declared.row.Row.{Row}
use Rattle.acl_rows.specs.SortKeys.{row_sort_key, sort_key_at, peer_sort_key, side_sort_key}
use Rattle.acl_rows.specs.Rows.{for_ever, row, member_keys, least_expiry, entry_at, entry_expiry, held_by, Slots, rows_of}
use Rattle.acl_rows.specs.View.{View, rows_of_side, is_at}
use Rattle.acl_rows.proofs.Coordinates.{AreSame, same_coordinates}
use Rattle.acl_rows.proofs.Parts.{under_peer, sort_key_under}
use Rattle.acl_rows.proofs.Sound.{expiry_at-entry}
use Rattle.acl_rows.proofs.AtSortKeys.{row_at-rows_of, ascend-rows_of}
use Rattle.table_model.specs.Expiries.{is_live}
use Rattle.table_model.specs.Bindings.{members_met, matches_by_bindings}
use Rattle.packet_judge.proofs.LiveBindings.{live_expiry, entry_alike}
use Rattle.packet_judge.proofs.FirstRow.{under_at}
use Rattle.rule_export.specs.Networks.{is_near, has_near, near_networks}
use Rattle.rule_export.proofs.ChoiceLaws.{any_alike}
use Rattle.rule_export.proofs.NetworkLaws.{any-in_order, networks_hold}
use Rattle.rule_export.specs.declared.item.RuleNumber.{RuleNumber}
use Rattle.rule_export.specs.declared.item.Resolved.{Resolved}
use Rattle.rule_export.specs.Listed.{covers, items_from}
use Rattle.rule_export.specs.Resolved.{Wanted, is_wanted, host_network, wanted_networks, member_networks, entry_networks, entry_items}
use Rattle.rule_export.specs.Ruling.{entry_of, entry_passes, item_passes}

-- ---- The version

pub one_version : (f g : Family) (fields : Fields) → f ≢ family.Both → family_matches f fields ≡ true → family_matches g fields ≡ covers g f
unfolding family_matches covers is_in_family
one_version f g fields one of = by f g fields.src fields.dst one of
  where
    by : (f g : Family) (a b : Addr) → f ≢ family.Both → (is_in_family f a && is_in_family f b) ≡ true → (is_in_family g a && is_in_family g b) ≡ covers g f
    by family.V4 family.V4 a b one of = of
    by family.V4 family.V6 (V4 n) b one of = refl
    by family.V4 family.V6 (V6 n) b one of = absurd (false≢true of)
    by family.V4 family.Both a b one of = refl
    by family.V6 family.V4 (V4 n) b one of = absurd (false≢true of)
    by family.V6 family.V4 (V6 n) b one of = refl
    by family.V6 family.V6 a b one of = of
    by family.V6 family.Both a b one of = refl
    by family.Both g a b one of = absurd (one refl)

pub peer_version : (f : Family) (side : Direction) (fields : Fields) → family_matches f fields ≡ true → is_in_family f (peer_of side fields) ≡ true
unfolding family_matches peer_of
peer_version f From fields of = right_of (is_in_family f fields.src) (is_in_family f fields.dst) of
peer_version f To fields of = left_of (is_in_family f fields.src) (is_in_family f fields.dst) of

-- ---- The network of an address

pub host_holds : (a b : Addr) → same_front (addr_bits a) a b ≡ same_addr b a
unfolding addr_bits same_addr
host_holds (V4 n) (V4 k) = (λ i. nat_eq (div-one n i) (div-one k i)) ∙ turned n k
  where
    turned : (n k : ℕ) → nat_eq n k ≡ nat_eq k n
    turned n k = both_ways (nat_eq n k) (nat_eq k n) (λ e. eq-eqb k n (sym (eqb-true n k e))) (λ e. eq-eqb n k (sym (eqb-true k n e)))
host_holds (V4 n) (V6 k) = refl
host_holds (V6 n) (V4 k) = refl
host_holds (V6 n) (V6 k) = (λ i. nat_eq (div-one n i) (div-one k i)) ∙ turned n k
  where
    turned : (n k : ℕ) → nat_eq n k ≡ nat_eq k n
    turned n k = both_ways (nat_eq n k) (nat_eq k n) (λ e. eq-eqb k n (sym (eqb-true n k e))) (λ e. eq-eqb n k (sym (eqb-true k n e)))

-- ---- Lists

any_kept_by : {A : Type 0} (h f : A → Bool) (x : A) (xs : List A) → list_any h (filter f xs) ≡ list_any (λ y. f y && h y) xs → (b : Bool) → list_any h (cond b (x ∷ filter f xs) (filter f xs)) ≡ ((b && h x) || list_any (λ y. f y && h y) xs)
any_kept_by h f x xs rest true = ap (λ b. h x || b) rest
any_kept_by h f x xs rest false = rest

pub any-filter : {A : Type 0} (h f : A → Bool) (xs : List A) → list_any h (filter f xs) ≡ list_any (λ x. f x && h x) xs
any-filter h f [] = refl
any-filter h f (x ∷ xs) = any_kept_by h f x xs (any-filter h f xs) (f x)

-- ---- An entry with neither kind of selector asks for nothing

not_near : (s : Selector) → is_member s ≡ false → is_near s ≡ false → ⊥
unfolding is_near
not_near s e f = false≢true (sym f ∙ ap not e)

pub none_near : (locals : List Prefix) (a : Addr) (ss : List Selector) → list_any is_member ss ≡ false → list_any is_near ss ≡ false → list_all (near_met locals a) ss ≡ true
none_near locals a [] member near = refl
none_near locals a (s ∷ ss) member near = absurd (not_near s (or_first (is_member s) (list_any is_member ss) member) (or_first (is_near s) (list_any is_near ss) near))

-- ---- The items of an entry

module _ (view : View) (fields : Fields) (begun : Option Direction) where
  abbrev test : Resolved → Bool
  test item = item_passes view fields begun item

  abbrev peer : Addr
  peer = peer_of view.side fields

  pub any_items : (r : RuleNumber) (e : Entry) → entry_of view r ≡ Some e → (k : ℕ) (networks : List (Option Prefix)) → list_any test (items_from r k networks) ≡ (list_any (λ o. prefix_passes o peer) networks && rest_matches e fields view.side begun)
  unfolding items_from item_passes entry_passes
  any_items r e is k [] = refl
  any_items r e is k (n ∷ ns) =
      (λ i. option_map_or (entry_passes view.side fields begun n) (is i) false || any_items r e is (k + 1) ns i)
      ∙ joined (prefix_passes n peer) (list_any (λ o. prefix_passes o peer) ns) (rest_matches e fields view.side begun)
    where
      joined : (a b c : Bool) → ((a && c) || (b && c)) ≡ ((a || b) && c)
      joined true true true = refl
      joined true true false = refl
      joined true false true = refl
      joined true false false = refl
      joined false b c = refl

-- ---- The rows of an entry

module _ (slots : Slots) (bindings : List Binding) (w : Wanted) (o : Owner) (s : Direction) (held : UrlPolicy) (holds : held_by slots o ≡ Some held) (n : ℕ) (e : Entry) (numbered : entry_at n (entries_of s held.policy) ≡ Some e) (a : Addr) (of : is_in_family w.family a ≡ true) where
  abbrev all : List Row
  all = rows_of slots bindings

  -- the row is live, and the address meets the near selectors
  row_test : Row → Bool
  row_test r = is_live r.until w.moment && near_matches e a w.locals

  abbrev asked : Row → Bool
  asked r = is_under row_sort_key (side_sort_key o s) r && (is_wanted w n e r && prefix_holds (host_network r) a)

  record Coincide (r : Row) : Type 0 where
    pub under : is_under row_sort_key (side_sort_key o s) r ≡ true
    pub addr : r.addr ≡ a
    pub entry : r.entry ≡ n

  coincide : (r : Row) → same_sort_key (row_sort_key r) (sort_key_at o s a n) ≡ true → Coincide r
  unfolding row_sort_key
  coincide r same =
      let under : is_under row_sort_key (peer_sort_key o s a) r ≡ true = sort_key_under o s a n r same in
      let is : AreSame r.owner o r.side s r.addr a r.entry n = same_coordinates r.owner o r.side s r.addr a r.entry n (same_sort_key_exact (row_sort_key r) (sort_key_at o s a n) same) in
      record { under = left_of (is_under row_sort_key (side_sort_key o s) r) (is_at a r) (sym (under_peer o s a r) ∙ under); addr = is.addr; entry = is.number }

  coinciding : (r : Row) → Coincide r → same_sort_key (row_sort_key r) (sort_key_at o s a n) ≡ true
  unfolding is_at
  coinciding r c =
      let at : is_at a r ≡ true = ap (same_addr a) c.addr ∙ same_addr_itself a in
      let under : is_under row_sort_key (peer_sort_key o s a) r ≡ true = under_peer o s a r ∙ both (is_under row_sort_key (side_sort_key o s) r) (is_at a r) c.under at in
      let sort_key : row_sort_key r ≡ sort_key_at o s a n = under_at o s a r under ∙ ap (sort_key_at o s a) c.entry in
      subst (λ p. same_sort_key p (sort_key_at o s a n) ≡ true) (sym sort_key) (same_sort_key_itself (sort_key_at o s a n))

  to_sort_key : (r : Row) → asked r ≡ true → (same_sort_key (row_sort_key r) (sort_key_at o s a n) && row_test r) ≡ true
  unfolding is_wanted host_network prefix_holds row_test
  to_sort_key r h =
      let under = left_of (is_under row_sort_key (side_sort_key o s) r) _ h in
      let rest = right_of (is_under row_sort_key (side_sort_key o s) r) _ h in
      let want : is_wanted w n e r ≡ true = left_of (is_wanted w n e r) (prefix_holds (host_network r) a) rest in
      let addr : r.addr ≡ a = sym (same_addr_exact a r.addr (sym (host_holds r.addr a) ∙ right_of (is_wanted w n e r) (prefix_holds (host_network r) a) rest)) in
      let entry : r.entry ≡ n = eqb-true r.entry n (left_of (nat_eq r.entry n) _ want) in
      let live : (is_live r.until w.moment && (is_in_family w.family r.addr && near_matches e r.addr w.locals)) ≡ true = right_of (nat_eq r.entry n) _ want in
      let near : near_matches e a w.locals ≡ true = subst (λ x. near_matches e x w.locals ≡ true) addr (right_of (is_in_family w.family r.addr) _ (right_of (is_live r.until w.moment) _ live)) in
      both (same_sort_key (row_sort_key r) (sort_key_at o s a n)) (row_test r) (coinciding r (record { under = under; addr = addr; entry = entry }))
      (both (is_live r.until w.moment) (near_matches e a w.locals) (left_of (is_live r.until w.moment) _ live) near)

  from_sort_key : (r : Row) → (same_sort_key (row_sort_key r) (sort_key_at o s a n) && row_test r) ≡ true → asked r ≡ true
  unfolding is_wanted host_network prefix_holds row_test
  from_sort_key r h =
      let c : Coincide r = coincide r (left_of (same_sort_key (row_sort_key r) (sort_key_at o s a n)) (row_test r) h) in
      let t : row_test r ≡ true = right_of (same_sort_key (row_sort_key r) (sort_key_at o s a n)) (row_test r) h in
      let want : is_wanted w n e r ≡ true =
      both (nat_eq r.entry n) _ (eq-eqb r.entry n c.entry) (both (is_live r.until w.moment) _ (left_of (is_live r.until w.moment) _ t)
      (both (is_in_family w.family r.addr) _ (ap (is_in_family w.family) c.addr ∙ of) (subst (λ x. near_matches e x w.locals ≡ true) (sym c.addr) (right_of (is_live r.until w.moment) _ t)))) in
      both (is_under row_sort_key (side_sort_key o s) r) _ c.under (both (is_wanted w n e r) _ want (host_holds r.addr a ∙ subst (λ x. same_addr a x ≡ true) (sym c.addr) (same_addr_itself a)))

  on_expiry : (u : Option ℕ) → option_map_or row_test (option_map (row o s a n) u) false ≡ (live_expiry w.moment u && near_matches e a w.locals)
  unfolding row_test row live_expiry
  on_expiry None = refl
  on_expiry (Some u) = refl

  -- one of the networks of the rows holds the address exactly where its expiry is live, and it meets the near selectors
  pub any_member : list_any (λ p. prefix_holds p a) (member_networks w (rows_of_side o s all) n e) ≡ (live_expiry w.moment (entry_expiry bindings held.url e a) && near_matches e a w.locals)
  unfolding member_networks wanted_networks rows_of_side
  any_member =
      any-in_order (λ p. prefix_holds p a) (map host_network (filter (is_wanted w n e) (filter (is_under row_sort_key (side_sort_key o s)) all)))
      ∙ any-map (λ p. prefix_holds p a) host_network (filter (is_wanted w n e) (filter (is_under row_sort_key (side_sort_key o s)) all))
      ∙ any-filter (λ r. prefix_holds (host_network r) a) (is_wanted w n e) (filter (is_under row_sort_key (side_sort_key o s)) all)
      ∙ any-filter (λ r. is_wanted w n e r && prefix_holds (host_network r) a) (is_under row_sort_key (side_sort_key o s)) all
      ∙ any_alike asked (λ r. same_sort_key (row_sort_key r) (sort_key_at o s a n) && row_test r) all (λ r. both_ways (asked r) (same_sort_key (row_sort_key r) (sort_key_at o s a n) && row_test r) (to_sort_key r) (from_sort_key r))
      ∙ tested_at row_sort_key (sort_key_at o s a n) row_test all (ascend-rows_of slots bindings)
      ∙ ap (λ x. option_map_or row_test x false) (row_at-rows_of slots bindings o s a n ∙ ap (option_map (row o s a n)) (expiry_at-entry slots bindings o s a n held e holds numbered))
      ∙ on_expiry (entry_expiry bindings held.url e a)

-- ---- The whole match of an entry

module _ (slots : Slots) (bindings : List Binding) (ascend : SortKeysAscend binding_sort_key bindings) (w : Wanted) (small : w.moment < for_ever) (one : w.family ≢ family.Both) (view : View) (fields : Fields) (begun : Option Direction) (of : family_matches w.family fields ≡ true) where
  -- the match by the bindings
  unfoldable pub matched : List ℕ → Entry → Bool
  matched url e = matches_by_bindings bindings w.locals w.moment url view.side fields begun e

  abbrev at_peer : Addr
  at_peer = peer_of view.side fields

  abbrev near : Entry → Bool
  near e = near_matches e at_peer w.locals

  abbrev rest : Entry → Bool
  rest e = rest_matches e fields view.side begun

  of_entry : (e : Entry) → (near e && rest e) ≡ true → is_in_family e.family at_peer ≡ true
  unfolding rest_matches
  of_entry e p = peer_version e.family view.side fields (left_of (family_matches e.family fields) _ (left_of _ _ (left_of _ _ (right_of (near e) (rest e) p))))

  some_holds : (ps : List Prefix) → list_any (λ o. prefix_passes o at_peer) (map Some ps) ≡ list_any (λ p. prefix_holds p at_peer) ps
  unfolding prefix_passes
  some_holds ps = any-map (λ o. prefix_passes o at_peer) Some ps

  member_by : (url : List ℕ) (e : Entry) (live : Bool) → ((live && (near e && rest e)) || (not true && (near e && rest e))) ≡ (members_met bindings url e at_peer w.moment && (near e && rest e)) → ((live && near e) && rest e) ≡ matched url e
  unfolding matched matches_by_bindings
  member_by url e live alike = and_assoc live (near e) (rest e) ∙ sym (or-false (live && (near e && rest e))) ∙ alike

  wide_by : (url : List ℕ) (e : Entry) → is_membered e ≡ false → (near e && rest e) ≡ matched url e
  unfolding matched matches_by_bindings entry_expiry live_expiry
  wide_by url e plain =
      sym (λ i. (live_expiry w.moment (cond (plain i && is_in_family e.family at_peer) (least_expiry bindings at_peer for_ever (member_keys url e)) None) && (near e && rest e)) || (not (plain i) && (near e && rest e)))
      ∙ entry_alike bindings ascend url e at_peer w.moment small (near e && rest e) (of_entry e)

  other_version : (url : List ℕ) (e : Entry) → covers e.family w.family ≡ false → false ≡ matched url e
  unfolding matched matches_by_bindings rest_matches
  other_version url e apart =
      sym (and-false (members_met bindings url e at_peer w.moment))
      ∙ ap (λ b. members_met bindings url e at_peer w.moment && b) (sym (and-false (near e)) ∙ ap (λ b. near e && b)
      (ap (λ b. ((b && prefix_passes e.own (own_of view.side fields)) && header_matches e fields) && layer_matches e.layer fields.transport begun) (sym (one_version w.family e.family fields one of ∙ apart))))

  module _ (o : Owner) (held : UrlPolicy) (holds : held_by slots o ≡ Some held) (n : ℕ) (e : Entry) (numbered : entry_at n (entries_of view.side held.policy) ≡ Some e) where
    abbrev rows : List Row
    rows = rows_of_side o view.side (rows_of slots bindings)

    nets_by : (b d : Bool) → is_membered e ≡ b → has_near e ≡ d
        → (list_any (λ x. prefix_passes x at_peer) (cond b (map Some (member_networks w rows n e)) (cond d (map Some (near_networks w.family w.locals e)) (None ∷ []))) && rest e) ≡ matched held.url e
    unfolding prefix_passes has_near near_matches is_membered
    nets_by true d is near_is =
        ap (λ x. x && rest e) (some_holds (member_networks w rows n e) ∙ any_member slots bindings w o view.side held holds n e numbered at_peer (peer_version w.family view.side fields of))
        ∙ member_by held.url e (live_expiry w.moment (entry_expiry bindings held.url e at_peer))
        (ap (λ b. (live_expiry w.moment (entry_expiry bindings held.url e at_peer) && (near e && rest e)) || (not b && (near e && rest e))) (sym is)
        ∙ entry_alike bindings ascend held.url e at_peer w.moment small (near e && rest e) (of_entry e))
    nets_by false true is near_is =
        ap (λ x. x && rest e) (some_holds (near_networks w.family w.locals e) ∙ networks_hold w.family w.locals e at_peer near_is (peer_version w.family view.side fields of))
        ∙ wide_by held.url e is
    nets_by false false is near_is =
        ap (λ x. x && rest e) (sym (none_near w.locals at_peer e.selectors is near_is)) ∙ wide_by held.url e is

    items_by : (rule_at : ℕ → RuleNumber) → entry_of view (rule_at n) ≡ Some e → (c : Bool) → covers e.family w.family ≡ c
        → list_any (λ item. item_passes view fields begun item) (cond c (items_from (rule_at n) 1 (entry_networks w rows n e)) []) ≡ matched held.url e
    unfolding entry_networks
    items_by rule_at there true is = any_items view fields begun (rule_at n) e there 1 (entry_networks w rows n e) ∙ nets_by (is_membered e) (has_near e) refl refl
    items_by rule_at there false is = other_version held.url e is

    -- one of the items of an entry matches exactly where the entry does
    pub items_match : (rule_at : ℕ → RuleNumber) → entry_of view (rule_at n) ≡ Some e → list_any (λ item. item_passes view fields begun item) (entry_items w rule_at rows (n, e)) ≡ matched held.url e
    unfolding entry_items
    items_match rule_at there = items_by rule_at there (covers e.family w.family) refl
