-- The networks of an entry.
use Rattle.std.proofs.Common.{◌≡◌, ℕ, suc, ◌+◌, ◌<◌, length, get_or, drop, drop-cons, arith, Bool, true, false, cond, not, ◌&&◌, ◌||◌, List, [], ◌∷◌, ◌++◌, map, Option, Some, None, refl, sym, ap, ◌∙◌}
use Rattle.std.specs.Prelude.{flat_map}
use Rattle.std.specs.List.{filter_map, list_any, list_all, filter}
use Rattle.std.proofs.lemmas.Bool.{false≢true}
use Rattle.std.proofs.Math.Bool.{or-false}
use Rattle.base_rows.specs.Sortable.{set_row, set_rows}
use Rattle.base_rows.specs.Addresses.{addr_sort_key, prefix_sort_key}
use Rattle.base_rows.proofs.ListTests.{any-flat_map}
use Rattle.mud_base.specs.Addresses.{prefix_holds, same_front}
use Rattle.mud_base.specs.declared.addr.Addr.{Addr}
use Rattle.mud_base.specs.declared.addr.Addr.TheVariants.{V4, V6}
use Rattle.mud_base.specs.declared.addr.Family.{Family}
use Rattle.mud_base.specs.declared.addr.Family.TheVariants as version
use Rattle.mud_base.specs.declared.prefix.Prefix.{Prefix}
use Rattle.acl_model.specs.declared.entry.Selector.{Selector}
use Rattle.acl_model.specs.declared.entry.Selector.TheVariants as asks
use Rattle.acl_model.specs.declared.entry.Entry.{Entry}
use Rattle.acl_model.specs.Keys.{is_member}
use Rattle.acl_model.specs.Match.{is_in_family, is_local, near_met, near_matches}
use Rattle.rule_export.specs.Networks.{common_part, is_local_of, named_by, is_near, has_near, in_order, near_networks, joined_with, joint_with, joint, asked_networks}
use Rattle.rule_export.proofs.PrefixLaws.{of_address}
use Rattle.rule_export.proofs.ChoiceLaws.{any_alike, any-filter_map, commons, with_first, one_commons, more_commons, all_lists}
use Rattle.rule_export.proofs.RowTests.{any-ordered, ordered_alike}

-- ---- Sort keys

parts_by : (a b : Addr) (l k : ℕ) → addr_sort_key a ++ l ∷ [] ≡ addr_sort_key b ++ k ∷ [] → (a ≡ b) × (l ≡ k)
unfolding addr_sort_key
parts_by (V4 n) (V4 m) l k e = (cc, cc)
parts_by (V4 n) (V6 m) l k e = absurd cc
parts_by (V6 n) (V4 m) l k e = absurd cc
parts_by (V6 n) (V6 m) l k e = (cc, cc)

pub prefix_sort_key_exact : (p q : Prefix) → prefix_sort_key p ≡ prefix_sort_key q → p ≡ q
unfolding prefix_sort_key
prefix_sort_key_exact p q e = let parts = parts_by p.addr q.addr p.len q.len e in λ i. record { addr = parts.0 i; len = parts.1 i }

pub any-in_order : (t : Prefix → Bool) (ps : List Prefix) → list_any t (in_order ps) ≡ list_any t ps
unfolding in_order
any-in_order t ps = any-ordered prefix_sort_key prefix_sort_key_exact t ps

pub in_order_alike : (ps qs : List Prefix) → ((t : Prefix → Bool) → list_any t ps ≡ list_any t qs) → in_order ps ≡ in_order qs
unfolding in_order
in_order_alike ps qs alike = ordered_alike prefix_sort_key prefix_sort_key_exact ps qs alike

-- ---- What an address meets

same_version : (family : Family) (l : ℕ) (a b : Addr) → same_front l a b ≡ true → is_in_family family b ≡ true → is_in_family family a ≡ true
unfolding is_in_family
same_version family l (V4 n) (V6 k) e f = absurd (false≢true e)
same_version family l (V6 n) (V4 k) e f = absurd (false≢true e)
same_version version.V4 l (V4 n) (V4 k) e f = refl
same_version version.V6 l (V4 n) (V4 k) e f = f
same_version version.Both l (V4 n) (V4 k) e f = refl
same_version version.V4 l (V6 n) (V6 k) e f = f
same_version version.V6 l (V6 n) (V6 k) e f = refl
same_version version.Both l (V6 n) (V6 k) e f = refl

filter_by : {A : Type 0} (h f : A → Bool) (x : A) (xs : List A) → (h x ≡ true → f x ≡ true) → list_any h (filter f xs) ≡ list_any h xs → (b c : Bool) → f x ≡ b → h x ≡ c → list_any h (cond b (x ∷ filter f xs) (filter f xs)) ≡ (h x || list_any h xs)
filter_by h f x xs only rest true c e g = ap (λ b. h x || b) rest
filter_by h f x xs only rest false true e g = absurd (false≢true (sym e ∙ only g))
filter_by h f x xs only rest false false e g = rest ∙ ap (λ b. b || list_any h xs) (sym g)

-- what fails one test that another asks for can be left out
any-filter : {A : Type 0} (h f : A → Bool) (xs : List A) → ((x : A) → h x ≡ true → f x ≡ true) → list_any h (filter f xs) ≡ list_any h xs
any-filter h f [] only = refl
any-filter h f (x ∷ xs) only = filter_by h f x xs (only x) (any-filter h f xs only) (f x) (h x) refl refl

module _ (family : Family) (locals : List Prefix) (a : Addr) (of_family : is_in_family family a ≡ true) where
  abbrev holds : Prefix → Bool
  holds p = prefix_holds p a

  abbrev met : List Selector → Bool
  met ss = list_all (near_met locals a) ss

  abbrev names : List Selector → List (List Prefix)
  names ss = map (named_by family locals) (filter is_near ss)

  near_locals : list_any holds (filter (is_local_of family) locals) ≡ is_local locals a
  unfolding is_local_of is_local prefix_holds
  near_locals = any-filter holds (is_local_of family) locals (λ p e. same_version family p.len p.addr a e of_family)

  -- one of the prefixes of each near selector holds the address
  all_named : (ss : List Selector) → list_all (λ ps. list_any holds ps) (names ss) ≡ met ss
  unfolding is_near is_member named_by near_met
  all_named [] = refl
  all_named (asks.Controller uri ∷ ss) = all_named ss
  all_named (asks.MyController ∷ ss) = all_named ss
  all_named (asks.Manufacturer host ∷ ss) = all_named ss
  all_named (asks.SameManufacturer ∷ ss) = all_named ss
  all_named (asks.Model url ∷ ss) = all_named ss
  all_named (asks.Name name ∷ ss) = all_named ss
  all_named (asks.LocalNetworks ∷ ss) = ap (λ b. b && list_all (λ ps. list_any holds ps) (names ss)) near_locals ∙ ap (λ b. is_local locals a && b) (all_named ss)
  all_named (asks.Network p ∷ ss) = ap (λ b. b && list_all (λ ps. list_any holds ps) (names ss)) (or-false (holds p)) ∙ ap (λ b. holds p && b) (all_named ss)

-- ---- Whether there is a near selector

pub some_of : List (List Prefix) → Bool
some_of [] = false
some_of (ps ∷ pss) = true

by_near : (f : Selector → List Prefix) (s : Selector) (ss : List Selector) → list_any is_near ss ≡ some_of (map f (filter is_near ss)) → (b : Bool) → (b || list_any is_near ss) ≡ some_of (map f (cond b (s ∷ filter is_near ss) (filter is_near ss)))
unfolding some_of
by_near f s ss rest true = refl
by_near f s ss rest false = rest

near_some : (f : Selector → List Prefix) (ss : List Selector) → list_any is_near ss ≡ some_of (map f (filter is_near ss))
unfolding some_of
near_some f [] = refl
near_some f (s ∷ ss) = by_near f s ss (near_some f ss) (is_near s)

-- ---- The law of what matches

held_by : (family : Family) (locals : List Prefix) (a : Addr) → is_in_family family a ≡ true → (ss : List Selector) (pss : List (List Prefix)) → map (named_by family locals) (filter is_near ss) ≡ pss → some_of pss ≡ true
    → list_any (λ p. prefix_holds p a) (commons pss) ≡ list_all (λ ps. list_any (λ p. prefix_holds p a) ps) pss
unfolding some_of
held_by family locals a f ss [] is some = absurd (false≢true some)
held_by family locals a f ss (ps ∷ pss) is some = all_lists (λ p. prefix_holds p a) (of_address a) ps pss

pub networks_hold : (family : Family) (locals : List Prefix) (entry : Entry) (a : Addr) → has_near entry ≡ true → is_in_family family a ≡ true → list_any (λ p. prefix_holds p a) (near_networks family locals entry) ≡ near_matches entry a locals
unfolding has_near near_networks near_matches
networks_hold family locals entry a has f =
    any-in_order (λ p. prefix_holds p a) (commons (map (named_by family locals) (filter is_near entry.selectors)))
    ∙ held_by family locals a f entry.selectors (map (named_by family locals) (filter is_near entry.selectors)) refl (sym (near_some (named_by family locals) entry.selectors) ∙ has)
    ∙ all_named family locals a f entry.selectors

-- ---- One selector at a time

found : List (List Prefix) → Option (List Prefix)
found [] = None
found (ps ∷ pss) = Some (in_order (commons (ps ∷ pss)))

list_one : (t : Prefix → Bool) (p : Prefix) → list_any t (p ∷ []) ≡ t p
list_one t p = or-false (t p)

joined_found : (ps : List Prefix) (pss : List (List Prefix)) → in_order (flat_map (joined_with (found pss)) ps) ≡ in_order (commons (ps ∷ pss))
unfolding found joined_with
joined_found ps [] = in_order_alike (flat_map (joined_with None) ps) (commons (ps ∷ [])) (λ t.
    any-flat_map t (joined_with None) ps ∙ any_alike (λ p. list_any t (p ∷ [])) t ps (list_one t) ∙ sym (one_commons t ps))
joined_found ps (qs ∷ pss) = in_order_alike (flat_map (joined_with (found (qs ∷ pss))) ps) (commons (ps ∷ (qs ∷ pss))) (λ t.
    any-flat_map t (joined_with (found (qs ∷ pss))) ps
    ∙ any_alike (λ p. list_any t (filter_map (common_part p) (in_order (commons (qs ∷ pss))))) (λ p. list_any (with_first t p) (commons (qs ∷ pss))) ps
    (λ p. any-filter_map t (common_part p) (in_order (commons (qs ∷ pss))) ∙ any-in_order (with_first t p) (commons (qs ∷ pss)))
    ∙ sym (more_commons t ps qs pss))

module _ (family : Family) (locals : List Prefix) where
  abbrev named : List Selector → List (List Prefix)
  named ss = map (named_by family locals) (filter is_near ss)

  joint_by : (s : Selector) (ss : List Selector) → joint family locals ss ≡ found (named ss) → (b : Bool) → is_member s ≡ b
      → cond b (joint family locals ss) (Some (in_order (flat_map (joined_with (joint family locals ss)) (named_by family locals s)))) ≡ found (map (named_by family locals) (cond (not b) (s ∷ filter is_near ss) (filter is_near ss)))
  unfolding found
  joint_by s ss rest true e = rest
  joint_by s ss rest false e =
      ap (λ o. Some (in_order (flat_map (joined_with o) (named_by family locals s)))) rest
      ∙ ap Some (joined_found (named_by family locals s) (named ss))

  joint_found : (ss : List Selector) → joint family locals ss ≡ found (named ss)
  unfolding joint joint_with found is_near
  joint_found [] = refl
  joint_found (s ∷ ss) = joint_by s ss (joint_found ss) (is_member s) refl

  asked_by : (pss : List (List Prefix)) → cond (some_of pss) (Some (in_order (commons pss))) None ≡ found pss
  unfolding found some_of
  asked_by [] = refl
  asked_by (ps ∷ pss) = refl

  pub asked_joint : (entry : Entry) → asked_networks family locals entry ≡ joint family locals entry.selectors
  unfolding asked_networks has_near near_networks
  asked_joint entry =
      ap (λ b. cond b (Some (in_order (commons (named entry.selectors)))) None) (near_some (named_by family locals) entry.selectors)
      ∙ asked_by (named entry.selectors)
      ∙ sym (joint_found entry.selectors)

-- ---- One local network at a time

abbrev pub put : List Prefix → List Prefix → List Prefix
put ps rows = set_rows prefix_sort_key ps rows

pub put-append : (ps qs rows : List Prefix) → put (ps ++ qs) rows ≡ put qs (put ps rows)
put-append [] qs rows = refl
put-append (p ∷ ps) qs rows = put-append ps qs (set_row prefix_sort_key p rows)

module _ (f : Prefix → List Prefix) (g : Prefix → Bool) where
  abbrev pub kept_from : List Prefix → List Prefix
  kept_from ps = flat_map f (filter g ps)

  next_by : (xs : List Prefix) (p : Prefix) (rest : List Prefix) → xs ≡ p ∷ rest → (b : Bool) → g p ≡ b → (rows rows' : List Prefix) → rows' ≡ cond b (put (f p) rows) rows → put (kept_from rest) rows' ≡ put (kept_from xs) rows
  next_by xs p rest is true e rows rows' now =
      ap (put (kept_from rest)) now ∙ sym (put-append (f p) (kept_from rest) rows)
      ∙ sym (λ i. put (flat_map f (cond (e i) (p ∷ filter g rest) (filter g rest))) rows) ∙ ap (λ l. put (kept_from l) rows) (sym is)
  next_by xs p rest is false e rows rows' now =
      ap (put (kept_from rest)) now ∙ sym (λ i. put (flat_map f (cond (e i) (p ∷ filter g rest) (filter g rest))) rows) ∙ ap (λ l. put (kept_from l) rows) (sym is)

  pub next_kept : (xs : List Prefix) (i : ℕ) (p : Prefix) → i < length xs → p ≡ get_or xs i p → (b : Bool) → g p ≡ b → (rows rows' : List Prefix) → rows' ≡ cond b (put (f p) rows) rows → put (kept_from (drop (i + 1) xs)) rows' ≡ put (kept_from (drop i xs)) rows
  next_kept xs i p lt is b e rows rows' now =
      next_by (drop i xs) p (drop (i + 1) xs) (drop-cons xs i p lt ∙ (λ j. sym is j ∷ drop (next j) xs)) b e rows rows' now
    where
      next : suc i ≡ i + 1
      next = omega arith
