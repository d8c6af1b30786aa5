-- An address that meets a member selector stands in the tables; so an address is listed exactly where its network is.
use Rattle.std.proofs.Common.{◌≡◌, ℕ, Bool, true, false, ◌&&◌, ◌||◌, List, [], ◌∷◌, ◌++◌, map, sym, ap, subst, ◌∙◌}
use Rattle.std.specs.Prelude.{flat_map, bytes_eq}
use Rattle.std.specs.List.{list_any, list_all, filter}
use Rattle.std.proofs.lemmas.Bool.{false≢true}
use Rattle.std.proofs.lemmas.List.Folds.{list_any-append}
use Rattle.std.proofs.Math.Bool.{or-true}
use Rattle.base_rows.proofs.ListTests.{both_ways, left_of, right_of, both, any_by, any_more, any-map, any-flat_map}
use Rattle.mud_base.specs.Addresses.{same_addr, prefix_holds}
use Rattle.mud_base.specs.declared.addr.Addr.{Addr}
use Rattle.mud_base.specs.declared.addr.Family.{Family}
use Rattle.mud_url.specs.Url.{host_of}
use Rattle.acl_model.specs.declared.entry.Selector.{Selector}
use Rattle.acl_model.specs.declared.entry.Selector.TheVariants as asks
use Rattle.acl_model.specs.declared.entry.Entry.{Entry}
use Rattle.acl_model.specs.Keys.{is_member, is_membered}
use Rattle.acl_model.proofs.BindingLaws.{same_addr_exact, same_addr_itself}
use Rattle.table_model.specs.declared.thing.Thing.{Thing}
use Rattle.table_model.specs.declared.bind.Class.{Class}
use Rattle.table_model.specs.declared.bind.Class.TheVariants as class
use Rattle.table_model.specs.declared.bind.ClassRow.{ClassRow}
use Rattle.table_model.specs.declared.bind.NameRow.{NameRow}
use Rattle.table_model.specs.Expiries.{is_live, has_live, Expiries}
use Rattle.table_model.specs.Binds.{has_addr}
use Rattle.table_model.specs.Tables.{Tables, has_host, has_url, is_leased, is_bound, is_named, meets}
use Rattle.rule_export.specs.Listed.{table_addrs, addr_network, is_listed}
use Rattle.rule_export.proofs.Parts.{addr_networks}
use Rattle.rule_export.proofs.ChoiceLaws.{any_alike}
use Rattle.rule_export.proofs.EntryLaws.{any-filter, host_holds}
use Rattle.rule_export.proofs.NetworkLaws.{any-in_order}
use Rattle.table_model.proofs.Parts.{has_lease, same_class}

-- ---- Two lists

any_before : {A : Type 0} (p : A → Bool) (xs ys : List A) → list_any p xs ≡ true → list_any p (xs ++ ys) ≡ true
any_before p xs ys e = list_any-append p xs ys ∙ ap (λ b. b || list_any p ys) e

any_behind : {A : Type 0} (p : A → Bool) (xs ys : List A) → list_any p ys ≡ true → list_any p (xs ++ ys) ≡ true
any_behind p xs ys e = list_any-append p xs ys ∙ ap (λ b. list_any p xs || b) e ∙ or-true (list_any p xs)

-- ---- Where an address stands

abbrev row_addrs : Expiries → List Addr
row_addrs expiries = map (λ r. r.0) expiries

abbrev thing_addrs : Thing → List Addr
thing_addrs thing = row_addrs thing.leases

abbrev class_addrs : ClassRow → List Addr
class_addrs row = row.addrs

abbrev name_addrs : NameRow → List Addr
name_addrs row = row_addrs row.addrs

module _ (tables : Tables) (now : ℕ) (url : List ℕ) (a : Addr) where
  abbrev stands : List Addr → Bool
  stands addrs = list_any (same_addr a) addrs

  turned : (b : Addr) → same_addr b a ≡ true → same_addr a b ≡ true
  turned b e = subst (λ c. same_addr a c ≡ true) (sym (same_addr_exact b a e)) (same_addr_itself a)

  live_stands : (expiries : Expiries) → has_live a now expiries ≡ true → stands (row_addrs expiries) ≡ true
  unfolding has_live
  live_stands expiries e =
      any-map (same_addr a) (λ r. r.0) expiries
      ∙ any_more (λ r. same_addr r.0 a && is_live r.1 now) (λ r. same_addr a r.0) expiries (λ r h. turned r.0 (left_of (same_addr r.0 a) (is_live r.1 now) h)) e

  addr_stands : (addrs : List Addr) → has_addr a addrs ≡ true → stands addrs ≡ true
  unfolding has_addr
  addr_stands addrs e = any_more (λ b. same_addr b a) (same_addr a) addrs turned e

  leased_stands : (test : Thing → Bool) (things : List Thing) → is_leased test a now things ≡ true → stands (flat_map thing_addrs things) ≡ true
  unfolding is_leased
  leased_stands test things e =
      any-flat_map (same_addr a) thing_addrs things
      ∙ any_more (λ t. test t && has_lease a now t) (λ t. stands (thing_addrs t)) things (λ t h. live_stands t.leases (right_of (test t) (has_lease a now t) h)) e

  bound_stands : (c : Class) (classes : List ClassRow) → is_bound c a classes ≡ true → stands (flat_map class_addrs classes) ≡ true
  unfolding is_bound
  bound_stands c classes e =
      any-flat_map (same_addr a) class_addrs classes
      ∙ any_more (λ row. same_class row.class c && has_addr a row.addrs) (λ row. stands (class_addrs row)) classes (λ row h. addr_stands row.addrs (right_of (same_class row.class c) (has_addr a row.addrs) h)) e

  named_stands : (name : List ℕ) (names : List NameRow) → is_named name a now names ≡ true → stands (flat_map name_addrs names) ≡ true
  unfolding is_named
  named_stands name names e =
      any-flat_map (same_addr a) name_addrs names
      ∙ any_more (λ row. bytes_eq row.name name && has_live a now row.addrs) (λ row. stands (name_addrs row)) names (λ row h. live_stands row.addrs (right_of (bytes_eq row.name name) (has_live a now row.addrs) h)) e

  abbrev of_things : List Addr
  of_things = flat_map thing_addrs tables.things

  abbrev of_classes : List Addr
  of_classes = flat_map class_addrs tables.classes

  abbrev of_names : List Addr
  of_names = flat_map name_addrs tables.names

  in_things : stands of_things ≡ true → stands (table_addrs tables) ≡ true
  unfolding table_addrs
  in_things e = any_before (same_addr a) (of_things ++ of_classes) of_names (any_before (same_addr a) of_things of_classes e)

  in_classes : stands of_classes ≡ true → stands (table_addrs tables) ≡ true
  unfolding table_addrs
  in_classes e = any_before (same_addr a) (of_things ++ of_classes) of_names (any_behind (same_addr a) of_things of_classes e)

  in_names : stands of_names ≡ true → stands (table_addrs tables) ≡ true
  unfolding table_addrs
  in_names e = any_behind (same_addr a) (of_things ++ of_classes) of_names e

  -- what meets a member selector stands in one of the three
  member_stands : (s : Selector) → is_member s ≡ true → meets tables now url s a ≡ true → stands (table_addrs tables) ≡ true
  unfolding is_member meets
  member_stands (asks.Controller uri) member met = in_classes (bound_stands (class.Uri uri) tables.classes met)
  member_stands asks.MyController member met = in_classes (bound_stands (class.Mine url) tables.classes met)
  member_stands (asks.Manufacturer host) member met = in_things (leased_stands (has_host host) tables.things met)
  member_stands asks.SameManufacturer member met = in_things (leased_stands (has_host (host_of url)) tables.things met)
  member_stands (asks.Model other) member met = in_things (leased_stands (has_url other) tables.things met)
  member_stands (asks.Name name) member met = in_names (named_stands name tables.names met)
  member_stands asks.LocalNetworks member met = absurd (false≢true member)
  member_stands (asks.Network prefix) member met = absurd (false≢true member)

  abbrev met_by : Selector → Bool
  met_by s = meets tables now url s a

  all_stand : (ss : List Selector) → list_any is_member ss ≡ true → list_all met_by ss ≡ true → stands (table_addrs tables) ≡ true
  all_stand [] member met = absurd (false≢true member)
  all_stand (s ∷ ss) member met =
      any_by is_member s ss
      (λ first. member_stands s first (left_of (met_by s) (list_all met_by ss) met))
      (λ later. all_stand ss later (right_of (met_by s) (list_all met_by ss) met)) member

-- ---- The networks of the addresses that are listed

-- of a list that has the address, where it passes
found_at : (f : Addr → Bool) (a : Addr) (xs : List Addr) → list_any (λ b. f b && same_addr a b) xs ≡ true → f a ≡ true
found_at f a [] e = absurd (false≢true e)
found_at f a (x ∷ xs) e =
    any_by (λ b. f b && same_addr a b) x xs
    (λ here. subst (λ b. f b ≡ true) (sym (same_addr_exact a x (right_of (f x) (same_addr a x) here))) (left_of (f x) (same_addr a x) here))
    (found_at f a xs) e

any_at : (f : Addr → Bool) (a : Addr) (xs : List Addr) → (f a ≡ true → list_any (same_addr a) xs ≡ true) → list_any (λ b. f b && same_addr a b) xs ≡ f a
any_at f a xs has = both_ways (list_any (λ b. f b && same_addr a b) xs) (f a) (found_at f a xs)
    (λ e. any_more (same_addr a) (λ b. f b && same_addr a b) xs (λ b is. both (f b) (same_addr a b) (subst (λ c. f c ≡ true) (same_addr_exact a b is) e) is) (has e))

-- the network of an address alone holds this one
pub network_of : (b a : Addr) → prefix_holds (addr_network b) a ≡ same_addr a b
unfolding prefix_holds addr_network
network_of b a = host_holds b a

module _ (tables : Tables) (now : ℕ) (url : List ℕ) (version : Family) where
  -- an address is held by one of the networks exactly where it is listed
  pub any_listed : (e : Entry) (a : Addr) → is_membered e ≡ true → list_any (λ p. prefix_holds p a) (addr_networks tables now url version e) ≡ is_listed tables now url version e a
  unfolding is_listed is_membered
  any_listed e a member =
      any-in_order (λ p. prefix_holds p a) (map addr_network (filter (is_listed tables now url version e) (table_addrs tables)))
      ∙ any-map (λ p. prefix_holds p a) addr_network (filter (is_listed tables now url version e) (table_addrs tables))
      ∙ any-filter (λ b. prefix_holds (addr_network b) a) (is_listed tables now url version e) (table_addrs tables)
      ∙ any_alike (λ b. is_listed tables now url version e b && prefix_holds (addr_network b) a) (λ b. is_listed tables now url version e b && same_addr a b) (table_addrs tables) (λ b. ap (λ c. is_listed tables now url version e b && c) (network_of b a))
      ∙ any_at (is_listed tables now url version e) a (table_addrs tables) (λ is. all_stand tables now url a e.selectors member (right_of _ (list_all (λ s. meets tables now url s a) e.selectors) is))
