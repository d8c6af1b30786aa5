-- The list by the tables names the rule that the ruling over the tables names.
use Rattle.std.proofs.Common.{◌≡◌, ◌≢◌, ℕ, ◌+◌, Bool, true, false, cond, ◌&&◌, ◌||◌, List, [], ◌∷◌, ◌++◌, map, Option, Some, None, refl, sym, ap, ◌∙◌, append_assoc, append-nil}
use Rattle.std.specs.Prelude.{find}
use Rattle.std.specs.Option.{option_map}
use Rattle.std.specs.List.{list_any, list_all}
use Rattle.std.proofs.lemmas.Bool.{false≢true}
use Rattle.std.proofs.Math.Bool.{and-false}
use Rattle.base_rows.proofs.ListTests.{any-map, or_first, or_second}
use Rattle.mud_base.specs.Addresses.{prefix_holds}
use Rattle.mud_base.specs.declared.addr.Addr.{Addr}
use Rattle.mud_base.specs.declared.addr.Family.{Family}
use Rattle.mud_base.specs.declared.addr.Family.TheVariants as family
use Rattle.mud_base.specs.declared.prefix.Prefix.{Prefix}
use Rattle.mud_base.specs.declared.packet.Direction.{Direction}
use Rattle.mud_base.specs.declared.packet.Fields.{Fields}
use Rattle.acl_model.specs.declared.entry.Selector.{Selector}
use Rattle.acl_model.specs.declared.entry.Selector.TheVariants as asks
use Rattle.acl_model.specs.declared.entry.Entry.{Entry}
use Rattle.acl_model.specs.declared.entry.Policy.{Policy}
use Rattle.acl_model.specs.declared.ruling.Ruling.{Ruling}
use Rattle.acl_model.specs.declared.ruling.Ruling.TheVariants.{AcceptDefault, DropDefault}
use Rattle.acl_model.specs.declared.ruling.DefaultRule.TheVariants.{Dns, Ntp}
use Rattle.acl_model.specs.declared.ruling.Why.{Why}
use Rattle.acl_model.specs.declared.ruling.Why.TheVariants.{NoFile, NoMatch}
use Rattle.acl_model.specs.Keys.{is_member, is_membered}
use Rattle.acl_model.specs.Match.{peer_of, family_matches, own_of, prefix_passes, header_matches, layer_matches, near_met, near_matches, rest_matches, entry_matches}
use Rattle.acl_model.specs.Defaults.{default_entry}
use Rattle.acl_model.specs.FirstMatch.{entries_of, default_ruling, ruling_by}
use Rattle.table_model.specs.Tables.{Tables, meets, ruling_of}
use Rattle.rule_export.specs.declared.item.RuleNumber.{RuleNumber}
use Rattle.rule_export.specs.declared.item.RuleNumber.TheVariants as rule
use Rattle.rule_export.specs.Networks.{has_near, near_networks}
use Rattle.rule_export.specs.Listed.{ListItem, covers, items_from, is_listed, listed_networks, listed_items, listed_file, listed_of}
use Rattle.rule_export.proofs.Parts.{list_item, addr_networks, listed_default}
use Rattle.rule_export.specs.Ruling.{entry_passes, listed_passes, listed_rule, listed_ruling, number_of}
use Rattle.rule_export.proofs.NetworkLaws.{networks_hold}
use Rattle.rule_export.proofs.EntryLaws.{one_version, peer_version, none_near}
use Rattle.rule_export.proofs.StandingLaws.{any_listed}
use Rattle.rule_export.proofs.ListLaws.{chosen}
use Rattle.acl_model.proofs.Parts.{first_ruling}

-- ---- Near selectors

module _ (tables : Tables) (now : ℕ) (url : List ℕ) (a : Addr) where
  near_is_met : (s : Selector) → is_member s ≡ false → near_met tables.locals a s ≡ meets tables now url s a
  unfolding is_member near_met meets
  near_is_met (asks.Controller uri) near = absurd (false≢true (sym near))
  near_is_met asks.MyController near = absurd (false≢true (sym near))
  near_is_met (asks.Manufacturer host) near = absurd (false≢true (sym near))
  near_is_met asks.SameManufacturer near = absurd (false≢true (sym near))
  near_is_met (asks.Model other) near = absurd (false≢true (sym near))
  near_is_met (asks.Name name) near = absurd (false≢true (sym near))
  near_is_met asks.LocalNetworks near = refl
  near_is_met (asks.Network prefix) near = refl

  -- without a member selector the near ones are all
  pub near_all : (ss : List Selector) → list_any is_member ss ≡ false → list_all (near_met tables.locals a) ss ≡ list_all (λ s. meets tables now url s a) ss
  near_all [] near = refl
  near_all (s ∷ ss) near =
      ap (λ b. b && list_all (near_met tables.locals a) ss) (near_is_met s (or_first (is_member s) (list_any is_member ss) near))
      ∙ ap (λ b. meets tables now url s a && b) (near_all ss (or_second (is_member s) (list_any is_member ss) near))

-- ---- The items of an entry

module _ (tables : Tables) (now : ℕ) (url : List ℕ) (version : Family) (side : Direction) (fields : Fields) (begun : Option Direction) where
  abbrev test : ListItem → Bool
  test listed = listed_passes side fields begun listed

  abbrev peer : Addr
  peer = peer_of side fields

  abbrev rest : Entry → Bool
  rest e = rest_matches e fields side begun

  abbrev met : Entry → Bool
  met e = list_all (λ s. meets tables now url s peer) e.selectors

  -- the match over the tables
  abbrev matches : Entry → Bool
  matches e = entry_matches (meets tables now url) side fields begun e

  any_items : (r : RuleNumber) (e : Entry) (k : ℕ) (networks : List (Option Prefix)) → list_any test (map (list_item e) (items_from r k networks)) ≡ (list_any (λ o. prefix_passes o peer) networks && rest e)
  unfolding items_from listed_passes entry_passes
  any_items r e k [] = refl
  any_items r e k (n ∷ ns) =
      ap (λ b. (prefix_passes n peer && rest e) || b) (any_items r e (k + 1) ns)
      ∙ joined (prefix_passes n peer) (list_any (λ o. prefix_passes o peer) ns) (rest e)
    where
      joined : (a b c : Bool) → ((a && c) || (b && c)) ≡ ((a || b) && c)
      joined true true true = refl
      joined true true false = refl
      joined true false true = refl
      joined true false false = refl
      joined false b c = refl

  some_hold : (ps : List Prefix) → list_any (λ o. prefix_passes o peer) (map Some ps) ≡ list_any (λ p. prefix_holds p peer) ps
  unfolding prefix_passes
  some_hold ps = any-map (λ o. prefix_passes o peer) Some ps

  module _ (one : version ≢ family.Both) (of : family_matches version fields ≡ true) where
    hold_by : (e : Entry) (b d : Bool) → is_membered e ≡ b → has_near e ≡ d
        → list_any (λ o. prefix_passes o peer) (cond b (map Some (addr_networks tables now url version e)) (cond d (map Some (near_networks version tables.locals e)) (None ∷ []))) ≡ met e
    unfolding prefix_passes is_listed near_matches is_membered has_near
    hold_by e true d is near_is =
        some_hold (addr_networks tables now url version e)
        ∙ any_listed tables now url version e peer is
        ∙ ap (λ b. b && met e) (peer_version version side fields of)
    hold_by e false true is near_is =
        some_hold (near_networks version tables.locals e)
        ∙ networks_hold version tables.locals e peer near_is (peer_version version side fields of)
        ∙ near_all tables now url peer e.selectors is
    hold_by e false false is near_is =
        sym (none_near tables.locals peer e.selectors is near_is) ∙ near_all tables now url peer e.selectors is

    other_version : (e : Entry) → covers e.family version ≡ false → false ≡ (met e && rest e)
    unfolding rest_matches
    other_version e apart =
        sym (and-false (met e))
        ∙ ap (λ b. met e && b) (ap (λ b. ((b && prefix_passes e.own (own_of side fields)) && header_matches e fields) && layer_matches e.layer fields.transport begun) (sym (one_version version e.family fields one of ∙ apart)))

    items_by : (r : RuleNumber) (e : Entry) (c : Bool) → covers e.family version ≡ c → list_any test (cond c (map (list_item e) (items_from r 1 (listed_networks tables now url version e))) []) ≡ matches e
    unfolding listed_networks entry_matches
    items_by r e true is = any_items r e 1 (listed_networks tables now url version e) ∙ ap (λ b. b && rest e) (hold_by e (is_membered e) (has_near e) refl refl)
    items_by r e false is = other_version e is

    -- one of the items of an entry matches exactly where the entry does
    items_match : (r : RuleNumber) (e : Entry) → list_any test (listed_items tables now url version r e) ≡ matches e
    unfolding listed_items
    items_match r e = items_by r e (covers e.family version) refl

    -- ---- The first item that passes

    abbrev first : List ListItem → Option RuleNumber
    first items = option_map listed_rule (find test items)

    first_by : (r : RuleNumber) (item : ListItem) (xs ys : List ListItem) → listed_rule item ≡ r → first (xs ++ ys) ≡ cond (list_any test xs) (Some r) (first ys) → (b : Bool)
        → option_map listed_rule (cond b (Some item) (find test (xs ++ ys))) ≡ cond (b || list_any test xs) (Some r) (first ys)
    first_by r item xs ys is rest true = ap Some is
    first_by r item xs ys is rest false = rest

    -- all items of an entry are of one rule
    first_items : (r : RuleNumber) (e : Entry) (k : ℕ) (networks : List (Option Prefix)) (ys : List ListItem)
        → first (map (list_item e) (items_from r k networks) ++ ys) ≡ cond (list_any test (map (list_item e) (items_from r k networks))) (Some r) (first ys)
    unfolding items_from listed_rule
    first_items r e k [] ys = refl
    first_items r e k (n ∷ ns) ys =
        first_by r (list_item e (record { rule = r; number = k; network = n })) (map (list_item e) (items_from r (k + 1) ns)) ys refl (first_items r e (k + 1) ns ys)
        (test (list_item e (record { rule = r; number = k; network = n })))

    first_entry : (r : RuleNumber) (e : Entry) (ys : List ListItem) → first (listed_items tables now url version r e ++ ys) ≡ cond (matches e) (Some r) (first ys)
    unfolding listed_items
    first_entry r e ys = by (covers e.family version) ∙ ap (λ b. cond b (Some r) (first ys)) (items_match r e)
      where
        by : (c : Bool) → first (cond c (map (list_item e) (items_from r 1 (listed_networks tables now url version e))) [] ++ ys)
            ≡ cond (list_any test (cond c (map (list_item e) (items_from r 1 (listed_networks tables now url version e))) [])) (Some r) (first ys)
        by true = first_items r e 1 (listed_networks tables now url version e) ys
        by false = refl

    -- ---- The whole list

    file_rules : (n : ℕ) (es : List Entry) (tail : List ListItem) (otherwise : Ruling) → first tail ≡ number_of otherwise
        → first (listed_file tables now url version n es ++ tail) ≡ number_of (first_ruling matches n es otherwise)
    unfolding listed_file
    file_rules n [] tail otherwise rest_is = rest_is
    file_rules n (e ∷ es) tail otherwise rest_is =
        ap first (append_assoc (listed_items tables now url version (rule.File n) e) (listed_file tables now url version (n + 1) es) tail)
        ∙ first_entry (rule.File n) e (listed_file tables now url version (n + 1) es ++ tail)
        ∙ ap (cond (matches e) (Some (rule.File n))) (file_rules (n + 1) es tail otherwise rest_is)
        ∙ chosen (matches e) n e.action (first_ruling matches (n + 1) es otherwise)

    default_chosen : (b c : Bool) (why : Why) → cond b (Some (rule.Default Dns)) (cond c (Some (rule.Default Ntp)) None) ≡ number_of (cond b (AcceptDefault Dns) (cond c (AcceptDefault Ntp) (DropDefault why)))
    unfolding number_of
    default_chosen true c why = refl
    default_chosen false true why = refl
    default_chosen false false why = refl

    defaults_rule : (why : Why) → first (listed_default tables now url version side Dns ++ listed_default tables now url version side Ntp) ≡ number_of (default_ruling matches side why)
    unfolding default_ruling
    defaults_rule why =
        let dns = default_entry Dns side in
        let ntp = default_entry Ntp side in
        first_entry (rule.Default Dns) dns (listed_items tables now url version (rule.Default Ntp) ntp)
        ∙ ap (cond (matches dns) (Some (rule.Default Dns)))
        (ap first (sym (append-nil (listed_items tables now url version (rule.Default Ntp) ntp))) ∙ first_entry (rule.Default Ntp) ntp [])
        ∙ default_chosen (matches dns) (matches ntp) why

    whole_rules : (policy : Option Policy) → first (listed_of tables now url version policy side) ≡ number_of (ruling_by matches side policy)
    unfolding listed_of listed_file ruling_by
    whole_rules None = defaults_rule NoFile
    whole_rules (Some policy) =
        file_rules 1 (entries_of side policy) (listed_default tables now url version side Dns ++ listed_default tables now url version side Ntp) (default_ruling matches side NoMatch) (defaults_rule NoMatch)

-- The list by the tables names the rule that the ruling over the tables names.
pub listed_alike : (tables : Tables) (now : ℕ) (url : List ℕ) (version : Family) (policy : Option Policy) (side : Direction) (fields : Fields) (begun : Option Direction)
    → version ≢ family.Both → family_matches version fields ≡ true
    → listed_ruling side (listed_of tables now url version policy side) fields begun ≡ number_of (ruling_of tables now url policy side fields begun)
unfolding listed_ruling ruling_of
listed_alike tables now url version policy side fields begun one of = whole_rules tables now url version side fields begun one of policy
