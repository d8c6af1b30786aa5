-- The list names the rule that the ruling names.
use Rattle.std.proofs.Common.{◌≡◌, ◌≢◌, ℕ, ◌+◌, ◌<◌, Bool, true, false, cond, ◌||◌, List, [], ◌∷◌, ◌++◌, slice_get, Option, Some, None, refl, sym, ap, subst, ◌∙◌, arith}
use Rattle.std.specs.Prelude.{find, flat_map}
use Rattle.std.specs.Option.{option_map, option_and_then}
use Rattle.std.specs.List.{list_any}
use Rattle.base_rows.specs.Sortable.{SortKeysAscend}
use Rattle.mud_base.specs.declared.addr.Family.TheVariants as family
use Rattle.mud_base.specs.declared.prefix.Prefix.{Prefix}
use Rattle.mud_base.specs.declared.packet.Direction.{Direction}
use Rattle.mud_base.specs.declared.packet.Fields.{Fields}
use Rattle.acl_model.specs.declared.entry.Action.{Action}
use Rattle.acl_model.specs.declared.entry.Action.TheVariants as action
use Rattle.acl_model.specs.declared.entry.Entry.{Entry}
use Rattle.acl_model.specs.declared.entry.Policy.{Policy}
use Rattle.acl_model.specs.declared.binding.Binding.{Binding}
use Rattle.acl_model.specs.declared.ruling.Ruling.{Ruling}
use Rattle.acl_model.specs.declared.ruling.Ruling.TheVariants.{AcceptDefault, DropDefault}
use Rattle.acl_model.specs.declared.ruling.DefaultRule.{DefaultRule}
use Rattle.acl_model.specs.declared.ruling.DefaultRule.TheVariants.{Dns, Ntp}
use Rattle.acl_model.specs.declared.ruling.Why.{Why}
use Rattle.acl_model.specs.declared.ruling.Why.TheVariants.{NoFile, NoMatch}
use Rattle.acl_model.specs.Keys.{key_of}
use Rattle.acl_model.specs.Match.{family_matches}
use Rattle.acl_model.specs.Defaults.{default_entry, default_policy, defaults_of}
use Rattle.acl_model.specs.FirstMatch.{entries_of, ruled_by, default_ruling, ruling_by}
use Rattle.acl_model.specs.SortKeys.{binding_sort_key}
use Rattle.acl_model.specs.Policies.{UrlPolicy}
use Rattle.acl_rows.specs.declared.row.Owner.{Owner}
use Rattle.acl_rows.specs.declared.row.Owner.TheVariants.{Default}
use Rattle.acl_rows.specs.declared.row.Row.{Row}
use Rattle.acl_rows.specs.Rows.{for_ever, numbered, entry_at, held_by, default_held, Slots, Holder, rows_of}
use Rattle.acl_rows.specs.View.{Part, View, rows_of_side, holder_from, IsPartOf, IsFilePart, holder_policy}
use Rattle.acl_model.specs.Changes.{HaveSame}
use Rattle.table_model.specs.Tables.{Tables, ruling_of}
use Rattle.table_laws.proofs.Stores.{tests_alike}
use Rattle.packet_judge.proofs.OverTables.{over_tables}
use Rattle.table_model.specs.Bindings.{bindings_of, selector_met, members_met, matches_by_bindings, ruling_by_bindings}
use Rattle.packet_judge.specs.ByRows.{IsViewOver}
use Rattle.packet_judge.proofs.Rulings.{IsRest, all_rest, rest_next, rest_first}
use Rattle.packet_judge.proofs.ByRows.{entries_default, holder_sound, IsHolder}
use Rattle.rule_export.specs.declared.item.RuleNumber.{RuleNumber}
use Rattle.rule_export.specs.declared.item.RuleNumber.TheVariants as rule
use Rattle.rule_export.specs.declared.item.Resolved.{Resolved}
use Rattle.rule_export.specs.Listed.{covers, items_from}
use Rattle.rule_export.specs.Resolved.{Wanted, entry_networks, entry_items, part_items, file_items, default_rule, resolved_of}
use Rattle.rule_export.specs.Ruling.{entry_of, item_passes, rule_of, resolved_ruling, number_of}
use Rattle.rule_export.proofs.EntryLaws.{matched, items_match}
use Rattle.acl_model.proofs.Parts.{first_ruling}

-- ---- The first item that passes

module _ (t : Resolved → Bool) where
  abbrev first : List Resolved → Option RuleNumber
  first items = option_map rule_of (find t items)

  first_by : (r : RuleNumber) (item : Resolved) (xs ys : List Resolved) → rule_of item ≡ r → first (xs ++ ys) ≡ cond (list_any t xs) (Some r) (first ys) → (b : Bool) → option_map rule_of (cond b (Some item) (find t (xs ++ ys))) ≡ cond (b || list_any t xs) (Some r) (first ys)
  first_by r item xs ys is rest true = ap Some is
  first_by r item xs ys is rest false = rest

  -- all items of an entry are of one rule
  pub first_items : (r : RuleNumber) (k : ℕ) (networks : List (Option Prefix)) (ys : List Resolved) → first (items_from r k networks ++ ys) ≡ cond (list_any t (items_from r k networks)) (Some r) (first ys)
  unfolding items_from rule_of
  first_items r k [] ys = refl
  first_items r k (n ∷ ns) ys = first_by r (record { rule = r; number = k; network = n }) (items_from r (k + 1) ns) ys refl (first_items r (k + 1) ns ys) (t (record { rule = r; number = k; network = n }))

  entry_by : (r : RuleNumber) (k : ℕ) (networks : List (Option Prefix)) (ys : List Resolved) (c : Bool) → first (cond c (items_from r k networks) [] ++ ys) ≡ cond (list_any t (cond c (items_from r k networks) [])) (Some r) (first ys)
  entry_by r k networks ys true = first_items r k networks ys
  entry_by r k networks ys false = refl

  pub first_entry : (w : Wanted) (rule_at : ℕ → RuleNumber) (rows : List Row) (n : ℕ) (e : Entry) (ys : List Resolved) → first (entry_items w rule_at rows (n, e) ++ ys) ≡ cond (list_any t (entry_items w rule_at rows (n, e))) (Some (rule_at n)) (first ys)
  unfolding entry_items
  first_entry w rule_at rows n e ys = entry_by (rule_at n) 1 (entry_networks w rows n e) ys (covers e.family w.family)

-- ---- The entries of a file

number-ruled : (n : ℕ) (a : Action) → number_of (ruled_by n a) ≡ Some (rule.File n)
unfolding number_of ruled_by
number-ruled n action.Accept = refl
number-ruled n action.Drop = refl

pub chosen : (b : Bool) (n : ℕ) (a : Action) (r : Ruling) → cond b (Some (rule.File n)) (number_of r) ≡ number_of (cond b (ruled_by n a) r)
chosen true n a r = sym (number-ruled n a)
chosen false n a r = refl

append_assoc : {A : Type 0} (xs ys zs : List A) → (xs ++ ys) ++ zs ≡ xs ++ (ys ++ zs)
append_assoc [] ys zs = refl
append_assoc (x ∷ xs) ys zs = ap (λ l. x ∷ l) (append_assoc xs ys zs)

module _ (slots : Slots) (bindings : List Binding) (ascend : SortKeysAscend binding_sort_key bindings) (w : Wanted) (small : w.moment < for_ever) (one : w.family ≢ family.Both) (view : View) (fields : Fields) (begun : Option Direction) (of : family_matches w.family fields ≡ true) where
  abbrev test : Resolved → Bool
  test item = item_passes view fields begun item

  abbrev matches : List ℕ → Entry → Bool
  matches url e = matched slots bindings ascend w small one view fields begun of url e

  abbrev rows_for : Owner → List Row
  rows_for o = rows_of_side o view.side (rows_of slots bindings)

  -- the items of one entry, and what comes behind them
  step : (o : Owner) (held : UrlPolicy) → held_by slots o ≡ Some held → (rule_at : ℕ → RuleNumber) (n : ℕ) (e : Entry) → entry_at n (entries_of view.side held.policy) ≡ Some e → entry_of view (rule_at n) ≡ Some e → (ys : List Resolved)
      → option_map rule_of (find test (entry_items w rule_at (rows_for o) (n, e) ++ ys)) ≡ cond (matches held.url e) (Some (rule_at n)) (option_map rule_of (find test ys))
  step o held holds rule_at n e is there ys =
      first_entry test w rule_at (rows_for o) n e ys
      ∙ ap (λ b. cond b (Some (rule_at n)) (option_map rule_of (find test ys))) (items_match slots bindings ascend w small one view fields begun of o held holds n e is rule_at there)

  module _ (o : Owner) (held : UrlPolicy) (holds : held_by slots o ≡ Some held) (file : (n : ℕ) (e : Entry) → entry_at n (entries_of view.side held.policy) ≡ Some e → entry_of view (rule.File n) ≡ Some e) (tail : List Resolved) (otherwise : Ruling) (rest_is : option_map rule_of (find test tail) ≡ number_of otherwise) where
    pub entries_alike : (n : ℕ) (es : List Entry) → IsRest (entries_of view.side held.policy) n es
        → option_map rule_of (find test (flat_map (entry_items w rule.File (rows_for o)) (numbered n es) ++ tail)) ≡ number_of (first_ruling (matches held.url) n es otherwise)
    unfolding numbered
    entries_alike n [] rest = rest_is
    entries_alike n (e ∷ es) rest =
        let is : entry_at n (entries_of view.side held.policy) ≡ Some e = rest_first (entries_of view.side held.policy) n e es rest in
        ap (λ l. option_map rule_of (find test l)) (append_assoc (entry_items w rule.File (rows_for o) (n, e)) (flat_map (entry_items w rule.File (rows_for o)) (numbered (n + 1) es)) tail)
        ∙ step o held holds rule.File n e is (file n e is) (flat_map (entry_items w rule.File (rows_for o)) (numbered (n + 1) es) ++ tail)
        ∙ ap (cond (matches held.url e) (Some (rule.File n))) (entries_alike (n + 1) es (rest_next (entries_of view.side held.policy) n e es rest))
        ∙ chosen (matches held.url e) n e.action (first_ruling (matches held.url) (n + 1) es otherwise)

  -- ---- The defaults

  -- the default entries name no URL
  default_matched : (url : List ℕ) (which : DefaultRule) → matches [] (default_entry which view.side) ≡ matches url (default_entry which view.side)
  unfolding matched matches_by_bindings members_met selector_met key_of default_entry
  default_matched url which = refl

  default_chosen : (b c : Bool) (why : Why) → cond b (Some (rule.Default Dns)) (cond c (Some (rule.Default Ntp)) None) ≡ number_of (cond b (AcceptDefault Dns) (cond c (AcceptDefault Ntp) (DropDefault why)))
  unfolding number_of
  default_chosen true c why = refl
  default_chosen false true why = refl
  default_chosen false false why = refl

  pub defaults_alike : (url : List ℕ) (why : Why) → IsPartOf (rows_of slots bindings) view.side Default default_policy view.defaults
      → option_map rule_of (find test (part_items w default_rule view.defaults)) ≡ number_of (default_ruling (matches url) view.side why)
  unfolding part_items numbered default_rule default_ruling default_held held_by entry_of entry_at
  defaults_alike url why is =
      let entries : view.defaults.entries ≡ defaults_of view.side = is.entries ∙ entries_default view.side in
      let own : entries_of view.side default_policy ≡ defaults_of view.side = entries_default view.side in
      let dns = default_entry Dns view.side in
      let ntp = default_entry Ntp view.side in
      (λ i. option_map rule_of (find test (flat_map (entry_items w default_rule (is.rows_are i)) (numbered 1 (entries i)))))
      ∙ step Default default_held refl default_rule 1 dns (ap (λ es. entry_at 1 es) own) (ap (λ es. entry_at 1 es) entries) (entry_items w default_rule (rows_for Default) (2, ntp) ++ [])
      ∙ ap (cond (matches [] dns) (Some (rule.Default Dns))) (step Default default_held refl default_rule 2 ntp (ap (λ es. entry_at 2 es) own) (ap (λ es. entry_at 2 es) entries) [])
      ∙ (λ i. cond (default_matched url Dns i) (Some (rule.Default Dns)) (cond (default_matched url Ntp i) (Some (rule.Default Ntp)) None))
      ∙ default_chosen (matches url dns) (matches url ntp) why

  -- ---- The whole list

  file_there : (part : Part) (h : Holder) → view.file ≡ Some part → part.entries ≡ entries_of view.side h.1.policy → (n : ℕ) (e : Entry) → entry_at n (entries_of view.side h.1.policy) ≡ Some e → entry_of view (rule.File n) ≡ Some e
  unfolding entry_of
  file_there part h is entries n e there = (λ i. option_and_then (λ p. entry_at n p.entries) (is i)) ∙ ap (entry_at n) entries ∙ there

  whole_by : (url : List ℕ) (o : Option Holder) (file : Option Part) → view.file ≡ file → holder_from url 0 slots ≡ o → IsFilePart (rows_of slots bindings) view.side o file → IsPartOf (rows_of slots bindings) view.side Default default_policy view.defaults
      → option_map rule_of (find test (file_items w file ++ part_items w default_rule view.defaults)) ≡ number_of (ruling_by (matches url) view.side (option_map holder_policy o))
  unfolding file_items part_items ruling_by
  whole_by url None None is holder part rest = defaults_alike url NoFile rest
  whole_by url None (Some p) is holder part rest = absurd part
  whole_by url (Some h) None is holder part rest = absurd part
  whole_by url (Some h) (Some p) is holder part rest =
      let held : IsHolder slots url h = holder_sound slots url 0 slots h (λ i. ap (slice_get slots) {x = 0 + i} {y = i} (omega arith)) holder in
      (λ i. option_map rule_of (find test (flat_map (entry_items w rule.File (part.rows_are i)) (numbered 1 (part.entries i)) ++ part_items w default_rule view.defaults)))
      ∙ entries_alike h.0 h.1 held.holds (file_there p h is part.entries) (part_items w default_rule view.defaults) (default_ruling (matches url) view.side NoMatch) (defaults_alike url NoMatch rest) 1 (entries_of view.side h.1.policy) (all_rest (entries_of view.side h.1.policy))
      ∙ ap (λ u. number_of (first_ruling (matches u) 1 (entries_of view.side h.1.policy) (default_ruling (matches url) view.side NoMatch))) held.named

-- The list of a view names the rule that the ruling by the bindings names.
pub list_alike : (slots : Slots) (bindings : List Binding) (url : List ℕ) (policy : Option Policy) (side : Direction) (view : View) (w : Wanted) (fields : Fields) (begun : Option Direction)
    → IsViewOver slots bindings url policy side view → w.moment < for_ever → w.family ≢ family.Both → family_matches w.family fields ≡ true
    → resolved_ruling view (resolved_of w view) fields begun ≡ number_of (ruling_by_bindings bindings w.locals w.moment url policy side fields begun)
unfolding resolved_ruling resolved_of ruling_by_bindings matched
list_alike slots bindings url policy side view w fields begun is small one of =
    let at : view.side ≡ side = is.lends.side_is in
    subst (λ s. IsFilePart (rows_of slots bindings) s (holder_from url 0 slots) view.file → IsPartOf (rows_of slots bindings) s Default default_policy view.defaults
    → resolved_ruling view (resolved_of w view) fields begun ≡ number_of (ruling_by_bindings bindings w.locals w.moment url policy s fields begun)) at
    (λ file defaults.
    whole_by slots bindings is.ascend w small one view fields begun of url (holder_from url 0 slots) view.file refl refl file defaults
    ∙ ap (λ p. number_of (ruling_by (matched slots bindings is.ascend w small one view fields begun of url) view.side p)) is.held)
    is.lends.file is.lends.defaults

-- Where the bindings are those of tables, it is the ruling over the tables.
pub list_as_tables : (slots : Slots) (bindings : List Binding) (tables : Tables) (url : List ℕ) (policy : Option Policy) (side : Direction) (view : View) (w : Wanted) (fields : Fields) (begun : Option Direction)
    → IsViewOver slots bindings url policy side view → HaveSame bindings (bindings_of tables) → w.locals ≡ tables.locals → w.moment < for_ever → w.family ≢ family.Both → family_matches w.family fields ≡ true
    → resolved_ruling view (resolved_of w view) fields begun ≡ number_of (ruling_of tables w.moment url policy side fields begun)
list_as_tables slots bindings tables url policy side view w fields begun is same locals small one of =
    list_alike slots bindings url policy side view w fields begun is small one of
    ∙ ap (λ (ps : List Prefix). number_of (ruling_by_bindings bindings ps w.moment url policy side fields begun)) locals
    ∙ ap number_of (over_tables tables bindings (tests_alike bindings (bindings_of tables) same) w.moment url policy side fields begun small)
