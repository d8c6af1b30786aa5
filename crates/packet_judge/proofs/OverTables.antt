-- Bindings with the same members give the same ruling, so the ruling by rows is the one over the tables.
use Rattle.std.proofs.Common.{◌≡◌, ℕ, ◌<◌, Bool, ◌&&◌, List, [], ◌∷◌, Option, Some, None, refl, ap, ◌∙◌}
use Rattle.std.specs.List.{list_any, list_all}
use Rattle.mud_base.specs.declared.addr.Addr.{Addr}
use Rattle.mud_base.specs.declared.prefix.Prefix.{Prefix}
use Rattle.mud_base.specs.declared.packet.Direction.{Direction}
use Rattle.mud_base.specs.declared.packet.Fields.{Fields}
use Rattle.acl_model.specs.declared.entry.Selector.{Selector}
use Rattle.acl_model.specs.declared.entry.Entry.{Entry}
use Rattle.acl_model.specs.declared.entry.Policy.{Policy}
use Rattle.acl_model.specs.declared.binding.MemberKey.{MemberKey}
use Rattle.acl_model.specs.declared.binding.Binding.{Binding}
use Rattle.acl_model.specs.Keys.{key_of}
use Rattle.acl_model.specs.Match.{peer_of, near_matches, rest_matches}
use Rattle.acl_model.specs.FirstMatch.{ruling_by}
use Rattle.table_model.specs.Expiries.{for_ever}
use Rattle.table_model.specs.Tables.{Tables, ruling_of}
use Rattle.table_model.specs.Bindings.{bindings_of, is_met_by, has_live_binding, key_met, selector_met, members_met, matches_by_bindings, ruling_by_bindings}
use Rattle.table_model.proofs.Alike.{rulings_alike}

module _ (tables : Tables) (bindings : List Binding) (same : (test : Binding → Bool) → list_any test bindings ≡ list_any test (bindings_of tables)) where
  key_alike : (o : Option MemberKey) (a : Addr) (now : ℕ) → key_met bindings o a now ≡ key_met (bindings_of tables) o a now
  unfolding key_met has_live_binding
  key_alike None a now = refl
  key_alike (Some key) a now = same (is_met_by key a now)

  members_alike : (url : List ℕ) (a : Addr) (now : ℕ) (ss : List Selector) → list_all (selector_met bindings url a now) ss ≡ list_all (selector_met (bindings_of tables) url a now) ss
  unfolding selector_met
  members_alike url a now [] = refl
  members_alike url a now (s ∷ ss) = λ i. key_alike (key_of url s) a now i && members_alike url a now ss i

  matches_alike : (locals : List Prefix) (now : ℕ) (url : List ℕ) (side : Direction) (fields : Fields) (begun : Option Direction) (entry : Entry)
      → matches_by_bindings bindings locals now url side fields begun entry ≡ matches_by_bindings (bindings_of tables) locals now url side fields begun entry
  unfolding matches_by_bindings members_met
  matches_alike locals now url side fields begun entry = ap (λ (b : Bool). b && (near_matches entry (peer_of side fields) locals && rest_matches entry fields side begun)) (members_alike url (peer_of side fields) now entry.selectors)

  pub over_tables : (now : ℕ) (url : List ℕ) (policy : Option Policy) (side : Direction) (fields : Fields) (begun : Option Direction) → now < for_ever
      → ruling_by_bindings bindings tables.locals now url policy side fields begun ≡ ruling_of tables now url policy side fields begun
  unfolding ruling_by_bindings
  over_tables now url policy side fields begun small =
      (λ i. ruling_by (λ entry. matches_alike tables.locals now url side fields begun entry i) side policy)
      ∙ rulings_alike tables now url policy side fields begun small
