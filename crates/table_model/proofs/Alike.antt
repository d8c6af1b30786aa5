-- Rulings over the tables and rulings over their bindings are the same.
use Rattle.std.proofs.Common.{◌≡◌, ℕ, ◌<◌, Bool, true, false, ◌&&◌, List, [], ◌∷◌, Option, refl, ap, ◌∙◌}
use Rattle.std.specs.List.{list_all}
use Rattle.mud_base.specs.declared.addr.Addr.{Addr}
use Rattle.mud_base.specs.declared.packet.Direction.{Direction}
use Rattle.mud_base.specs.declared.packet.Fields.{Fields}
use Rattle.mud_url.specs.Url.{host_of}
use Rattle.acl_model.specs.declared.entry.Selector.{Selector}
use Rattle.acl_model.specs.declared.entry.Selector.TheVariants as asks
use Rattle.acl_model.specs.declared.entry.Entry.{Entry}
use Rattle.acl_model.specs.declared.entry.Policy.{Policy}
use Rattle.acl_model.specs.Keys.{key_of}
use Rattle.acl_model.specs.Match.{peer_of, near_met, near_matches, rest_matches, entry_matches}
use Rattle.acl_model.specs.FirstMatch.{ruling_by}
use Rattle.table_model.specs.Expiries.{for_ever}
use Rattle.table_model.specs.Tables.{Tables, meets, ruling_of}
use Rattle.table_model.specs.Bindings.{bindings_of, key_met, selector_met, members_met, matches_by_bindings, ruling_by_bindings}
use Rattle.table_model.proofs.Members.{has_live-host, has_live-model, has_live-class, has_live-mine, has_live-name}
use Rattle.std.proofs.Math.Bool.{and-true}

-- a selector is met in the tables where its key is met by a binding, and where it is met as a near selector
pub met_by_binding : (tables : Tables) (now : ℕ) (url : List ℕ) → now < for_ever → (a : Addr) (s : Selector) → (selector_met (bindings_of tables) url a now s && near_met tables.locals a s) ≡ meets tables now url s a
unfolding selector_met key_of key_met near_met meets
met_by_binding tables now url h a (asks.Controller uri) = and-true _ ∙ has_live-class tables uri a now h
met_by_binding tables now url h a asks.MyController = and-true _ ∙ has_live-mine tables url a now h
met_by_binding tables now url h a (asks.Manufacturer host) = and-true _ ∙ has_live-host tables host a now
met_by_binding tables now url h a asks.SameManufacturer = and-true _ ∙ has_live-host tables (host_of url) a now
met_by_binding tables now url h a (asks.Model other) = and-true _ ∙ has_live-model tables other a now
met_by_binding tables now url h a (asks.Name name) = and-true _ ∙ has_live-name tables name a now
met_by_binding tables now url h a asks.LocalNetworks = refl
met_by_binding tables now url h a (asks.Network prefix) = refl

-- two tests of all elements at once
all_both : {A : Type 0} (p q both : A → Bool) (rest : Bool) → ((x : A) → (p x && q x) ≡ both x) → (xs : List A) → (list_all p xs && (list_all q xs && rest)) ≡ (list_all both xs && rest)
all_both p q both rest same [] = refl
all_both p q both rest same (x ∷ xs) =
    regroup (p x) (q x) (both x) (list_all p xs) (list_all q xs) (list_all both xs) rest (same x) (all_both p q both rest same xs)
  where
    regroup : (a b c ps qs bs rest : Bool) → (a && b) ≡ c → (ps && (qs && rest)) ≡ (bs && rest) → ((a && ps) && ((b && qs) && rest)) ≡ ((c && bs) && rest)
    regroup true true c ps qs bs rest one more = rw (← one) more
    regroup true false c ps qs bs rest one more = rw (← one) (nothing ps)
      where
        nothing : (b : Bool) → (b && false) ≡ false
        nothing true = refl
        nothing false = refl
    regroup false b c ps qs bs rest one more = rw (← one) refl

pub matches_alike : (tables : Tables) (now : ℕ) (url : List ℕ) (side : Direction) (fields : Fields) (begun : Option Direction) → now < for_ever → (entry : Entry)
    → matches_by_bindings (bindings_of tables) tables.locals now url side fields begun entry ≡ entry_matches (meets tables now url) side fields begun entry
unfolding matches_by_bindings members_met near_matches entry_matches
matches_alike tables now url side fields begun h entry =
    all_both (selector_met (bindings_of tables) url (peer_of side fields) now) (near_met tables.locals (peer_of side fields)) (λ s. meets tables now url s (peer_of side fields))
    (rest_matches entry fields side begun) (met_by_binding tables now url h (peer_of side fields)) entry.selectors

pub rulings_alike : (tables : Tables) (now : ℕ) (url : List ℕ) (policy : Option Policy) (side : Direction) (fields : Fields) (begun : Option Direction) → now < for_ever
    → ruling_by_bindings (bindings_of tables) tables.locals now url policy side fields begun ≡ ruling_of tables now url policy side fields begun
unfolding ruling_by_bindings ruling_of
rulings_alike tables now url policy side fields begun h =
    let same : matches_by_bindings (bindings_of tables) tables.locals now url side fields begun ≡ entry_matches (meets tables now url) side fields begun = λ i entry. matches_alike tables now url side fields begun h entry i in
    ap (λ (matches : Entry → Bool). ruling_by matches side policy) same
