-- Keys are the same where they are equal, and the member selectors have one.
use Rattle.std.proofs.Common.{◌≡◌, ℕ, List, refl, ap}
use Rattle.std.specs.Prelude.{is_some}
use Rattle.std.specs.Bool.{Decides}
use Rattle.std.proofs.lemmas.Slice.Eq.{bytes_eq-Decides}
use Rattle.acl_model.specs.declared.entry.Selector.{Selector}
use Rattle.acl_model.specs.declared.entry.Selector.TheVariants as asks
use Rattle.acl_model.specs.declared.binding.MemberKey.{MemberKey}
use Rattle.acl_model.specs.declared.binding.MemberKey.TheVariants.{Host, Model, Class, Mine, Name}
use Rattle.acl_model.specs.Keys.{is_member, key_of, same_key}

pub same_key-Decides : (a b : MemberKey) → Decides (same_key a b) (a ≡ b)
unfolding same_key
same_key-Decides (Host a) (Host b) = (λ e. ap Host ((bytes_eq-Decides a b).0 e), λ e. (bytes_eq-Decides a b).1 (cc))
same_key-Decides (Model a) (Model b) = (λ e. ap Model ((bytes_eq-Decides a b).0 e), λ e. (bytes_eq-Decides a b).1 (cc))
same_key-Decides (Class a) (Class b) = (λ e. ap Class ((bytes_eq-Decides a b).0 e), λ e. (bytes_eq-Decides a b).1 (cc))
same_key-Decides (Mine a) (Mine b) = (λ e. ap Mine ((bytes_eq-Decides a b).0 e), λ e. (bytes_eq-Decides a b).1 (cc))
same_key-Decides (Name a) (Name b) = (λ e. ap Name ((bytes_eq-Decides a b).0 e), λ e. (bytes_eq-Decides a b).1 (cc))
same_key-Decides _ _ = (λ e. cc, λ e. cc)

pub is_some-key_of : (url : List ℕ) (selector : Selector) → is_some (key_of url selector) ≡ is_member selector
unfolding key_of is_member
is_some-key_of url (asks.Controller uri) = refl
is_some-key_of url asks.MyController = refl
is_some-key_of url (asks.Manufacturer host) = refl
is_some-key_of url asks.SameManufacturer = refl
is_some-key_of url (asks.Model other) = refl
is_some-key_of url (asks.Name name) = refl
is_some-key_of url asks.LocalNetworks = refl
is_some-key_of url (asks.Network prefix) = refl

pub ruleset key_laws = (same_key-Decides, is_some-key_of)
