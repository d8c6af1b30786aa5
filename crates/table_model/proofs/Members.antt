-- The bindings of the tables tell exactly which addresses meet a member selector.
use Rattle.std.proofs.Common.{◌≡◌, ℕ, ◌<◌, Bool, true, false, ◌&&◌, ◌||◌, List, [], ◌∷◌, ◌++◌, refl, ap, ◌∙◌}
use Rattle.std.specs.Prelude.{bytes_eq, flat_map}
use Rattle.std.specs.List.{list_any}
use Rattle.std.proofs.lemmas.Bool.{lt-ltb}
use Rattle.std.proofs.lemmas.List.Folds.{list_any-append}
use Rattle.mud_base.specs.Addresses.{same_addr}
use Rattle.mud_base.specs.declared.addr.Addr.{Addr}
use Rattle.mud_url.specs.Url.{host_of}
use Rattle.acl_model.specs.declared.binding.MemberKey.{MemberKey}
use Rattle.acl_model.specs.declared.binding.MemberKey.TheVariants as of_key
use Rattle.acl_model.specs.declared.binding.Binding.{Binding}
use Rattle.acl_model.specs.Keys.{same_key}
use Rattle.table_model.specs.declared.thing.Thing.{Thing}
use Rattle.table_model.specs.declared.bind.Class.{Class}
use Rattle.table_model.specs.declared.bind.Class.TheVariants as class
use Rattle.table_model.specs.declared.bind.ClassRow.{ClassRow}
use Rattle.table_model.specs.declared.bind.NameRow.{NameRow}
use Rattle.table_model.specs.Expiries.{is_live, for_ever, has_live}
use Rattle.table_model.specs.Binds.{key_of_class, has_addr}
use Rattle.table_model.specs.Tables.{Tables, has_host, has_url, is_leased, is_bound, is_named}
use Rattle.table_model.specs.Bindings.{bindings_of_lease, thing_bindings, member_key, class_binding, class_bindings, name_binding, name_bindings, things_bindings, classes_bindings, names_bindings, bindings_of, is_met_by, has_live_binding}
use Rattle.base_rows.proofs.ListTests.{any-flat_map, any-map}
use Rattle.base_rows.proofs.Lists.{any_const}
use Rattle.std.proofs.Math.Bool.{and-true, or-false}
use Rattle.table_model.proofs.Parts.{has_lease, same_class}

-- ---- Some element passes a test

any_same : {A : Type 0} (p q : A → Bool) → ((x : A) → p x ≡ q x) → (xs : List A) → list_any p xs ≡ list_any q xs
any_same p q same [] = refl
any_same p q same (x ∷ xs) = rw (same x, any_same p q same xs) refl

any_none : {A : Type 0} (p : A → Bool) → ((x : A) → p x ≡ false) → (xs : List A) → list_any p xs ≡ false
any_none p none [] = refl
any_none p none (x ∷ xs) = rw (none x, any_none p none xs) refl

-- ---- Leases

live_at : Addr → ℕ → Addr × ℕ → Bool
live_at a now r = same_addr r.0 a && is_live r.1 now

lease_host : (h : List ℕ) (a : Addr) (now : ℕ) (t : Thing) (r : Addr × ℕ) → list_any (is_met_by (of_key.Host h) a now) (bindings_of_lease t r) ≡ (bytes_eq (host_of t.url) h && live_at a now r)
unfolding is_met_by bindings_of_lease same_key live_at
lease_host h a now t r = or-false (bytes_eq (host_of t.url) h && (same_addr r.0 a && is_live r.1 now))

lease_model : (u : List ℕ) (a : Addr) (now : ℕ) (t : Thing) (r : Addr × ℕ) → list_any (is_met_by (of_key.Model u) a now) (bindings_of_lease t r) ≡ (bytes_eq t.url u && live_at a now r)
unfolding is_met_by bindings_of_lease same_key live_at
lease_model u a now t r = or-false (bytes_eq t.url u && (same_addr r.0 a && is_live r.1 now))

-- the test asks of each lease of a Thing what it asks of the Thing, and that the lease is live at the address
thing_met : (key : MemberKey) (a : Addr) (now : ℕ) (t : Thing) (c : Bool) → ((r : Addr × ℕ) → list_any (is_met_by key a now) (bindings_of_lease t r) ≡ (c && live_at a now r))
    → list_any (is_met_by key a now) (thing_bindings t) ≡ (c && has_lease a now t)
unfolding thing_bindings has_live live_at
thing_met key a now t c each =
    any-flat_map (is_met_by key a now) (bindings_of_lease t) t.leases
    ∙ any_same (λ r. list_any (is_met_by key a now) (bindings_of_lease t r)) (λ r. c && live_at a now r) each t.leases
    ∙ any_const c (live_at a now) t.leases

things_met : (key : MemberKey) (a : Addr) (now : ℕ) (test : Thing → Bool) → ((t : Thing) (r : Addr × ℕ) → list_any (is_met_by key a now) (bindings_of_lease t r) ≡ (test t && live_at a now r))
    → (things : List Thing) → list_any (is_met_by key a now) (flat_map thing_bindings things) ≡ is_leased test a now things
unfolding is_leased
things_met key a now test each things =
    any-flat_map (is_met_by key a now) thing_bindings things
    ∙ any_same (λ t. list_any (is_met_by key a now) (thing_bindings t)) (λ t. test t && has_lease a now t) (λ t. thing_met key a now t (test t) (each t)) things

host_met : (h : List ℕ) (a : Addr) (now : ℕ) (things : List Thing) → list_any (is_met_by (of_key.Host h) a now) (flat_map thing_bindings things) ≡ is_leased (has_host h) a now things
unfolding has_host
host_met h a now things = things_met (of_key.Host h) a now (has_host h) (lease_host h a now) things

model_met : (u : List ℕ) (a : Addr) (now : ℕ) (things : List Thing) → list_any (is_met_by (of_key.Model u) a now) (flat_map thing_bindings things) ≡ is_leased (has_url u) a now things
unfolding has_url
model_met u a now things = things_met (of_key.Model u) a now (has_url u) (lease_model u a now) things

-- a key of another kind
no_lease : (key : MemberKey) (a : Addr) (now : ℕ) → ((t : Thing) (r : Addr × ℕ) → list_any (is_met_by key a now) (bindings_of_lease t r) ≡ false) → (things : List Thing) → list_any (is_met_by key a now) (flat_map thing_bindings things) ≡ false
unfolding thing_bindings
no_lease key a now none things =
    any-flat_map (is_met_by key a now) thing_bindings things
    ∙ any_none (λ t. list_any (is_met_by key a now) (thing_bindings t)) (λ t. any-flat_map (is_met_by key a now) (bindings_of_lease t) t.leases ∙ any_none (λ r. list_any (is_met_by key a now) (bindings_of_lease t r)) (none t) t.leases) things

-- ---- Classes

live_for_ever : (now : ℕ) → now < for_ever → is_live for_ever now ≡ true
unfolding is_live
live_for_ever now h = lt-ltb now for_ever h

of_uri : (uri : List ℕ) (c : Class) → same_key (member_key c) (of_key.Class uri) ≡ same_class c (class.Uri uri)
unfolding same_key member_key key_of_class
of_uri uri (class.Uri x) = refl
of_uri uri (class.Mine x) = refl

of_mine : (url : List ℕ) (c : Class) → same_key (member_key c) (of_key.Mine url) ≡ same_class c (class.Mine url)
unfolding same_key member_key key_of_class
of_mine url (class.Uri x) = refl
of_mine url (class.Mine x) = refl

address_met : (key : MemberKey) (a : Addr) (now : ℕ) → now < for_ever → (row : ClassRow) (b : Addr) → is_met_by key a now (class_binding row b) ≡ (same_key (member_key row.class) key && same_addr b a)
unfolding is_met_by class_binding
address_met key a now h row b = rw (live_for_ever now h, and-true (same_addr b a)) refl

class_met : (key : MemberKey) (c : Class) (a : Addr) (now : ℕ) → now < for_ever → ((d : Class) → same_key (member_key d) key ≡ same_class d c) → (row : ClassRow) → list_any (is_met_by key a now) (class_bindings row) ≡ (same_class row.class c && has_addr a row.addrs)
unfolding class_bindings has_addr
class_met key c a now h same row =
    any-map (is_met_by key a now) (class_binding row) row.addrs
    ∙ any_same (λ b. is_met_by key a now (class_binding row b)) (λ b. same_class row.class c && same_addr b a) (λ b. address_met key a now h row b ∙ ap (λ k. k && same_addr b a) (same row.class)) row.addrs
    ∙ any_const (same_class row.class c) (λ b. same_addr b a) row.addrs

classes_met : (key : MemberKey) (c : Class) (a : Addr) (now : ℕ) → now < for_ever → ((d : Class) → same_key (member_key d) key ≡ same_class d c) → (classes : List ClassRow) → list_any (is_met_by key a now) (flat_map class_bindings classes) ≡ is_bound c a classes
unfolding is_bound
classes_met key c a now h same classes =
    any-flat_map (is_met_by key a now) class_bindings classes
    ∙ any_same (λ row. list_any (is_met_by key a now) (class_bindings row)) (λ row. same_class row.class c && has_addr a row.addrs) (class_met key c a now h same) classes

no_class : (key : MemberKey) (a : Addr) (now : ℕ) → ((d : Class) → same_key (member_key d) key ≡ false) → (classes : List ClassRow) → list_any (is_met_by key a now) (flat_map class_bindings classes) ≡ false
unfolding class_bindings is_met_by class_binding
no_class key a now none classes =
    any-flat_map (is_met_by key a now) class_bindings classes
    ∙ any_none (λ row. list_any (is_met_by key a now) (class_bindings row))
    (λ row. any-map (is_met_by key a now) (class_binding row) row.addrs ∙ any_none (λ b. is_met_by key a now (class_binding row b)) (λ b. ap (λ k. k && (same_addr b a && is_live for_ever now)) (none row.class)) row.addrs) classes

-- ---- Names

row_met : (name : List ℕ) (a : Addr) (now : ℕ) (row : NameRow) → list_any (is_met_by (of_key.Name name) a now) (name_bindings row) ≡ (bytes_eq row.name name && has_live a now row.addrs)
unfolding name_bindings name_binding is_met_by same_key has_live
row_met name a now row =
    any-map (is_met_by (of_key.Name name) a now) (name_binding row) row.addrs
    ∙ any_const (bytes_eq row.name name) (λ r. same_addr r.0 a && is_live r.1 now) row.addrs

names_met : (name : List ℕ) (a : Addr) (now : ℕ) (names : List NameRow) → list_any (is_met_by (of_key.Name name) a now) (flat_map name_bindings names) ≡ is_named name a now names
unfolding is_named
names_met name a now names =
    any-flat_map (is_met_by (of_key.Name name) a now) name_bindings names
    ∙ any_same (λ row. list_any (is_met_by (of_key.Name name) a now) (name_bindings row)) (λ row. bytes_eq row.name name && has_live a now row.addrs) (row_met name a now) names

no_name : (key : MemberKey) (a : Addr) (now : ℕ) → ((name : List ℕ) → same_key (of_key.Name name) key ≡ false) → (names : List NameRow) → list_any (is_met_by key a now) (flat_map name_bindings names) ≡ false
unfolding name_bindings name_binding is_met_by
no_name key a now none names =
    any-flat_map (is_met_by key a now) name_bindings names
    ∙ any_none (λ row. list_any (is_met_by key a now) (name_bindings row))
    (λ row. any-map (is_met_by key a now) (name_binding row) row.addrs ∙ any_none (λ r. is_met_by key a now (name_binding row r)) (λ r. ap (λ k. k && (same_addr r.0 a && is_live r.1 now)) (none row.name)) row.addrs) names

-- ---- All of the tables

parts : (tables : Tables) (key : MemberKey) (a : Addr) (now : ℕ) (x y z : Bool) → list_any (is_met_by key a now) (flat_map thing_bindings tables.things) ≡ x
    → list_any (is_met_by key a now) (flat_map class_bindings tables.classes) ≡ y → list_any (is_met_by key a now) (flat_map name_bindings tables.names) ≡ z
    → has_live_binding (bindings_of tables) key a now ≡ ((x || y) || z)
unfolding has_live_binding bindings_of things_bindings classes_bindings names_bindings
parts tables key a now x y z of_things of_classes of_names =
    let met : Binding → Bool = is_met_by key a now in
    list_any-append met (flat_map thing_bindings tables.things ++ flat_map class_bindings tables.classes) (flat_map name_bindings tables.names)
    ∙ ap (λ b. b || list_any met (flat_map name_bindings tables.names)) (list_any-append met (flat_map thing_bindings tables.things) (flat_map class_bindings tables.classes))
    ∙ rw (of_things, of_classes, of_names) refl

pub has_live-host : (tables : Tables) (host : List ℕ) (a : Addr) (now : ℕ) → has_live_binding (bindings_of tables) (of_key.Host host) a now ≡ is_leased (has_host host) a now tables.things
unfolding member_key same_key
has_live-host tables host a now =
    parts tables (of_key.Host host) a now _ false false (host_met host a now tables.things)
    (no_class (of_key.Host host) a now (elim [ class.Uri x ↦ refl | class.Mine x ↦ refl ]) tables.classes) (no_name (of_key.Host host) a now (λ _. refl) tables.names)
    ∙ or-false _ ∙ or-false _

pub has_live-model : (tables : Tables) (url : List ℕ) (a : Addr) (now : ℕ) → has_live_binding (bindings_of tables) (of_key.Model url) a now ≡ is_leased (has_url url) a now tables.things
unfolding member_key same_key
has_live-model tables url a now =
    parts tables (of_key.Model url) a now _ false false (model_met url a now tables.things)
    (no_class (of_key.Model url) a now (elim [ class.Uri x ↦ refl | class.Mine x ↦ refl ]) tables.classes) (no_name (of_key.Model url) a now (λ _. refl) tables.names)
    ∙ or-false _ ∙ or-false _

pub has_live-class : (tables : Tables) (uri : List ℕ) (a : Addr) (now : ℕ) → now < for_ever → has_live_binding (bindings_of tables) (of_key.Class uri) a now ≡ is_bound (class.Uri uri) a tables.classes
unfolding same_key is_met_by bindings_of_lease
has_live-class tables uri a now h =
    parts tables (of_key.Class uri) a now false _ false (no_lease (of_key.Class uri) a now (λ _ _. refl) tables.things)
    (classes_met (of_key.Class uri) (class.Uri uri) a now h (of_uri uri) tables.classes) (no_name (of_key.Class uri) a now (λ _. refl) tables.names)
    ∙ or-false _

pub has_live-mine : (tables : Tables) (url : List ℕ) (a : Addr) (now : ℕ) → now < for_ever → has_live_binding (bindings_of tables) (of_key.Mine url) a now ≡ is_bound (class.Mine url) a tables.classes
unfolding same_key is_met_by bindings_of_lease
has_live-mine tables url a now h =
    parts tables (of_key.Mine url) a now false _ false (no_lease (of_key.Mine url) a now (λ _ _. refl) tables.things)
    (classes_met (of_key.Mine url) (class.Mine url) a now h (of_mine url) tables.classes) (no_name (of_key.Mine url) a now (λ _. refl) tables.names)
    ∙ or-false _

pub has_live-name : (tables : Tables) (name : List ℕ) (a : Addr) (now : ℕ) → has_live_binding (bindings_of tables) (of_key.Name name) a now ≡ is_named name a now tables.names
unfolding member_key same_key is_met_by bindings_of_lease
has_live-name tables name a now =
    parts tables (of_key.Name name) a now false false _ (no_lease (of_key.Name name) a now (λ _ _. refl) tables.things)
    (no_class (of_key.Name name) a now (elim [ class.Uri x ↦ refl | class.Mine x ↦ refl ]) tables.classes) (names_met name a now tables.names)
