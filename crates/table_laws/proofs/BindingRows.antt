-- Sound tables have one binding for a key and an address.
use Rattle.std.proofs.Common.{◌≡◌, ℕ, Bool, true, not, ◌&&◌, List, [], ◌∷◌, length, map, refl, sym, ap, subst, ◌∙◌}
use Rattle.std.specs.Prelude.{flat_map, nat_le, nat_lt}
use Rattle.std.specs.List.{list_any}
use Rattle.std.proofs.lemmas.Bool.{false≢true}
use Rattle.base_rows.specs.Sortable.{same_sort_key}
use Rattle.base_rows.specs.Addresses.{addr_sort_key, expiry_sort_key}
use Rattle.base_rows.proofs.AddressLaws.{same_addr-sort_key}
use Rattle.base_rows.proofs.AscendLaws.{ascend_from}
use Rattle.base_rows.proofs.RowLaws.{sort_key_row_at}
use Rattle.mud_base.specs.Addresses.{same_addr}
use Rattle.mud_base.specs.declared.addr.Addr.{Addr}
use Rattle.mud_url.specs.Url.{host_of, is_canonical}
use Rattle.acl_model.specs.declared.binding.MemberKey.{MemberKey}
use Rattle.acl_model.specs.declared.binding.MemberKey.TheVariants as of_key
use Rattle.acl_model.specs.declared.binding.Binding.{Binding}
use Rattle.acl_model.specs.Keys.{same_key}
use Rattle.table_model.specs.declared.thing.Thing.{Thing}
use Rattle.table_model.specs.declared.bind.Class.{Class}
use Rattle.table_model.specs.declared.bind.Class.TheVariants as class
use Rattle.table_model.specs.declared.bind.ClassRow.{ClassRow}
use Rattle.table_model.specs.declared.bind.NameRow.{NameRow}
use Rattle.table_model.specs.Limits.{most}
use Rattle.table_model.specs.Expiries.{Expiries, has_address, are_ascending, have_expiries}
use Rattle.table_model.specs.Things.{mac_of, holds, may_wait, is_sound_thing, IsKeptThing, IsSoundThings}
use Rattle.table_model.specs.Binds.{key_of_class, class_key, name_of, is_class, is_sound_class, is_name, is_sound_name, IsKeptClass, IsKeptName, IsSoundClasses, IsSoundNames}
use Rattle.table_model.specs.Bindings.{binding, bindings_of_lease, thing_bindings, member_key, class_binding, class_bindings, name_binding, name_bindings}
use Rattle.base_rows.specs.Changes.{are_apart}
use Rattle.acl_model.specs.Changes.{same_spot}
use Rattle.base_rows.proofs.ListTests.{left_of, right_of, is_not, any_by, any_more, any-flat_map}
use Rattle.base_rows.proofs.ListTests.{apart-append, apart-map}
use Rattle.table_laws.proofs.Apart.{apart-unmap, apart-ascend}
use Rattle.acl_model.proofs.BindingLaws.{same_addr_exact, same_addr_itself}
use Rattle.acl_model.proofs.BindingLaws.{same_spot_exact, same_spot_itself}
use Rattle.table_laws.proofs.Differences.{IsBindingRows}
use Rattle.table_model.proofs.RowSets.{first_of_three, all_at}
use Rattle.table_model.proofs.Parts.{are_addrs, are_leases}

-- ---- Ascending addresses are apart

abbrev pub same_first : Addr × ℕ → Addr × ℕ → Bool
same_first r s = same_addr r.0 s.0

expiries_apart : (rows : Expiries) → are_ascending rows ≡ true → are_apart same_first rows ≡ true
unfolding are_ascending expiry_sort_key
expiries_apart rows e = apart-unmap same_sort_key same_first expiry_sort_key (λ r s same. sym (same_addr-sort_key r.0 s.0) ∙ same) rows (apart-ascend expiry_sort_key rows (ascend_from expiry_sort_key rows e))

addrs_apart : (addrs : List Addr) → are_addrs addrs ≡ true → are_apart same_addr addrs ≡ true
addrs_apart addrs e = apart-unmap same_sort_key same_addr addr_sort_key (λ a b same. sym (same_addr-sort_key a b) ∙ same) addrs (apart-ascend addr_sort_key addrs (ascend_from addr_sort_key addrs e))

-- ---- Things

same_turned : (a b : Addr) → same_addr a b ≡ true → same_addr b a ≡ true
same_turned a b e = subst (λ c. same_addr c a ≡ true) (same_addr_exact a b e) (same_addr_itself a)

pub spot_key : (b c : Binding) → same_spot b c ≡ true → b.key ≡ c.key
spot_key b c e = (same_spot_exact b c e).key

pub spot_addr : (b c : Binding) → same_spot b c ≡ true → same_addr c.addr b.addr ≡ true
spot_addr b c e = subst (λ a. same_addr a b.addr ≡ true) (same_spot_exact b c e).addr (same_addr_itself b.addr)

lease_addr : (b : Binding) (t : Thing) (r : Addr × ℕ) → list_any (same_spot b) (bindings_of_lease t r) ≡ true → same_addr r.0 b.addr ≡ true
unfolding bindings_of_lease
lease_addr b t r e = any_by (same_spot b) (binding (of_key.Host (host_of t.url)) r.0 r.1) (binding (of_key.Model t.url) r.0 r.1 ∷ [])
    (spot_addr b (binding (of_key.Host (host_of t.url)) r.0 r.1))
    (any_by (same_spot b) (binding (of_key.Model t.url) r.0 r.1) [] (spot_addr b (binding (of_key.Model t.url) r.0 r.1)) (λ none. absurd (false≢true none)))
    e

-- a Thing has the address that it binds
pub bound_held : (b : Binding) (t : Thing) → list_any (same_spot b) (thing_bindings t) ≡ true → holds b.addr t ≡ true
unfolding thing_bindings holds has_address
bound_held b t e = any_more (λ r. list_any (same_spot b) (bindings_of_lease t r)) (λ r. same_addr r.0 b.addr) t.leases (lease_addr b t) (sym (any-flat_map (same_spot b) (bindings_of_lease t) t.leases) ∙ e)

lease_apart : (t : Thing) (r : Addr × ℕ) → are_apart same_spot (bindings_of_lease t r) ≡ true
unfolding bindings_of_lease same_spot same_key
lease_apart t r = refl

leases_apart : (t : Thing) (rows : Expiries) → are_apart same_first rows ≡ true → are_apart same_spot (flat_map (bindings_of_lease t) rows) ≡ true
leases_apart t [] e = refl
leases_apart t (r ∷ rows) e = apart-append same_spot same_spot_itself (bindings_of_lease t r) (flat_map (bindings_of_lease t) rows) (lease_apart t r)
    (leases_apart t rows (right_of (not (list_any (same_first r) rows)) (are_apart same_first rows) e))
    (λ b here later. is_not (list_any (same_first r) rows) (left_of (not (list_any (same_first r) rows)) (are_apart same_first rows) e)
    (any_more (λ s. list_any (same_spot b) (bindings_of_lease t s)) (same_first r) rows
    (λ s there. subst (λ a. same_addr a s.0 ≡ true) (sym (same_addr_exact r.0 b.addr (lease_addr b t r here))) (same_turned s.0 b.addr (lease_addr b t s there)))
    (sym (any-flat_map (same_spot b) (bindings_of_lease t) rows) ∙ later)))

thing_apart : (t : Thing) → is_sound_thing t ≡ true → are_apart same_spot (thing_bindings t) ≡ true
unfolding is_sound_thing thing_bindings
thing_apart t sound =
    let leases : are_leases t.leases ≡ true = right_of (is_canonical t.url && may_wait t.url t.pending) (are_leases t.leases) sound in
    leases_apart t t.leases (expiries_apart t.leases (first_of_three (are_ascending t.leases) (have_expiries t.leases) (nat_le (length t.leases) most.leases) leases))

pub things_bind : (things : List Thing) → IsSoundThings things → IsBindingRows mac_of thing_bindings things
things_bind things sound = record {
  ascend = sound.ascend;
  one = λ b p q x y at_p at_q has_x has_y. sound.alone b.addr p q x y at_p at_q (bound_held b x has_x) (bound_held b y has_y);
  each = λ p x there. thing_apart x (all_at mac_of IsKeptThing things p x sound.each there).sound;
}

-- ---- Classes

-- the octets of the class of a key
key_octets : MemberKey → List ℕ
key_octets (of_key.Class uri) = 1 ∷ uri
key_octets (of_key.Mine url) = 2 ∷ url
key_octets (of_key.Host host) = []
key_octets (of_key.Model url) = []
key_octets (of_key.Name name) = name

octets_of_class : (c : Class) → key_octets (member_key c) ≡ key_of_class c
unfolding key_octets member_key key_of_class
octets_of_class (class.Uri uri) = refl
octets_of_class (class.Mine url) = refl

-- a class has the key that it binds
class_spot : (b : Binding) (row : ClassRow) (addrs : List Addr) → list_any (same_spot b) (map (class_binding row) addrs) ≡ true → b.key ≡ member_key row.class
unfolding class_binding
class_spot b row [] e = absurd (false≢true e)
class_spot b row (a ∷ addrs) e = any_by (same_spot b) (class_binding row a) (map (class_binding row) addrs) (spot_key b (class_binding row a)) (class_spot b row addrs) e

pub class_bound : (b : Binding) (row : ClassRow) → list_any (same_spot b) (class_bindings row) ≡ true → b.key ≡ member_key row.class
unfolding class_bindings
class_bound b row e = class_spot b row row.addrs e

class_sort_key : (b : Binding) (row : ClassRow) → list_any (same_spot b) (class_bindings row) ≡ true → key_octets b.key ≡ class_key row
unfolding class_key
class_sort_key b row e = ap key_octets (class_bound b row e) ∙ octets_of_class row.class

class_apart : (row : ClassRow) → is_sound_class row ≡ true → are_apart same_spot (class_bindings row) ≡ true
unfolding is_sound_class class_bindings class_binding
class_apart row sound =
    let addrs : are_addrs row.addrs ≡ true = right_of (is_class row.class) (are_addrs row.addrs) (first_of_three (is_class row.class && are_addrs row.addrs) (nat_lt 0 (length row.addrs)) (nat_le (length row.addrs) most.class_addresses) sound) in
    apart-map same_spot same_addr (class_binding row) (λ a b e. same_turned b a (spot_addr (class_binding row a) (class_binding row b) e)) row.addrs (addrs_apart row.addrs addrs)

pub classes_bind : (classes : List ClassRow) → IsSoundClasses classes → IsBindingRows class_key class_bindings classes
classes_bind classes sound = record {
  ascend = sound.ascend;
  one = λ b p q x y at_p at_q has_x has_y. sym (sort_key_row_at class_key p classes x at_p) ∙ sym (class_sort_key b x has_x) ∙ class_sort_key b y has_y ∙ sort_key_row_at class_key q classes y at_q;
  each = λ p x there. class_apart x (all_at class_key IsKeptClass classes p x sound.each there).sound;
}

-- ---- Names

name_spot : (b : Binding) (row : NameRow) (rows : Expiries) → list_any (same_spot b) (map (name_binding row) rows) ≡ true → b.key ≡ of_key.Name row.name
unfolding name_binding
name_spot b row [] e = absurd (false≢true e)
name_spot b row (r ∷ rows) e = any_by (same_spot b) (name_binding row r) (map (name_binding row) rows) (spot_key b (name_binding row r)) (name_spot b row rows) e

pub name_bound : (b : Binding) (row : NameRow) → list_any (same_spot b) (name_bindings row) ≡ true → b.key ≡ of_key.Name row.name
unfolding name_bindings
name_bound b row e = name_spot b row row.addrs e

name_sort_key : (b : Binding) (row : NameRow) → list_any (same_spot b) (name_bindings row) ≡ true → key_octets b.key ≡ name_of row
unfolding name_of key_octets
name_sort_key b row e = ap key_octets (name_bound b row e)

name_apart : (row : NameRow) → is_sound_name row ≡ true → are_apart same_spot (name_bindings row) ≡ true
unfolding is_sound_name name_bindings name_binding
name_apart row sound =
    let expiries : (is_name row.name && are_ascending row.addrs && have_expiries row.addrs) ≡ true = first_of_three (is_name row.name && are_ascending row.addrs && have_expiries row.addrs) (nat_lt 0 (length row.addrs)) (nat_le (length row.addrs) most.name_addresses) sound in
    let rows : (is_name row.name && are_ascending row.addrs) ≡ true = left_of (is_name row.name && are_ascending row.addrs) (have_expiries row.addrs) expiries in
    apart-map same_spot same_first (name_binding row) (λ r s e. same_turned s.0 r.0 (spot_addr (name_binding row r) (name_binding row s) e)) row.addrs
    (expiries_apart row.addrs (right_of (is_name row.name) (are_ascending row.addrs) rows))

pub names_bind : (names : List NameRow) → IsSoundNames names → IsBindingRows name_of name_bindings names
names_bind names sound = record {
  ascend = sound.ascend;
  one = λ b p q x y at_p at_q has_x has_y. sym (sort_key_row_at name_of p names x at_p) ∙ sym (name_sort_key b x has_x) ∙ name_sort_key b y has_y ∙ sort_key_row_at name_of q names y at_q;
  each = λ p x there. name_apart x (all_at name_of IsKeptName names p x sound.each there).sound;
}
