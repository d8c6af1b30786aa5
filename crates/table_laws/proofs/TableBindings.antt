-- The bindings of sound tables are one for a key and an address, and a change of one part changes those of all.
use Rattle.std.proofs.Common.{◌≡◌, ℕ, ◌<◌, Bool, true, false, cond, not, ◌&&◌, ◌||◌, List, [], ◌∷◌, ◌++◌, Some, None, refl, sym, ap, subst, ◌∙◌, arith}
use Rattle.std.specs.Prelude.{flat_map, find}
use Rattle.std.specs.List.{list_any}
use Rattle.std.specs.Option.{option_map}
use Rattle.std.proofs.lemmas.Bool.{false≢true}
use Rattle.std.proofs.lemmas.Option.{none-some}
use Rattle.std.proofs.lemmas.List.Folds.{list_any-append}
use Rattle.base_rows.specs.Sortable.{same_sort_key, row_at}
use Rattle.base_rows.proofs.SortableLaws.{row_at_above, row_at_row}
use Rattle.mud_base.specs.declared.addr.Addr.{Addr}
use Rattle.mud_url.specs.Url.{host_of}
use Rattle.acl_model.specs.declared.binding.MemberKey.{MemberKey}
use Rattle.acl_model.specs.declared.binding.MemberKey.TheVariants as of_key
use Rattle.acl_model.specs.declared.binding.Binding.{Binding}
use Rattle.table_model.specs.declared.thing.Thing.{Thing}
use Rattle.table_model.specs.declared.bind.Class.{Class}
use Rattle.table_model.specs.declared.bind.Class.TheVariants as class
use Rattle.table_model.specs.declared.bind.ClassRow.{ClassRow}
use Rattle.table_model.specs.declared.bind.NameRow.{NameRow}
use Rattle.table_model.specs.Things.{mac_of, IsSoundThings}
use Rattle.table_model.specs.Binds.{class_key, name_of, IsSoundClasses, IsSoundNames}
use Rattle.table_model.specs.Tables.{Tables, IsSoundTables}
use Rattle.table_model.specs.Bindings.{binding, bindings_of_lease, thing_bindings, member_key, class_bindings, name_bindings, things_bindings, classes_bindings, names_bindings, bindings_of}
use Rattle.base_rows.specs.Changes.{are_apart}
use Rattle.acl_model.specs.Changes.{same_spot, same_binding, has_binding, IsBindingChange, is_bound_to, until_of, bound_until}
use Rattle.table_laws.proofs.Differences.{gone_at, come_at}
use Rattle.base_rows.proofs.ListTests.{left_of, right_of, is_not, any_by, any_more, any-flat_map}
use Rattle.base_rows.proofs.RowSets.{Passing, found_passing, at_later}
use Rattle.base_rows.proofs.ListTests.{any_either, apart-append}
use Rattle.acl_model.proofs.BindingLaws.{same_spot_itself, spot_of_same, until_of_same, spot_shared}
use Rattle.table_laws.proofs.Differences.{spot_among, IsElsewhereSame, IsBindingRows, binding_change}
use Rattle.table_laws.proofs.BindingRows.{spot_key, class_bound, name_bound, things_bind, classes_bind, names_bind}

-- ---- All rows of a part

module _ {R : Type 0} (sort_key : R → List ℕ) (f : R → List Binding) where
  pub apart-flat_map : (rows : List R) → IsBindingRows sort_key f rows → are_apart same_spot (flat_map f rows) ≡ true
  apart-flat_map [] sound = refl
  apart-flat_map (x ∷ xs) sound =
      let still : (p : List ℕ) (y : R) → row_at sort_key p xs ≡ Some y → row_at sort_key p (x ∷ xs) ≡ Some y = λ p y there. at_later sort_key p x y xs sound.ascend.0 there (same_sort_key (sort_key x) p) refl in
      apart-append same_spot same_spot_itself (f x) (flat_map f xs) (sound.each (sort_key x) x (row_at_row sort_key (x ∷ xs) 0 x sound.ascend refl))
      (apart-flat_map xs (record {
        ascend = sound.ascend.1;
        one = λ b p q y z at_p at_q. sound.one b p q y z (still p y at_p) (still q z at_q);
        each = λ p y there. sound.each p y (still p y there);
      }))
      (λ b here later.
      let r : Passing sort_key (λ y. list_any (same_spot b) (f y)) xs = found_passing sort_key (λ y. list_any (same_spot b) (f y)) xs sound.ascend.1 (sym (any-flat_map (same_spot b) f xs) ∙ later) in
      let same : sort_key x ≡ r.at = sound.one b (sort_key x) r.at x r.row (row_at_row sort_key (x ∷ xs) 0 x sound.ascend refl) (still r.at r.row r.there) here r.passes in
      none-some r.row (sym (subst (λ p. row_at sort_key p xs ≡ None) same (row_at_above sort_key (sort_key x) xs sound.ascend.0)) ∙ r.there))

-- ---- The three parts have keys of their own

kind : MemberKey → ℕ
kind (of_key.Host host) = 1
kind (of_key.Model url) = 1
kind (of_key.Class uri) = 2
kind (of_key.Mine url) = 2
kind (of_key.Name name) = 3

kind_of_class : (c : Class) → kind (member_key c) ≡ 2
unfolding kind member_key
kind_of_class (class.Uri uri) = refl
kind_of_class (class.Mine url) = refl

any_tells : {A B : Type 0} {P : Type 0} (p : B → Bool) (f : A → List B) (xs : List A) → ((x : A) → list_any p (f x) ≡ true → P) → list_any p (flat_map f xs) ≡ true → P
any_tells p f [] each e = absurd (false≢true e)
any_tells p f (x ∷ xs) each e = any_either p (f x) (flat_map f xs) (each x) (any_tells p f xs each) e

lease_kind : (b : Binding) (t : Thing) (r : Addr × ℕ) → list_any (same_spot b) (bindings_of_lease t r) ≡ true → kind b.key ≡ 1
unfolding bindings_of_lease kind
lease_kind b t r e = any_by (same_spot b) (binding (of_key.Host (host_of t.url)) r.0 r.1) (binding (of_key.Model t.url) r.0 r.1 ∷ [])
    (λ here. ap kind (spot_key b (binding (of_key.Host (host_of t.url)) r.0 r.1) here))
    (any_by (same_spot b) (binding (of_key.Model t.url) r.0 r.1) [] (λ here. ap kind (spot_key b (binding (of_key.Model t.url) r.0 r.1) here)) (λ none. absurd (false≢true none)))
    e

thing_kind : (b : Binding) (things : List Thing) → list_any (same_spot b) (flat_map thing_bindings things) ≡ true → kind b.key ≡ 1
unfolding thing_bindings
thing_kind b things e = any_tells (same_spot b) thing_bindings things (λ t. any_tells (same_spot b) (bindings_of_lease t) t.leases (lease_kind b t)) e

class_kind : (b : Binding) (classes : List ClassRow) → list_any (same_spot b) (flat_map class_bindings classes) ≡ true → kind b.key ≡ 2
class_kind b classes e = any_tells (same_spot b) class_bindings classes (λ row here. ap kind (class_bound b row here) ∙ kind_of_class row.class) e

name_kind : (b : Binding) (names : List NameRow) → list_any (same_spot b) (flat_map name_bindings names) ≡ true → kind b.key ≡ 3
unfolding kind
name_kind b names e = any_tells (same_spot b) name_bindings names (λ row here. ap kind (name_bound b row here)) e

-- no binding of both has the key and the address
abbrev pub AreForeign : List Binding → List Binding → Type 0
AreForeign xs ys = (b : Binding) → list_any (same_spot b) xs ≡ true → list_any (same_spot b) ys ≡ true → ⊥

other_kind : (n k m : ℕ) → n ≡ k → n ≡ m → k < m → ⊥
other_kind n k m is_k is_m less = omega arith

things_classes : (things : List Thing) (classes : List ClassRow) → AreForeign (flat_map thing_bindings things) (flat_map class_bindings classes)
things_classes things classes b l r = other_kind (kind b.key) 1 2 (thing_kind b things l) (class_kind b classes r) (omega arith)

both_names : (things : List Thing) (classes : List ClassRow) (names : List NameRow) → AreForeign (flat_map thing_bindings things ++ flat_map class_bindings classes) (flat_map name_bindings names)
both_names things classes names b l r =
    any_either (same_spot b) (flat_map thing_bindings things) (flat_map class_bindings classes)
    (λ l'. other_kind (kind b.key) 1 3 (thing_kind b things l') (name_kind b names r) (omega arith))
    (λ l'. other_kind (kind b.key) 2 3 (class_kind b classes l') (name_kind b names r) (omega arith)) l

-- ---- Sound tables have one binding for a key and an address

pub bindings_apart : (tables : Tables) → IsSoundTables tables → are_apart same_spot (bindings_of tables) ≡ true
unfolding bindings_of things_bindings classes_bindings names_bindings
bindings_apart tables sound =
    apart-append same_spot same_spot_itself (flat_map thing_bindings tables.things ++ flat_map class_bindings tables.classes) (flat_map name_bindings tables.names)
    (apart-append same_spot same_spot_itself (flat_map thing_bindings tables.things) (flat_map class_bindings tables.classes)
    (apart-flat_map mac_of thing_bindings tables.things (things_bind tables.things sound.things))
    (apart-flat_map class_key class_bindings tables.classes (classes_bind tables.classes sound.classes))
    (things_classes tables.things tables.classes))
    (apart-flat_map name_of name_bindings tables.names (names_bind tables.names sound.names))
    (both_names tables.things tables.classes tables.names)

-- so an address is bound to a key until the expiry of its binding
bound_here : (b x : Binding) → same_spot b x ≡ is_bound_to b.key b.addr x
unfolding is_bound_to same_spot
bound_here b x = refl

pub bound_until_its : (b : Binding) (bindings : List Binding) → are_apart same_spot bindings ≡ true → has_binding b bindings ≡ true → bound_until bindings b.key b.addr ≡ Some b.until
unfolding has_binding bound_until until_of
bound_until_its b [] apart e = absurd (false≢true e)
bound_until_its b (x ∷ xs) apart e = by_test (is_bound_to b.key b.addr x) refl (bound_until_its b xs (right_of (not (list_any (same_spot x) xs)) (are_apart same_spot xs) apart))
  where
    by_test : (t : Bool) → is_bound_to b.key b.addr x ≡ t → (has_binding b xs ≡ true → bound_until xs b.key b.addr ≡ Some b.until) → option_map until_of (cond t (Some x) (find (is_bound_to b.key b.addr) xs)) ≡ Some b.until
    by_test true is rest = ap Some (sym (any_by (same_binding b) x xs (until_of_same b x)
        (λ later. absurd (is_not (list_any (same_spot x) xs) (left_of (not (list_any (same_spot x) xs)) (are_apart same_spot xs) apart)
        (any_more (same_spot b) (same_spot x) xs (λ c. spot_shared b x c (bound_here b x ∙ is)) (spot_among b xs later)))) e))
    by_test false is rest = rest (any_by (same_binding b) x xs (λ here. absurd (false≢true (sym is ∙ sym (bound_here b x) ∙ spot_of_same b x here))) (λ later. later) e)

-- ---- A change of one part is one of all

no_foreign : (xs ys : List Binding) → AreForeign xs ys → (b : Binding) → has_binding b xs ≡ true → has_binding b ys ≡ true → ⊥
no_foreign xs ys foreign b l r = foreign b (spot_among b xs l) (spot_among b ys r)

-- what another part has doesn't count
beside : (x y z : Bool) → (x ≡ true → z ≡ true → ⊥) → (y ≡ true → z ≡ true → ⊥) → (x && not y) ≡ ((x || z) && not (y || z))
beside true y true f g = absurd (f refl refl)
beside true true false f g = refl
beside true false false f g = refl
beside false true true f g = refl
beside false true false f g = refl
beside false false true f g = refl
beside false false false f g = refl

pub change_before : (before after others gone come : List Binding) → AreForeign before others → AreForeign after others → IsBindingChange before after gone come → IsBindingChange (before ++ others) (after ++ others) gone come
unfolding has_binding
change_before before after others gone come of_before of_after change = record {
  went = λ b. change.went b ∙ beside (has_binding b before) (has_binding b after) (has_binding b others) (no_foreign before others of_before b) (no_foreign after others of_after b)
      ∙ sym (λ i. list_any-append (same_binding b) before others i && not (list_any-append (same_binding b) after others i));
  came = λ b. change.came b ∙ beside (has_binding b after) (has_binding b before) (has_binding b others) (no_foreign after others of_after b) (no_foreign before others of_before b)
      ∙ sym (λ i. list_any-append (same_binding b) after others i && not (list_any-append (same_binding b) before others i));
  gone_once = change.gone_once;
  come_once = change.come_once;
}

-- what another part has first
has_turned : (b : Binding) (xs ys : List Binding) → has_binding b (xs ++ ys) ≡ has_binding b (ys ++ xs)
unfolding has_binding
has_turned b xs ys = list_any-append (same_binding b) xs ys ∙ or_turned (list_any (same_binding b) xs) (list_any (same_binding b) ys) ∙ sym (list_any-append (same_binding b) ys xs)
  where
    or_turned : (b c : Bool) → (b || c) ≡ (c || b)
    or_turned true true = refl
    or_turned true false = refl
    or_turned false true = refl
    or_turned false false = refl

pub change_behind : (others before after gone come : List Binding) → AreForeign others before → AreForeign others after → IsBindingChange before after gone come → IsBindingChange (others ++ before) (others ++ after) gone come
change_behind others before after gone come of_before of_after change =
    let turned : IsBindingChange (before ++ others) (after ++ others) gone come = change_before before after others gone come (λ b l r. of_before b r l) (λ b l r. of_after b r l) change in
    record {
      went = λ b. turned.went b ∙ (λ i. has_turned b before others i && not (has_turned b after others i));
      came = λ b. turned.came b ∙ (λ i. has_turned b after others i && not (has_turned b before others i));
      gone_once = turned.gone_once;
      come_once = turned.come_once;
    }

-- ---- Rows of one table change

pub things_change : (tables : Tables) (things : List Thing) (sort_keys : List (List ℕ)) → IsSoundThings tables.things → IsSoundThings things → are_apart same_sort_key sort_keys ≡ true → IsElsewhereSame mac_of thing_bindings sort_keys tables.things things
    → IsBindingChange (bindings_of tables) (bindings_of (record tables { things = things })) (gone_at mac_of thing_bindings sort_keys tables.things things) (come_at mac_of thing_bindings sort_keys tables.things things)
unfolding bindings_of things_bindings classes_bindings names_bindings
things_change tables things sort_keys old new once same =
    let of_things : List Thing → List Binding = λ ts. flat_map thing_bindings ts in
    let of_classes : List Binding = flat_map class_bindings tables.classes in
    let of_names : List Binding = flat_map name_bindings tables.names in
    let gone : List Binding = gone_at mac_of thing_bindings sort_keys tables.things things in
    let come : List Binding = come_at mac_of thing_bindings sort_keys tables.things things in
    change_before (of_things tables.things ++ of_classes) (of_things things ++ of_classes) of_names gone come (both_names tables.things tables.classes tables.names) (both_names things tables.classes tables.names)
    (change_before (of_things tables.things) (of_things things) of_classes gone come (things_classes tables.things tables.classes) (things_classes things tables.classes)
    (binding_change mac_of thing_bindings sort_keys tables.things things (things_bind tables.things old) (things_bind things new) once same))

pub classes_change : (tables : Tables) (classes : List ClassRow) (sort_keys : List (List ℕ)) → IsSoundClasses tables.classes → IsSoundClasses classes → are_apart same_sort_key sort_keys ≡ true → IsElsewhereSame class_key class_bindings sort_keys tables.classes classes
    → IsBindingChange (bindings_of tables) (bindings_of (record tables { classes = classes })) (gone_at class_key class_bindings sort_keys tables.classes classes) (come_at class_key class_bindings sort_keys tables.classes classes)
unfolding bindings_of things_bindings classes_bindings names_bindings
classes_change tables classes sort_keys old new once same =
    let of_things : List Binding = flat_map thing_bindings tables.things in
    let of_classes : List ClassRow → List Binding = λ rows. flat_map class_bindings rows in
    let of_names : List Binding = flat_map name_bindings tables.names in
    let gone : List Binding = gone_at class_key class_bindings sort_keys tables.classes classes in
    let come : List Binding = come_at class_key class_bindings sort_keys tables.classes classes in
    change_before (of_things ++ of_classes tables.classes) (of_things ++ of_classes classes) of_names gone come (both_names tables.things tables.classes tables.names) (both_names tables.things classes tables.names)
    (change_behind of_things (of_classes tables.classes) (of_classes classes) gone come (things_classes tables.things tables.classes) (things_classes tables.things classes)
    (binding_change class_key class_bindings sort_keys tables.classes classes (classes_bind tables.classes old) (classes_bind classes new) once same))

pub names_change : (tables : Tables) (names : List NameRow) (sort_keys : List (List ℕ)) → IsSoundNames tables.names → IsSoundNames names → are_apart same_sort_key sort_keys ≡ true → IsElsewhereSame name_of name_bindings sort_keys tables.names names
    → IsBindingChange (bindings_of tables) (bindings_of (record tables { names = names })) (gone_at name_of name_bindings sort_keys tables.names names) (come_at name_of name_bindings sort_keys tables.names names)
unfolding bindings_of things_bindings classes_bindings names_bindings
names_change tables names sort_keys old new once same =
    let others : List Binding = flat_map thing_bindings tables.things ++ flat_map class_bindings tables.classes in
    change_behind others (flat_map name_bindings tables.names) (flat_map name_bindings names) (gone_at name_of name_bindings sort_keys tables.names names) (come_at name_of name_bindings sort_keys tables.names names)
    (both_names tables.things tables.classes tables.names) (both_names tables.things tables.classes names)
    (binding_change name_of name_bindings sort_keys tables.names names (names_bind tables.names old) (names_bind names new) once same)
