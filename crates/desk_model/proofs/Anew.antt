-- Things of version 1 are put anew in version 2.
use Rattle.std.proofs.Common.{◌≡◌, ℕ, cond, ◌&&◌, List, [], ◌∷◌, ◌++◌, map, Option, Some, None, Ok, refl, sym, ap, subst, ◌∙◌, inl, inr, arith, lit<, lit≤}
use Rattle.std.specs.Prelude.{option_map, is_none}
use Rattle.std.specs.List.{AllByRecursion}
use Rattle.std.specs.declared.cmp.Ordering.TheVariants.{Less, Equal}
use Rattle.base_rows.specs.Sortable.{sort_key_cmp, set_row, SortKeysAbove, SortKeysBelow}
use Rattle.base_rows.proofs.SortableLaws.{sort_key_cmp_itself}
use Rattle.base_rows.proofs.IndexLaws.{set_row-behind}
use Rattle.mud_world.specs.declared.item.Item.{Item}
use Rattle.mud_world.specs.declared.item.Put.TheVariants.{Set}
use Rattle.mud_world.specs.Items.{sort_key_of, put_one, IsOrdered}
use Rattle.mud_base.specs.Numbers.{IsOctets}
use Rattle.item_codec.specs.Records.{◌>>=◌, version_to_in}
use Rattle.item_codec.proofs.RecordLaws.{some_is, version_to_back}
use Rattle.table_model.specs.declared.thing.Thing.{Thing}
use Rattle.table_model.specs.ThingItems.{thing_fields, thing_item, first_thing_item, thing_in, item_anew, in_second, with_thing_item, IsThingItem}
use Rattle.table_model.specs.TakenItems.{all_taken, is_empty, have_none, with_item}
use Rattle.table_model.proofs.ItemLaws.{thing_back, thing_alone}
use Rattle.desk_model.specs.DeskTables.{DeskTables}
use Rattle.desk_model.specs.Items.{KeptDesk, none_kept, tables_in, in_second_version}
use Rattle.desk_model.proofs.Taking.{kept_by_taken, taken_by_kept}
use Rattle.desk_model.proofs.ReadSound.{read_from}
use Rattle.desk_model.proofs.Parts.{kept_in, desk_in, with_desk_item}

not_both : (o : Option (ℕ × List ℕ)) (x y : ℕ × List ℕ) → o ≡ Some x → o ≡ Some y → x.0 ≡ 2 → y.0 ≡ 1 → ⊥
not_both o x y e f two one = let g : x.0 ≡ y.0 = ap (λ (v : ℕ × List ℕ). v.0) (some_is x y (sym e ∙ f)) in omega (arith, g, two, one)

-- ---- The item of a Thing, of either version

first_sort_key : (thing : Thing) → sort_key_of (thing_item thing) ≡ sort_key_of (first_thing_item thing)
unfolding thing_item first_thing_item
first_sort_key thing = refl

module _ (item : Item) (octets : IsOctets item.body) where
  sort_key_anew : (o : Option Thing) → thing_in item ≡ o → sort_key_of (item_anew item o) ≡ sort_key_of item
  unfolding item_anew
  sort_key_anew None e = refl
  sort_key_anew (Some thing) e =
      let of_thing : IsThingItem item thing = thing_alone item thing octets e in
      elim of_thing.same [ inl s ↦ ap sort_key_of (sym s) | inr s ↦ first_sort_key thing ∙ ap sort_key_of (sym s.0) ]

  pub sort_key_in_second : sort_key_of (in_second item) ≡ sort_key_of item
  unfolding in_second
  sort_key_in_second = sort_key_anew (thing_in item) refl

  newer_anew : (rest : List ℕ) → version_to_in 2 item.body ≡ Some (2, rest) → (o : Option Thing) → thing_in item ≡ o → item_anew item o ≡ item
  unfolding item_anew first_thing_item
  newer_anew rest two None e = refl
  newer_anew rest two (Some thing) e =
      let of_thing : IsThingItem item thing = thing_alone item thing octets e in
      elim of_thing.same [
        | inl s ↦ sym s
        | inr s ↦ let one : version_to_in 2 item.body ≡ Some (1, thing_fields thing) = ap (λ (i : Item). version_to_in 2 i.body) s.0 ∙ version_to_back 2 1 (thing_fields thing) (lit≤ tt) (lit≤ tt) (lit< tt) in absurd (not_both (version_to_in 2 item.body) (2, rest) (1, thing_fields thing) two one refl refl)
      ]

  pub newer_same : (rest : List ℕ) → version_to_in 2 item.body ≡ Some (2, rest) → in_second item ≡ item
  unfolding in_second
  newer_same rest two = newer_anew rest two (thing_in item) refl

  -- ---- Taking it

  taken_thing : (kept : KeptDesk) (i : Item) → i.kind ≡ 1 → with_desk_item kept i ≡ cond (is_empty kept.files && have_none kept.binds && is_none kept.stamp) (option_map (λ (things : List Thing). record kept { things = things }) (with_thing_item kept.things i)) None
  unfolding with_item
  taken_thing kept i e = rw e refl

  thing_kind : (thing : Thing) → (thing_item thing).kind ≡ 1
  unfolding thing_item
  thing_kind thing = refl

  own_kind : (thing : Thing) → IsThingItem item thing → item.kind ≡ 1
  unfolding thing_item first_thing_item
  own_kind thing of_thing = elim of_thing.same [ inl s ↦ ap (λ (i : Item). i.kind) s | inr s ↦ ap (λ (i : Item). i.kind) s.0 ]

  same_thing : (things : List Thing) (thing : Thing) → thing_in item ≡ Some thing → IsThingItem item thing → with_thing_item things (thing_item thing) ≡ with_thing_item things item
  unfolding with_thing_item
  same_thing things thing e of_thing = rw (thing_back thing of_thing.kept, e) refl

  taken_anew : (kept : KeptDesk) (o : Option Thing) → thing_in item ≡ o → with_desk_item kept (item_anew item o) ≡ with_desk_item kept item
  unfolding item_anew
  taken_anew kept None e = refl
  taken_anew kept (Some thing) e =
      let of_thing : IsThingItem item thing = thing_alone item thing octets e in
      taken_thing kept (thing_item thing) (thing_kind thing)
      ∙ ap (λ (o : Option (List Thing)). cond (is_empty kept.files && have_none kept.binds && is_none kept.stamp) (option_map (λ (things : List Thing). record kept { things = things }) o) None) (same_thing kept.things thing e of_thing)
      ∙ sym (taken_thing kept item (own_kind thing of_thing))

  pub taken_in_second : (kept : KeptDesk) → with_desk_item kept (in_second item) ≡ with_desk_item kept item
  unfolding in_second
  taken_in_second kept = taken_anew kept (thing_in item) refl

-- ---- In its place

before_one : (p : List ℕ) (xs : List Item) (item : Item) (ys : List Item) → SortKeysAbove sort_key_of p (xs ++ item ∷ ys) → sort_key_cmp p (sort_key_of item) ≡ Less
before_one p [] item ys above = above.0
before_one p (x ∷ xs) item ys above = before_one p xs item ys above.1

below_one : (xs : List Item) (item : Item) (ys : List Item) → IsOrdered (xs ++ item ∷ ys) → SortKeysBelow sort_key_of (sort_key_of item) xs
below_one [] item ys up = tt
below_one (x ∷ xs) item ys up = (before_one (sort_key_of x) xs item ys up.0, below_one xs item ys up.1)

in_place_of : (new item : Item) (ys : List Item) → sort_key_of new ≡ sort_key_of item → set_row sort_key_of new (item ∷ ys) ≡ new ∷ ys
in_place_of new item ys e =
    let same : sort_key_cmp (sort_key_of new) (sort_key_of item) ≡ Equal = subst (λ p. sort_key_cmp (sort_key_of new) p ≡ Equal) e (sort_key_cmp_itself (sort_key_of new)) in
    rw (same, set_row) refl

pub put_anew : (xs : List Item) (item : Item) (ys : List Item) → IsOctets item.body → IsOrdered (xs ++ item ∷ ys) → put_one (xs ++ item ∷ ys) (Set (in_second item)) ≡ xs ++ in_second item ∷ ys
put_anew xs item ys octets up =
    let e : sort_key_of (in_second item) ≡ sort_key_of item = sort_key_in_second item octets in
    set_row-behind sort_key_of (in_second item) xs (item ∷ ys) (subst (λ p. SortKeysBelow sort_key_of p xs) (sym e) (below_one xs item ys up))
    ∙ ap (λ (t : List Item). xs ++ t) (in_place_of (in_second item) item ys e)

-- ---- Reading some anew, and others as they were

all_in_second : (kept : KeptDesk) (xs ys : List Item) → AllByRecursion (λ item. IsOctets item.body) xs → all_taken with_desk_item kept (map in_second xs ++ ys) ≡ all_taken with_desk_item kept (xs ++ ys)
all_in_second kept [] ys octets = refl
all_in_second kept (x ∷ xs) ys octets =
    ap (λ (o : Option KeptDesk). o >>= λ next. all_taken with_desk_item next (map in_second xs ++ ys)) (taken_in_second x octets.0 kept)
    ∙ behind (with_desk_item kept x) (λ next. all_in_second next xs ys octets.1)
  where
    behind : (o : Option KeptDesk) → ((next : KeptDesk) → all_taken with_desk_item next (map in_second xs ++ ys) ≡ all_taken with_desk_item next (xs ++ ys)) → (o >>= λ next. all_taken with_desk_item next (map in_second xs ++ ys)) ≡ (o >>= λ next. all_taken with_desk_item next (xs ++ ys))
    behind (Some next) again = again next
    behind None again = refl

pub read_anew : (xs ys : List Item) (desk : DeskTables) → AllByRecursion (λ item. IsOctets item.body) xs → tables_in (xs ++ ys) ≡ Ok desk → tables_in (in_second_version xs ++ ys) ≡ Ok desk
unfolding tables_in in_second_version
read_anew xs ys desk octets e =
    let r = read_from (xs ++ ys) (kept_in none_kept (xs ++ ys)) desk e in
    let taken : all_taken with_desk_item none_kept (map in_second xs ++ ys) ≡ Some r.0 = all_in_second none_kept xs ys octets ∙ taken_by_kept none_kept (xs ++ ys) r.0 r.1 in
    ap desk_in (kept_by_taken none_kept (map in_second xs ++ ys) r.0 taken) ∙ ap (λ (d : DeskTables). Ok d) r.2
