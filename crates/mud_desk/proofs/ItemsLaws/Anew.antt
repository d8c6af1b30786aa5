-- Things of version 1 are put anew, one after the other, in the items of a desk.
use Rattle.std.proofs.Common.{◌≡◌, ◌⊎◌, inl, inr, ℕ, zero, suc, ◌+◌, ◌≤◌, ◌<◌, cond, ◌&&◌, ◌==◌, List, [], ◌∷◌, ◌++◌, map, length, take, drop, get_or, slice_get, Option, Some, None, Ok, refl, sym, ap, subst, ◌∙◌, arith, add-one, lit<, length-append, append_assoc}
use Rattle.std.specs.Prelude.{option_map}
use Rattle.std.specs.List.{AllByRecursion}
use Rattle.std.proofs.Math.Seq.{drop-cons, drop-append_seam}
use Rattle.std.proofs.lemmas.List.{take_more, take_all, take-append-drop, drop-map, map-append, length-map}
use Rattle.std.proofs.lemmas.Option.{slice_get-map, slice_get-get_or}
use Rattle.item_codec.specs.Records.{◌>>=◌}
use Rattle.mud_world.specs.declared.item.Item.{Item}
use Rattle.mud_world.specs.declared.item.Put.TheVariants.{Set}
use Rattle.mud_world.specs.Items.{sort_key_of, put_one, put_all, IsOrdered}
use Rattle.mud_world.specs.declared.keeper.Keeper.{Ghosts}
use Rattle.mud_world.specs.Kept.{Tells, kept_items, Rests}
use Rattle.table_model.specs.declared.thing.Thing.{Thing}
use Rattle.table_model.specs.Tables.{binds_of}
use Rattle.table_model.specs.ThingItems.{thing_item, thing_items, thing_of, thing_in, item_anew, in_second}
use Rattle.table_model.specs.BindItems.{stamp_item, stamp_items}
use Rattle.table_model.specs.TakenItems.{bind_items}
use Rattle.usage_tables.specs.FileItems.{file_item, file_items}
use Rattle.desk_model.specs.DeskTables.{DeskTables}
use Rattle.desk_model.specs.Items.{desk_of, items_of, tables_in, in_second_version}
use Rattle.desk_model.proofs.Anew.{sort_key_in_second, put_anew}
use Rattle.desk_model.proofs.Keeping.{keeps_read, keeps_anew}
use Rattle.desk_model.proofs.ReadBack.{each_item, all_bind_items}
use Rattle.desk_model.proofs.Taking.{unequal}
use Rattle.desk_model.proofs.ReadSound.{desk_alone}
use Rattle.mud_desk.specs.declared.items.loaded.Loaded.{Loaded}
use Rattle.mud_desk.specs.Items.Loaded.{loaded_desk}
use Rattle.mud_desk.specs.Items.Opening.{HasOctets, IsPartlyAnew, PutsAnew}
use Rattle.base_rows.proofs.Lists.{all-append}
use Rattle.table_model.proofs.Parts.{if_sound_thing}

abbrev no_such : Option Thing
no_such = None

-- ---- One item

module _ (item : Item) (octets : HasOctets item) where
  same_kind : (in_second item).kind ≡ item.kind
  same_kind = let e : sort_key_of (in_second item) ≡ sort_key_of item = sort_key_in_second item octets in cc

  same_key : (in_second item).key ≡ item.key
  same_key = let e : sort_key_of (in_second item) ≡ sort_key_of item = sort_key_in_second item octets in cc

  -- what differs is the body alone
  same_by_body : (in_second item).body ≡ item.body → in_second item ≡ item
  same_by_body e = λ i. record { kind = same_kind i; key = same_key i; body = e i }

  -- no other item than that of a Thing differs
  no_thing : 1 < item.kind → thing_in item ≡ None
  unfolding thing_in
  no_thing other = ap (λ b. cond (b && length item.key == 6) (thing_of item.key item.body >>= if_sound_thing) no_such) (unequal item.kind 1 (λ e. omega (arith, other, e)) (item.kind == 1) refl)

  same_other : 1 < item.kind → in_second item ≡ item
  unfolding in_second item_anew
  same_other other = ap (item_anew item) (no_thing other)

module _ (item anew : Item) (octets : HasOctets item) (is : anew ≡ in_second item) (before now : List Item) where
  pub not_put : anew.body ≡ item.body → now ≡ before → PutsAnew item before now
  not_put same stays = record { there = λ xs ys up e. stays ∙ e ∙ ap (λ (i : Item). xs ++ i ∷ ys) (sym (same_by_body item octets (ap (λ (i : Item). i.body) (sym is) ∙ same))) }

  pub put_there : now ≡ put_all before (Set anew ∷ []) → PutsAnew item before now
  put_there put = record {
    there = λ xs ys up e.
        put ∙ ap (λ (i : Item). put_one before (Set i)) is ∙ ap (λ (b : List Item). put_one b (Set (in_second item))) e
        ∙ put_anew xs item ys octets (subst IsOrdered e up);
  }

-- ---- Lists of items

abbrev IsLater : Item → Type 0
IsLater item = 1 < item.kind

same_back : (items : List Item) → AllByRecursion HasOctets items → AllByRecursion IsLater (map in_second items) → map in_second items ≡ items
same_back [] octets later = refl
same_back (item ∷ items) octets later =
    let kind : 1 < item.kind = subst (λ k. 1 < k) (same_kind item octets.0) later.0 in
    ap (λ (i : Item). i ∷ map in_second items) (same_other item octets.0 kind) ∙ ap (λ (t : List Item). item ∷ t) (same_back items octets.1 later.1)

all_left : (n : ℕ) (items : List Item) → AllByRecursion HasOctets items → AllByRecursion HasOctets (drop n items)
all_left zero items octets = octets
all_left (suc n) [] octets = tt
all_left (suc n) (item ∷ items) octets = all_left n items octets.1

-- ---- The items of Things stand first

front : (xs ys : List Item) (i : ℕ) (x : Item) → slice_get xs i ≡ Some x → slice_get (xs ++ ys) i ≡ Some x
front [] ys i x e = absurd cc
front (y ∷ xs) ys zero x e = e
front (y ∷ xs) ys (suc i) x e = front xs ys i x e

abbrev behind : DeskTables → List Item
behind desk = file_items desk.files ++ (bind_items (binds_of desk.tables) ++ stamp_items desk.stamp)

one_item : (x y : Item) → Some x ≡ Some y → x ≡ y
one_item x y e = cc

module _ (desk : DeskTables) (items : List Item) (kept : items_of desk ≡ in_second_version items) where
  parts : thing_items desk.tables.things ++ behind desk ≡ map in_second items
  unfolding items_of in_second_version
  parts = kept

  count_things : length (thing_items desk.tables.things) ≡ length desk.tables.things
  unfolding thing_items
  count_things = length-map desk.tables.things thing_item

  pub few_things : length desk.tables.things ≤ length items
  few_things =
      let all : length (thing_items desk.tables.things) + length (behind desk) ≡ length items = sym (length-append (thing_items desk.tables.things) (behind desk)) ∙ ap length parts ∙ length-map items in_second in
      omega (arith, all, count_things)

  pub anew_is : (i : ℕ) (anew item : Item) → slice_get (thing_items desk.tables.things) i ≡ Some anew → slice_get items i ≡ Some item → anew ≡ in_second item
  anew_is i anew item of_thing there =
      one_item anew (in_second item)
      (sym (front (thing_items desk.tables.things) (behind desk) i anew of_thing) ∙ ap (λ (xs : List Item). slice_get xs i) parts ∙ slice_get-map in_second items i ∙ ap (λ (o : Option Item). option_map in_second o) there)

  -- ---- The items of other kinds stay

  stamp_behind : (stamp : Option ℕ) → AllByRecursion IsLater (stamp_items stamp)
  unfolding stamp_items stamp_item
  stamp_behind None = tt
  stamp_behind (Some moment) = (lit< tt, tt)

  file_behind : AllByRecursion IsLater (file_items desk.files)
  unfolding file_items file_item
  file_behind = each_item file_item IsLater (λ row. lit< tt) desk.files

  all_behind : AllByRecursion IsLater (behind desk)
  all_behind =
      all-append IsLater (file_items desk.files) (bind_items (binds_of desk.tables) ++ stamp_items desk.stamp) file_behind
      (all-append IsLater (bind_items (binds_of desk.tables)) (stamp_items desk.stamp) (all_bind_items IsLater (λ item low high. omega (arith, low)) (binds_of desk.tables)) (stamp_behind desk.stamp))

  left_behind : map in_second (drop (length desk.tables.things) items) ≡ behind desk
  left_behind =
      sym (drop-map in_second (length desk.tables.things) items) ∙ ap (drop (length desk.tables.things)) (sym parts)
      ∙ ap (λ n. drop n (thing_items desk.tables.things ++ behind desk)) (sym count_things)
      ∙ drop-append_seam (thing_items desk.tables.things) (behind desk)

  pub all_anew : AllByRecursion HasOctets items → (i : ℕ) → length desk.tables.things ≡ i → (now : List Item) → now ≡ in_second_version (take i items) ++ drop i items → now ≡ items_of desk
  unfolding in_second_version
  all_anew octets i is now e =
      let rest : List Item = drop (length desk.tables.things) items in
      let same : map in_second rest ≡ rest = same_back rest (all_left (length desk.tables.things) items octets) (subst (AllByRecursion IsLater) (sym left_behind) all_behind) in
      e ∙ ap (λ n. map in_second (take n items) ++ drop n items) (sym is)
      ∙ ap (λ (xs : List Item). map in_second (take (length desk.tables.things) items) ++ xs) (sym same)
      ∙ sym (map-append in_second (take (length desk.tables.things) items) rest)
      ∙ ap (map in_second) (take-append-drop (length desk.tables.things) items)
      ∙ sym kept

-- ---- One after the other

pub first_anew : (items now : List Item) → now ≡ items → now ≡ in_second_version (take 0 items) ++ drop 0 items
unfolding in_second_version
first_anew items now e = e

pub one_anew : (items : List Item) (i : ℕ) (item : Item) (now after : List Item) → i < length items → item ≡ get_or items i item → now ≡ in_second_version (take i items) ++ drop i items → IsOrdered now → PutsAnew item now after → after ≡ in_second_version (take (i + 1) items) ++ drop (i + 1) items
unfolding in_second_version
one_anew items i item now after within is e up puts =
    let xs : List Item = map in_second (take i items) in
    let ys : List Item = drop (i + 1) items in
    let split : drop i items ≡ item ∷ ys = drop-cons items i item within ∙ rw (add-one, sym is) refl in
    puts.there xs ys up (e ∙ ap (λ (t : List Item). xs ++ t) split)
    ∙ sym (append_assoc xs (in_second item ∷ []) ys)
    ∙ ap (λ (t : List Item). t ++ ys) (sym (map-append in_second (take i items) (item ∷ [])))
    ∙ ap (λ (t : List Item). map in_second t ++ ys) (ap (λ (x : Item). take i items ++ x ∷ []) is ∙ sym (take_more items i item within))

-- ---- Some of them

pub partly_anew : (items now : List Item) (desk : DeskTables) → AllByRecursion HasOctets items → tables_in items ≡ Ok desk → (i : ℕ) → now ≡ in_second_version (take i items) ++ drop i items → IsPartlyAnew items now
partly_anew items now desk octets read i e = record {
  anew = record { count = i; items = e };
  desk = desk;
  keeps = keeps_read items desk octets read;
  still = keeps_anew items now desk i e (keeps_read items desk octets read);
}

-- what a crash leaves, where one more item wasn't put anew
module _ {K : Type 0} (members : Ghosts K) (first keeper after : K) (items : List Item) (i : ℕ) (item : Item) (desk : DeskTables) (octets : AllByRecursion HasOctets items) (read : tables_in items ≡ Ok desk)
    (within : i < length items) (is : item ≡ get_or items i item) where
  pub partly_left : (Tells members keeper → Tells members first) → (Tells members keeper → kept_items members keeper ≡ in_second_version (take i items) ++ drop i items)
      → (Tells members keeper → IsOrdered (kept_items members keeper)) → Rests members keeper
      → ((found : List Item) → members.left after found → members.left keeper found ⊎ (Tells members keeper × PutsAnew item (kept_items members keeper) found))
      → (found : List Item) → members.left after found → Tells members first × IsPartlyAnew items found
  partly_left told now ordered rests crash found left = elim (crash found left) [
    | inl was ↦ (told (rests found was).0, partly_anew items found desk octets read i ((rests found was).1 ∙ now (rests found was).0))
    | inr put ↦ (told put.0, partly_anew items found desk octets read (i + 1) (one_anew items i item (kept_items members keeper) found within is (now put.0) (ordered put.0) put.1))
  ]

-- ---- Octets

pub octets_more : (items : List Item) (i : ℕ) (item : Item) → i < length items → item ≡ get_or items i item → AllByRecursion HasOctets (take i items) → HasOctets item → AllByRecursion HasOctets (take (i + 1) items)
octets_more items i item within is before here =
    subst (AllByRecursion HasOctets) (sym (take_more items i item within ∙ ap (λ (x : Item). take i items ++ x ∷ []) (sym is))) (all-append HasOctets (take i items) (item ∷ []) before (here, tt))

pub octets_all : (items : List Item) (i : ℕ) → length items ≤ i → AllByRecursion HasOctets (take i items) → AllByRecursion HasOctets items
octets_all items i past = subst (AllByRecursion HasOctets) (take_all i items past)

pub octets_at : (items : List Item) (i : ℕ) (item : Item) → i < length items → item ≡ get_or items i item → AllByRecursion HasOctets items → HasOctets item
octets_at items i item within is octets =
    (subst (AllByRecursion HasOctets) (drop-cons items i item within ∙ ap (λ (x : Item). x ∷ drop (suc i) items) (sym is)) (all_left i items octets)).0

-- ---- What was taken of the items

module _ (loaded : Loaded) (list : List Item) (octets : AllByRecursion HasOctets list) (read : tables_in list ≡ Ok (loaded_desk loaded)) where
  kept_anew : items_of (loaded_desk loaded) ≡ in_second_version list
  kept_anew = (desk_alone list (loaded_desk loaded) octets read).1

  things_taken : loaded.things.things ≡ (loaded_desk loaded).tables.things
  unfolding desk_of
  things_taken = refl

  pub things_fit : (things : List Thing) → things ≡ loaded.things.things → (i : ℕ) → i < length things → i < length list
  things_fit things is i within =
      let few = few_things (loaded_desk loaded) list kept_anew in
      let same = ap (λ (ts : List Thing). length ts) (is ∙ things_taken) in
      omega (arith, few, same, within)

  pub thing_anew : (i : ℕ) (anew item : Item) → slice_get (thing_items loaded.things.things) i ≡ Some anew → i < length list → item ≡ get_or list i item → anew ≡ in_second item
  thing_anew i anew item of_thing within is =
      anew_is (loaded_desk loaded) list kept_anew i anew item (ap (λ (ts : List Thing). slice_get (thing_items ts) i) (sym things_taken) ∙ of_thing)
      (slice_get-get_or list i item within ∙ ap (λ (x : Item). Some x) (sym is))

  pub all_put : (things : List Thing) → things ≡ loaded.things.things → (i : ℕ) → length things ≤ i → i ≤ length things → (now : List Item) → now ≡ in_second_version (take i list) ++ drop i list → now ≡ items_of (loaded_desk loaded)
  all_put things is i past within now e =
      let same = ap (λ (ts : List Thing). length ts) (is ∙ things_taken) in
      all_anew (loaded_desk loaded) list kept_anew octets i (omega (arith, same, past, within)) now e
