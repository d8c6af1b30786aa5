-- The desk that items keep is the one that is read of them.
use Rattle.std.proofs.Common.{◌≡◌, ℕ, ◌==◌, ◌⊎◌, zero, suc, false, List, [], ◌∷◌, ◌++◌, map, take, drop, Option, Some, None, Result, Ok, Err, refl, sym, ap, subst, ◌∙◌, inl, inr, arith}
use Rattle.std.specs.List.{AllByRecursion}
use Rattle.base_rows.proofs.Lists.{all-append}
use Rattle.mud_world.specs.declared.item.Item.{Item}
use Rattle.mud_base.specs.Numbers.{IsOctets}
use Rattle.item_codec.specs.Records.{◌>>=◌}
use Rattle.table_model.specs.declared.thing.Thing.{Thing}
use Rattle.table_model.specs.Things.{IsKeptThing}
use Rattle.table_model.specs.Tables.{binds_of}
use Rattle.table_model.specs.BindItems.{stamp_item, stamp_items}
use Rattle.table_model.specs.ThingItems.{thing_item, thing_items, first_thing_item, thing_in, item_anew, in_second, with_thing_item}
use Rattle.table_model.specs.TakenItems.{all_taken, with_item, bind_items}
use Rattle.table_model.proofs.ItemLaws.{thing_back, first_thing_back, thing_alone}
use Rattle.usage_tables.specs.FileItems.{file_item, file_items}
use Rattle.desk_model.specs.DeskTables.{DeskTables, IsSound, empty_desk}
use Rattle.desk_model.specs.Items.{KeptDesk, none_kept, desk_of, items_of, tables_in, in_second_version}
use Rattle.desk_model.specs.Keeping.{IsFirstVersion, AreVersionsOf, KeepsDesk, IsFirstBad}
use Rattle.desk_model.proofs.FirstBad.{first_unread}
use Rattle.desk_model.proofs.Parts.{desk_in, kept_in, with_desk_item}
use Rattle.desk_model.proofs.ReadBack.{kept_of, each_item, all_bind_items, desk_taken}
use Rattle.desk_model.proofs.ReadSound.{desk_alone, empty_sound, second_of_other}
use Rattle.desk_model.proofs.Taking.{kept_behind, kept_by_taken, kept_in-append, unequal}

-- ---- What is read is kept

version_of : (item : Item) (o : Option Thing) → IsOctets item.body → thing_in item ≡ o → (item ≡ item_anew item o) ⊎ IsFirstVersion item (item_anew item o)
unfolding item_anew
version_of item None octets e = inl refl
version_of item (Some thing) octets e =
    let of_thing = thing_alone item thing octets e in
    elim of_thing.same [
      | inl same ↦ inl same
      | inr first ↦ inr (record { thing = thing; kept = of_thing.kept; unheld = first.1; first = first.0; second = refl })
    ]

versions_anew : (items : List Item) → AllByRecursion (λ item. IsOctets item.body) items → AreVersionsOf items (map in_second items)
unfolding in_second
versions_anew [] octets = tt
versions_anew (item ∷ items) octets = (version_of item (thing_in item) octets.0 refl, versions_anew items octets.1)

pub keeps_read : (items : List Item) (desk : DeskTables) → AllByRecursion (λ item. IsOctets item.body) items → tables_in items ≡ Ok desk → KeepsDesk items desk
unfolding in_second_version
keeps_read items desk octets read =
    let alone = desk_alone items desk octets read in
    record { sound = alone.0; own = subst (AreVersionsOf items) (sym alone.1) (versions_anew items octets) }

-- ---- What is kept is read

kinds : (thing : Thing) → ((first_thing_item thing).kind ≡ 1) × ((thing_item thing).kind ≡ 1)
unfolding first_thing_item thing_item
kinds thing = (refl, refl)

same_thing : (things : List Thing) (thing : Thing) → IsKeptThing thing → thing.held ≡ false → with_thing_item things (first_thing_item thing) ≡ with_thing_item things (thing_item thing)
unfolding with_thing_item
same_thing things thing kept unheld = rw (first_thing_back thing kept unheld, thing_back thing kept) refl

taken_first : (kept : KeptDesk) (thing : Thing) → IsKeptThing thing → thing.held ≡ false → with_desk_item kept (first_thing_item thing) ≡ with_desk_item kept (thing_item thing)
unfolding with_item with_thing_item thing_in first_thing_item thing_item
taken_first kept thing is_kept unheld = rw ((kinds thing).0, (kinds thing).1, same_thing kept.things thing is_kept unheld) refl

same_step : (kept : KeptDesk) (item own : Item) → (item ≡ own) ⊎ IsFirstVersion item own → with_desk_item kept item ≡ with_desk_item kept own
same_step kept item own (inl same) = ap (with_desk_item kept) same
same_step kept item own (inr first) = ap (with_desk_item kept) first.first ∙ taken_first kept first.thing first.kept first.unheld ∙ ap (with_desk_item kept) (sym first.second)

same_taken : (kept : KeptDesk) (items owns : List Item) → AreVersionsOf items owns → all_taken with_desk_item kept items ≡ all_taken with_desk_item kept owns
same_taken kept [] [] versions = refl
same_taken kept [] (own ∷ owns) versions = absurd versions
same_taken kept (item ∷ items) [] versions = absurd versions
same_taken kept (item ∷ items) (own ∷ owns) versions =
    ap (λ (o : Option KeptDesk). o >>= λ next. all_taken with_desk_item next items) (same_step kept item own versions.0)
    ∙ behind (with_desk_item kept own) (λ next. same_taken next items owns versions.1)
  where
    behind : (o : Option KeptDesk) → ((next : KeptDesk) → all_taken with_desk_item next items ≡ all_taken with_desk_item next owns) → (o >>= λ next. all_taken with_desk_item next items) ≡ (o >>= λ next. all_taken with_desk_item next owns)
    behind (Some next) again = again next
    behind None again = refl

pub read_kept : (items : List Item) (desk : DeskTables) → KeepsDesk items desk → tables_in items ≡ Ok desk
unfolding tables_in desk_of kept_of binds_of
read_kept items desk keeps = ap desk_in (kept_by_taken none_kept items (kept_of desk) (same_taken none_kept items (items_of desk) keeps.own ∙ desk_taken desk keeps.sound))

-- ---- A desk's own items

own_versions : (items : List Item) → AreVersionsOf items items
own_versions [] = tt
own_versions (item ∷ items) = (inl refl, own_versions items)

pub keeps_own : (desk : DeskTables) → IsSound desk → KeepsDesk (items_of desk) desk
keeps_own desk sound = record { sound = sound; own = own_versions (items_of desk) }

versions_none : (items : List Item) → AreVersionsOf items [] → items ≡ []
versions_none [] versions = refl
versions_none (item ∷ items) versions = absurd versions

pub keeps_none : (items : List Item) → KeepsDesk items empty_desk → items ≡ []
keeps_none items keeps = versions_none items (subst (AreVersionsOf items) empty_sound.1 keeps.own)

-- ---- With some of the Things put anew

abbrev IsStill : Item → Type 0
IsStill item = in_second item ≡ item

still_thing : (thing : Thing) → IsKeptThing thing → in_second (thing_item thing) ≡ thing_item thing
unfolding in_second item_anew
still_thing thing kept = rw (thing_back thing kept) refl

second_of_first : (thing : Thing) → IsKeptThing thing → thing.held ≡ false → in_second (first_thing_item thing) ≡ thing_item thing
unfolding in_second item_anew
second_of_first thing kept unheld = rw (first_thing_back thing kept unheld) refl

still_things : (things : List Thing) → AllByRecursion IsKeptThing things → AllByRecursion IsStill (map thing_item things)
still_things [] kept = tt
still_things (thing ∷ things) kept = (still_thing thing kept.0, still_things things kept.1)

still_stamp : (stamp : Option ℕ) → AllByRecursion IsStill (stamp_items stamp)
unfolding stamp_items stamp_item
still_stamp None = tt
still_stamp (Some moment) = (second_of_other (stamp_item moment) refl, tt)

still_own : (desk : DeskTables) → IsSound desk → AllByRecursion IsStill (items_of desk)
unfolding items_of thing_items file_items file_item
still_own desk sound =
    all-append IsStill (map thing_item desk.tables.things) (map file_item desk.files ++ (bind_items (binds_of desk.tables) ++ stamp_items desk.stamp))
    (still_things desk.tables.things sound.tables.things.each)
    (all-append IsStill (map file_item desk.files) (bind_items (binds_of desk.tables) ++ stamp_items desk.stamp)
    (each_item file_item IsStill (λ row. second_of_other (file_item row) refl) desk.files)
    (all-append IsStill (bind_items (binds_of desk.tables)) (stamp_items desk.stamp)
    (all_bind_items IsStill (λ item low high. second_of_other item (unequal item.kind 1 (λ e. omega (arith, low, e)) (item.kind == 1) refl)) (binds_of desk.tables))
    (still_stamp desk.stamp)))

anew_one : (item own : Item) → IsStill own → (item ≡ own) ⊎ IsFirstVersion item own → in_second item ≡ own
anew_one item own still (inl same) = ap in_second same ∙ still
anew_one item own still (inr first) = ap in_second first.first ∙ second_of_first first.thing first.kept first.unheld ∙ sym first.second

anew_first : (items owns : List Item) → AllByRecursion IsStill owns → AreVersionsOf items owns → (n : ℕ) → AreVersionsOf (map in_second (take n items) ++ drop n items) owns
anew_first items owns still versions zero = versions
anew_first [] [] still versions (suc n) = tt
anew_first [] (own ∷ owns) still versions (suc n) = absurd versions
anew_first (item ∷ items) [] still versions (suc n) = absurd versions
anew_first (item ∷ items) (own ∷ owns) still versions (suc n) = (inl (anew_one item own still.0 versions.0), anew_first items owns still.1 versions.1 n)

pub keeps_anew : (items now : List Item) (desk : DeskTables) (n : ℕ) → now ≡ in_second_version (take n items) ++ drop n items → KeepsDesk items desk → KeepsDesk now desk
unfolding in_second_version
keeps_anew items now desk n e keeps = record {
  sound = keeps.sound;
  own = subst (λ (t : List Item). AreVersionsOf t (items_of desk)) (sym e) (anew_first items (items_of desk) (still_own desk keeps.sound) keeps.own n);
}

-- ---- The first that is no record

all_before : {A : Type 0} (P : A → Type 0) (xs ys : List A) → AllByRecursion P (xs ++ ys) → AllByRecursion P xs
all_before P [] ys all = tt
all_before P (x ∷ xs) ys all = (all.0, all_before P xs ys all.1)

pub not_both : (desk : DeskTables) (item : Item) → Ok desk ≡ Err item → ⊥
not_both desk item e = cc

pub first_bad : (items : List Item) (item : Item) → AllByRecursion (λ item. IsOctets item.body) items → tables_in items ≡ Err item → IsFirstBad items item
first_bad items item octets read =
    let first = first_unread items item read in
    record {
      before = first.before;
      behind = first.behind;
      splits = first.splits;
      good = (first.desk, keeps_read first.before first.desk (all_before (λ item. IsOctets item.body) first.before (item ∷ first.behind) (subst (AllByRecursion (λ item. IsOctets item.body)) first.splits octets)) first.good);
      bad = λ desk keeps. not_both desk item (sym (read_kept (first.before ++ item ∷ []) desk keeps) ∙ first.bad);
    }

all_upto : {A : Type 0} (P : A → Type 0) (xs : List A) (y : A) (zs : List A) → AllByRecursion P (xs ++ y ∷ zs) → AllByRecursion P (xs ++ y ∷ [])
all_upto P [] y zs all = (all.0, tt)
all_upto P (x ∷ xs) y zs all = (all.0, all_upto P xs y zs all.1)

taken_of : (read : Result KeptDesk Item) (desk : DeskTables) → desk_in read ≡ Ok desk → (taken : KeptDesk) × (read ≡ Ok taken)
taken_of (Ok taken) desk e = (taken, refl)
taken_of (Err item) desk e = absurd cc

-- where the item is taken behind those before it, these keep a desk with it
pub first_bad_is_answered : (items : List Item) (item : Item) → AllByRecursion (λ item. IsOctets item.body) items → IsFirstBad items item → tables_in items ≡ Err item
unfolding tables_in
first_bad_is_answered items item octets first = at (with_desk_item taken item) refl
  where
    before : List Item
    before = first.before

    found : (taken : KeptDesk) × (kept_in none_kept before ≡ Ok taken)
    found = taken_of (kept_in none_kept before) first.good.0 (read_kept before first.good.0 first.good.1)

    taken : KeptDesk
    taken = found.0

    with_rest : (rest : List Item) → kept_in none_kept (before ++ item ∷ rest) ≡ kept_behind item rest (with_desk_item taken item)
    with_rest rest = kept_in-append none_kept before (item ∷ rest) taken found.1

    octets_upto : AllByRecursion (λ item. IsOctets item.body) (before ++ item ∷ [])
    octets_upto = all_upto (λ item. IsOctets item.body) before item first.behind (subst (AllByRecursion (λ item. IsOctets item.body)) first.splits octets)

    at : (o : Option KeptDesk) → with_desk_item taken item ≡ o → tables_in items ≡ Err item
    at None none = ap tables_in first.splits ∙ ap desk_in (with_rest first.behind ∙ ap (kept_behind item first.behind) none)
    at (Some next) some = absurd (first.bad (desk_of next) (keeps_read (before ++ item ∷ []) (desk_of next) octets_upto (ap desk_in (with_rest [] ∙ ap (kept_behind item []) some))))
