-- Items that are taken one after the other.
use Rattle.std.proofs.Common.{◌≡◌, ℕ, ◌<◌, Bool, true, false, ◌==◌, List, [], ◌∷◌, ◌++◌, Option, Some, None, Result, Ok, Err, refl, ap, ◌∙◌, arith}
use Rattle.std.specs.Prelude.{option_map, nat_lt}
use Rattle.std.specs.List.{AllByRecursion}
use Rattle.std.proofs.lemmas.Bool.{eqb-true, lt-ltb}
use Rattle.mud_world.specs.declared.item.Item.{Item}
use Rattle.item_codec.specs.Records.{◌>>=◌}
use Rattle.item_codec.proofs.RecordLaws.{some_is, bind_some}
use Rattle.table_model.specs.declared.thing.Thing.{Thing}
use Rattle.table_model.specs.Binds.{Binds}
use Rattle.table_model.specs.ThingItems.{with_thing_item}
use Rattle.table_model.specs.BindItems.{with_stamp_item}
use Rattle.table_model.specs.TakenItems.{all_taken, no_binds, have_none, with_bind_item, with_item}
use Rattle.usage_tables.specs.declared.cached_file.CachedFile.{CachedFile}
use Rattle.usage_tables.specs.FileItems.{with_file_item}
use Rattle.desk_model.specs.Items.{KeptDesk}
use Rattle.desk_model.proofs.Parts.{kept_in, with_desk_item}
pub use Rattle.table_model.proofs.TakenLaws.{all_taken-append}

-- ---- All items are taken where none of them is the first that can't be

pub kept_by_taken : (kept : KeptDesk) (items : List Item) (after : KeptDesk) → all_taken with_desk_item kept items ≡ Some after → kept_in kept items ≡ Ok after
kept_by_taken kept [] after e = ap (λ (k : KeptDesk). Ok k) (some_is kept after e)
kept_by_taken kept (item ∷ items) after e =
    let b = bind_some (with_desk_item kept item) (λ next. all_taken with_desk_item next items) after e in
    rw (b.1, kept_in) (kept_by_taken b.0 items after b.2)

abbrev well : KeptDesk → Result KeptDesk Item
well kept = Ok kept

ok_is : (x y : KeptDesk) → well x ≡ well y → x ≡ y
ok_is x y e = cc

abbrev pub kept_behind : Item → List Item → Option KeptDesk → Result KeptDesk Item
kept_behind item items o = elim o [ Some next ↦ kept_in next items | None ↦ Err item ]

after_one : (item : Item) (items : List Item) (after : KeptDesk) → ((next : KeptDesk) → kept_in next items ≡ well after → all_taken with_desk_item next items ≡ Some after) → (o : Option KeptDesk) → kept_behind item items o ≡ well after → (o >>= λ next. all_taken with_desk_item next items) ≡ Some after
after_one item items after again (Some next) e = again next e
after_one item items after again None e = absurd cc

pub taken_by_kept : (kept : KeptDesk) (items : List Item) (after : KeptDesk) → kept_in kept items ≡ Ok after → all_taken with_desk_item kept items ≡ Some after
taken_by_kept kept [] after e = ap (λ (k : KeptDesk). Some k) (ok_is kept after e)
taken_by_kept kept (item ∷ items) after e = after_one item items after (λ next f. taken_by_kept next items after f) (with_desk_item kept item) e

-- items behind others are taken into what these leave
pub kept_in-append : (kept : KeptDesk) (xs ys : List Item) (taken : KeptDesk) → kept_in kept xs ≡ Ok taken → kept_in kept (xs ++ ys) ≡ kept_in taken ys
kept_in-append kept [] ys taken e = ap (λ (k : KeptDesk). kept_in k ys) (ok_is kept taken e)
kept_in-append kept (x ∷ xs) ys taken e = past (λ next f. kept_in-append next xs ys taken f) (with_desk_item kept x) e
  where
    past : ((next : KeptDesk) → kept_in next xs ≡ well taken → kept_in next (xs ++ ys) ≡ kept_in taken ys) → (o : Option KeptDesk) → kept_behind x xs o ≡ well taken → kept_behind x (xs ++ ys) o ≡ kept_in taken ys
    past again (Some next) e = again next e
    past again None e = absurd cc

-- what is taken of items into one part is taken of them into the whole
pub taken_within : {A : Type 0} (put : A → KeptDesk) (take : A → Item → Option A) (items : List Item) → AllByRecursion (λ item. (a : A) → with_desk_item (put a) item ≡ option_map put (take a item)) items → (a b : A) → all_taken take a items ≡ Some b → all_taken with_desk_item (put a) items ≡ Some (put b)
taken_within put take [] each a b e = ap (λ (x : _). Some (put x)) (some_is a b e)
taken_within put take (item ∷ items) each a b e =
    let f = bind_some (take a item) (λ next. all_taken take next items) b e in
    ap (λ (o : Option KeptDesk). o >>= λ next. all_taken with_desk_item next items) (each.0 a ∙ ap (option_map put) f.1)
    ∙ taken_within put take items each.1 f.0 b f.2

-- ---- An item of each kind

pub unequal : (a b : ℕ) → (a ≡ b → ⊥) → (t : Bool) → (a == b) ≡ t → (a == b) ≡ false
unequal a b other true e = absurd (other (eqb-true a b e))
unequal a b other false e = e

module _ (item : Item) where
  pub take_thing : item.kind ≡ 1 → (things : List Thing) → with_desk_item (record { things = things; files = []; binds = no_binds; stamp = None }) item ≡ option_map (λ (x : List Thing). record { things = x; files = []; binds = no_binds; stamp = None }) (with_thing_item things item)
  unfolding with_item have_none no_binds
  take_thing e things = rw e refl

  pub take_file : item.kind ≡ 2 → (things : List Thing) (files : List CachedFile) → with_desk_item (record { things = things; files = files; binds = no_binds; stamp = None }) item ≡ option_map (λ (x : List CachedFile). record { things = things; files = x; binds = no_binds; stamp = None }) (with_file_item files item)
  unfolding with_item have_none no_binds
  take_file e things files = rw e refl

  pub take_bind : 2 < item.kind → item.kind < 6 → (things : List Thing) (files : List CachedFile) (binds : Binds) → with_desk_item (record { things = things; files = files; binds = binds; stamp = None }) item ≡ option_map (λ (x : Binds). record { things = things; files = files; binds = x; stamp = None }) (with_bind_item binds item)
  unfolding with_item
  take_bind low high things files binds =
      let not_thing : (item.kind == 1) ≡ false = unequal item.kind 1 (λ e. omega (arith, low)) (item.kind == 1) refl in
      let not_file : (item.kind == 2) ≡ false = unequal item.kind 2 (λ e. omega (arith, low)) (item.kind == 2) refl in
      let above : nat_lt 2 item.kind ≡ true = lt-ltb 2 item.kind low in
      let below : nat_lt item.kind 6 ≡ true = lt-ltb item.kind 6 high in
      rw (not_thing, not_file, above, below) refl

  pub take_stamp : item.kind ≡ 6 → (things : List Thing) (files : List CachedFile) (binds : Binds) (stamp : Option ℕ) → with_desk_item (record { things = things; files = files; binds = binds; stamp = stamp }) item ≡ option_map (λ (x : ℕ). record { things = things; files = files; binds = binds; stamp = Some x }) (with_stamp_item stamp item)
  unfolding with_item
  take_stamp e things files binds stamp = rw e refl
