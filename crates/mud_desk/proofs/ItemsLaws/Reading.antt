-- Items are taken one after the other, and the first that can't be is named.
use Rattle.std.proofs.Common.{◌≡◌, ℕ, ◌+◌, ◌≤◌, ◌<◌, Bool, true, false, List, length, drop, get_or, Option, Some, None, Ok, Err, refl, sym, ap, ◌∙◌, add-one}
use Rattle.std.proofs.Math.Seq.{drop-cons}
use Rattle.std.proofs.lemmas.List.{drop_all}
use Rattle.std.proofs.lemmas.Option.{slice_get-get_or, get_or_from_slice_get}
use Rattle.std.specs.List.{AllByRecursion}
use Rattle.mud_world.specs.declared.item.Item.{Item}
use Rattle.desk_model.specs.Items.{KeptDesk, none_kept, desk_of, tables_in}
use Rattle.desk_model.proofs.Keeping as keeping
use Rattle.desk_model.proofs.Taking.{kept_behind}
use Rattle.bind_book.specs.Reading.{IsTaken}
use Rattle.mud_desk.specs.Items.Loaded.{IsBadAt}
use Rattle.mud_desk.specs.Items.Opening.{HasOctets, IsBadItem}
use Rattle.desk_model.proofs.Parts.{kept_in, desk_in, with_desk_item}

-- the items, of which so many were taken, are those that are left behind what was taken
first_left : (items : List Item) (i : ℕ) (item : Item) (kept : KeptDesk) → i < length items → item ≡ get_or items i item → kept_in kept (drop i items) ≡ kept_behind item (drop (i + 1) items) (with_desk_item kept item)
first_left items i item kept within is = rw (drop-cons items i item within, sym is, add-one) refl

is_some : (o : Option KeptDesk) (old new : KeptDesk) (loaded : Bool) → loaded ≡ true → IsTaken o old new loaded → o ≡ Some new
is_some None old new loaded e t = absurd cc
is_some (Some lists) old new loaded e t = ap (λ k. Some k) (sym t.1)

is_none : (o : Option KeptDesk) (old new : KeptDesk) (loaded : Bool) → loaded ≡ false → IsTaken o old new loaded → o ≡ None
is_none None old new loaded e t = refl
is_none (Some lists) old new loaded e t = absurd cc

module _ (items : List Item) (i : ℕ) (item : Item) (kept new : KeptDesk) (loaded : Bool) (within : i < length items) (is : item ≡ get_or items i item) (so_far : kept_in none_kept items ≡ kept_in kept (drop i items)) (t : IsTaken (with_desk_item kept item) kept new loaded) where
  pub one_more : loaded ≡ true → kept_in none_kept items ≡ kept_in new (drop (i + 1) items)
  one_more was = so_far ∙ first_left items i item kept within is ∙ ap (kept_behind item (drop (i + 1) items)) (is_some (with_desk_item kept item) kept new loaded was t)

  bad_here : loaded ≡ false → kept_in none_kept items ≡ Err item
  bad_here was = so_far ∙ first_left items i item kept within is ∙ ap (kept_behind item (drop (i + 1) items)) (is_none (with_desk_item kept item) kept new loaded was t)

  pub first_bad : loaded ≡ false → IsBadAt items i
  unfolding tables_in
  first_bad was = record {
    item = item;
    there = slice_get-get_or items i item within ∙ ap (λ (x : Item). Some x) (sym is);
    bad = ap desk_in (bad_here was);
  }

pub all_read : (items : List Item) (i : ℕ) (kept : KeptDesk) → length items ≤ i → kept_in none_kept items ≡ kept_in kept (drop i items) → tables_in items ≡ Ok (desk_of kept)
unfolding tables_in
all_read items i kept past so_far = ap desk_in (so_far ∙ ap (kept_in kept) (drop_all i items past))

-- the item of the index is the one that is no record
pub bad_item : (items : List Item) (index : ℕ) (item : Item) (key : List ℕ) → AllByRecursion HasOctets items → IsBadAt items index → item ≡ get_or items index item → key ≡ item.key → IsBadItem items item.kind key
bad_item items index item key octets bad is of_key =
    let same : bad.item ≡ item = sym (get_or_from_slice_get items index bad.item item bad.there) ∙ sym is in
    record { item = bad.item; bad = keeping.first_bad items bad.item octets bad.bad; kind_is = ap (λ (i : Item). i.kind) same; key_is = ap (λ (i : Item). i.key) same ∙ sym of_key }
