-- The item that is answered is the first that is no record.
use Rattle.std.proofs.Common.{◌≡◌, List, [], ◌∷◌, ◌++◌, Option, Some, None, Result, Ok, Err, refl, ap, ◌∙◌}
use Rattle.mud_world.specs.declared.item.Item.{Item}
use Rattle.desk_model.specs.Items.{KeptDesk, none_kept, desk_of, tables_in, IsFirstUnread}
use Rattle.desk_model.proofs.Taking.{kept_behind}
use Rattle.desk_model.proofs.Parts.{kept_in, desk_in, with_desk_item}

abbrev refused : Item → Result KeptDesk Item
refused item = Err item

-- the same, from what was taken before
record IsFirstBehind (kept : KeptDesk) (items : List Item) (item : Item) : Type 0 where
  pub before : List Item
  pub behind : List Item
  pub splits : items ≡ before ++ item ∷ behind
  pub taken : KeptDesk
  pub good : kept_in kept before ≡ Ok taken
  pub bad : kept_in kept (before ++ item ∷ []) ≡ refused item

module _ (kept : KeptDesk) (x : Item) (xs : List Item) (item : Item) where
  here : with_desk_item kept x ≡ None → x ≡ item → IsFirstBehind kept (x ∷ xs) item
  here none is = record {
    before = [];
    behind = xs;
    splits = ap (λ (i : Item). i ∷ xs) is;
    taken = kept;
    good = refl;
    bad = ap (λ (i : Item). kept_behind i [] (with_desk_item kept i)) (sym_of is) ∙ ap (kept_behind x []) none ∙ ap refused is;
  }
    where
      sym_of : x ≡ item → item ≡ x
      sym_of e = cc

  further : (next : KeptDesk) → with_desk_item kept x ≡ Some next → IsFirstBehind next xs item → IsFirstBehind kept (x ∷ xs) item
  further next some rest = record {
    before = x ∷ rest.before;
    behind = rest.behind;
    splits = ap (λ (t : List Item). x ∷ t) rest.splits;
    taken = rest.taken;
    good = ap (kept_behind x rest.before) some ∙ rest.good;
    bad = ap (kept_behind x (rest.before ++ item ∷ [])) some ∙ rest.bad;
  }

  by_case : ((next : KeptDesk) → kept_in next xs ≡ refused item → IsFirstBehind next xs item) → (o : Option KeptDesk) → with_desk_item kept x ≡ o → kept_behind x xs o ≡ refused item → IsFirstBehind kept (x ∷ xs) item
  by_case again (Some next) some e = further next some (again next e)
  by_case again None none e = here none cc

first_behind : (kept : KeptDesk) (items : List Item) (item : Item) → kept_in kept items ≡ refused item → IsFirstBehind kept items item
first_behind kept [] item e = absurd cc
first_behind kept (x ∷ xs) item e = by_case kept x xs item (λ next f. first_behind next xs item f) (with_desk_item kept x) refl e

refused_from : (read : Result KeptDesk Item) (item : Item) → desk_in read ≡ Err item → read ≡ refused item
refused_from (Ok kept) item e = absurd cc
refused_from (Err other) item e = cc

pub first_unread : (items : List Item) (item : Item) → tables_in items ≡ Err item → IsFirstUnread items item
unfolding tables_in
first_unread items item e =
    let f = first_behind none_kept items item (refused_from (kept_in none_kept items) item e) in
    record {
      before = f.before;
      behind = f.behind;
      splits = f.splits;
      desk = desk_of f.taken;
      good = ap desk_in f.good;
      bad = ap desk_in f.bad;
    }
