-- Rows that pass a test, and groups of the rows of an owner and side.
use Rattle.std.proofs.Common.{◌≡◌, ℕ, ◌+◌, Bool, true, false, cond, List, [], ◌∷◌, ◌++◌, Some, refl, sym, ap, subst, ◌∙◌}
use Rattle.std.specs.Prelude.{filter}
use Rattle.std.specs.List.{AllByRecursion}
use Rattle.std.specs.Map.{values_of}
use Rattle.std.specs.declared.cmp.Ordering.TheVariants.{Less}
use Rattle.base_rows.specs.Sortable.{row_at, is_under, RowsAndRoom, SortKeysAbove, SortKeysAscend}
use Rattle.base_rows.proofs.SortableLaws.{same_sort_key_itself, same_sort_key-cmp}
use Rattle.mud_base.specs.declared.addr.Addr.{Addr}
use Rattle.mud_base.specs.declared.packet.Direction.{Direction}
use Rattle.base_rows.specs.declared.edit.Edit.{Edit}
use Rattle.acl_rows.specs.declared.row.Owner.{Owner}
use Rattle.acl_rows.specs.declared.row.Row.{Row}
use Rattle.acl_rows.specs.SortKeys.{side_sort_key, row_sort_key}
use Rattle.acl_rows.specs.View.{rows_of_side}
use Rattle.acl_rows.specs.ByAddress.{rows_of_peer, grouped, AreGroups}
use Rattle.acl_buckets.proofs.Numbers.{AreOne}
use Rattle.acl_buckets.proofs.Beside.{side_is, peer_beside}
use Rattle.acl_changes.specs.Fresh.{AreOfPeer, left_edits}

-- ---- Rows that pass a test

module _ {R : Type 0} (t : R → Bool) where
  kept_by : (P Q : R → Type 0) → ((x : R) → t x ≡ true → P x → Q x) → (x : R) (xs : List R) → P x → AllByRecursion Q (filter t xs) → (b : Bool) → t x ≡ b → AllByRecursion Q (cond b (x ∷ filter t xs) (filter t xs))
  kept_by P Q each x xs here rest true is = (each x is here, rest)
  kept_by P Q each x xs here rest false is = rest

  -- what follows of each row that passes holds of all that pass
  pub all_kept : (P Q : R → Type 0) → ((x : R) → t x ≡ true → P x → Q x) → (xs : List R) → AllByRecursion P xs → AllByRecursion Q (filter t xs)
  all_kept P Q each [] all = tt
  all_kept P Q each (x ∷ xs) all = kept_by P Q each x xs all.0 (all_kept P Q each xs all.1) (t x) refl

  passes_by : (x : R) (xs : List R) → AllByRecursion (λ y. t y ≡ true) (filter t xs) → (b : Bool) → t x ≡ b → AllByRecursion (λ y. t y ≡ true) (cond b (x ∷ filter t xs) (filter t xs))
  passes_by x xs rest true is = (is, rest)
  passes_by x xs rest false is = rest

  all_pass : (xs : List R) → AllByRecursion (λ x. t x ≡ true) (filter t xs)
  all_pass [] = tt
  all_pass (x ∷ xs) = passes_by x xs (all_pass xs) (t x) refl

-- ---- The row of a sort key

module _ {R : Type 0} (sort_key : R → List ℕ) where
  behind : (y : R) (ys zs : List R) → SortKeysAbove sort_key (sort_key y) zs → AllByRecursion (λ x. row_at sort_key (sort_key x) ys ≡ Some x) zs → AllByRecursion (λ x. row_at sort_key (sort_key x) (y ∷ ys) ≡ Some x) zs
  behind y ys [] above there = tt
  behind y ys (z ∷ zs) above there = (
    ap (λ (b : Bool). cond b (Some y) (row_at sort_key (sort_key z) ys)) (same_sort_key-cmp (sort_key y) (sort_key z) Less above.0) ∙ there.0,
    behind y ys zs above.1 there.1,
  )

  -- each row is the one of its sort key
  pub each_there : (rows : List R) → SortKeysAscend sort_key rows → AllByRecursion (λ x. row_at sort_key (sort_key x) rows ≡ Some x) rows
  each_there [] up = tt
  each_there (y ∷ ys) up = (
    ap (λ (b : Bool). cond b (Some y) (row_at sort_key (sort_key y) ys)) (same_sort_key_itself (sort_key y)),
    behind y ys ys up.0 (each_there ys up.1),
  )

-- ---- Groups of the rows of an owner and side

-- the rows of groups, one after the other
abbrev pub rows_in : List (RowsAndRoom Row) → List Row
rows_in [] = []
rows_in (g ∷ gs) = g.rows ++ rows_in gs

pub grouped_values : (gs : List (Addr × RowsAndRoom Row)) → grouped gs ≡ rows_in (values_of gs)
unfolding grouped
grouped_values [] = refl
grouped_values (g ∷ gs) = ap (λ (rs : List Row). g.1.rows ++ rs) (grouped_values gs)

split_all : {R : Type 0} (P : R → Type 0) (xs ys : List R) → AllByRecursion P (xs ++ ys) → AllByRecursion P xs × AllByRecursion P ys
split_all P [] ys all = (tt, all)
split_all P (x ∷ xs) ys all = (let rest = split_all P xs ys all.1 in ((all.0, rest.0), rest.1))

module _ (owner : Owner) (side : Direction) (all bucket : List Row) (are : bucket ≡ rows_of_side owner side all) where
  abbrev IsOwn : Row → Type 0
  IsOwn r = is_under row_sort_key (side_sort_key owner side) r ≡ true

  peer_of_bucket : (r : Row) → IsOwn r → rows_of_peer r.owner r.side r.addr bucket ≡ rows_of_peer r.owner r.side r.addr all
  peer_of_bucket r own =
      let one : AreOne r.owner owner r.side side = side_is owner side r own in
      ap (rows_of_peer r.owner r.side r.addr) (are ∙ (λ i. rows_of_side (sym one.owner i) (sym one.side i) all)) ∙ peer_beside r.owner r.side r.addr all

  group_peer : (group rs : List Row) → AllByRecursion (λ r. group ≡ rows_of_peer r.owner r.side r.addr bucket) rs → AllByRecursion IsOwn rs → AllByRecursion (λ r. group ≡ rows_of_peer r.owner r.side r.addr all) rs
  group_peer group [] each own = tt
  group_peer group (r ∷ rs) each own = (each.0 ∙ peer_of_bucket r own.0, group_peer group rs each.1 own.1)

  peers_by : (gs : List (Addr × RowsAndRoom Row)) → AllByRecursion (λ g. AllByRecursion (λ r. g.1.rows ≡ rows_of_peer r.owner r.side r.addr bucket) g.1.rows) gs → AllByRecursion IsOwn (grouped gs) → AllByRecursion (λ (g : RowsAndRoom Row). AreOfPeer g.rows all) (values_of gs)
  unfolding grouped
  peers_by [] each own = tt
  peers_by (g ∷ gs) each own = (let both = split_all IsOwn g.1.rows (grouped gs) own in (group_peer g.1.rows g.1.rows each.0 both.0, peers_by gs each.1 both.1))

  own_all : AllByRecursion IsOwn bucket
  unfolding rows_of_side
  own_all = subst (AllByRecursion IsOwn) (sym are) (all_pass (is_under row_sort_key (side_sort_key owner side)) all)

  -- each group has all rows of its owner, side and address
  pub groups_peers : (gs : List (Addr × RowsAndRoom Row)) → AreGroups gs bucket → AllByRecursion (λ (g : RowsAndRoom Row). AreOfPeer g.rows all) (values_of gs)
  groups_peers gs groups = peers_by gs groups.each (subst (AllByRecursion IsOwn) (sym groups.all) own_all)

  -- and the groups together have those of the owner and side
  pub groups_all : (gs : List (Addr × RowsAndRoom Row)) → AreGroups gs bucket → rows_in (values_of gs) ≡ rows_of_side owner side all
  groups_all gs groups = sym (grouped_values gs) ∙ groups.all ∙ are

-- the edits of some rows after those of others
pub left_edits-append : (all new xs ys : List Row) (edits : List (Edit Row)) → left_edits all new (xs ++ ys) edits ≡ left_edits all new ys (left_edits all new xs edits)
unfolding left_edits
left_edits-append all new [] ys edits = refl
left_edits-append all new (x ∷ xs) ys edits = left_edits-append all new xs ys _

-- one more group
pub one_group : (all new : List Row) (group : RowsAndRoom Row) (gs : List (RowsAndRoom Row)) (own : List Row) (edits after : List (Edit Row)) → own ≡ group.rows → AllByRecursion (λ (g : RowsAndRoom Row). AreOfPeer g.rows all) (group ∷ gs)
    → (AreOfPeer own all → after ≡ left_edits all new own edits) → left_edits all new (rows_in (group ∷ gs)) edits ≡ left_edits all new (rows_in gs) after
one_group all new group gs own edits after is peers made =
    left_edits-append all new group.rows (rows_in gs) edits
    ∙ ap (left_edits all new (rows_in gs)) (ap (λ (rs : List Row). left_edits all new rs edits) (sym is) ∙ sym (made (subst (λ (rs : List Row). AreOfPeer rs all) (sym is) peers.0)))
