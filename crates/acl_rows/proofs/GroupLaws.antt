-- What the groups hold, one after the other.
use Rattle.std.proofs.Common.{◌≡◌, ℕ, suc, ◌≤◌, Bool, true, false, cond, List, [], ◌∷◌, ◌++◌, length, Option, Some, refl, sym, ap, subst, ◌∙◌, append-nil}
use Rattle.std.specs.Prelude.{filter}
use Rattle.std.specs.List.{AllByRecursion, slice_get}
use Rattle.std.specs.Map.{values_of}
use Rattle.std.specs.declared.cmp.Ordering.TheVariants.{Less}
use Rattle.std.proofs.lemmas.List.Elements.{filter-append}
use Rattle.mud_base.specs.declared.addr.Addr.{Addr}
use Rattle.mud_base.specs.declared.packet.Direction.{Direction}
use Rattle.base_rows.specs.Sortable.{sort_key_cmp, same_sort_key, row_at, set_row, SortKeysAbove, SortKeysAscend, ComeBefore, RowsAndRoom}
use Rattle.base_rows.specs.Addresses.{addr_sort_key}
use Rattle.base_rows.proofs.AddressLaws.{addr_sort_key_exact, same_addr-sort_key}
use Rattle.base_rows.proofs.SortableLaws.{same_sort_key-cmp, same_sort_key_exact, same_sort_key_itself, row_at-set_row, row_at_row, ascend-set_row}
use Rattle.base_rows.proofs.RowLaws.{all-set_row, ascend-filter}
use Rattle.base_rows.proofs.IndexLaws.{above-append, ascend-append}
use Rattle.base_rows.proofs.ChangeLaws.{differ_turned}
use Rattle.base_rows.proofs.Lists.{filter_few}
use Rattle.base_rows.proofs.EditRunLaws.{empty_out}
use Rattle.acl_rows.specs.declared.row.Owner.{Owner}
use Rattle.acl_rows.specs.declared.row.Row.{Row}
use Rattle.acl_rows.specs.SortKeys.{row_sort_key}
use Rattle.acl_rows.specs.View.{is_at}
use Rattle.acl_rows.specs.ByAddress.{room_at, rows_of_peer, IsRowAt, grouped, AreGroups}
use Rattle.acl_rows.specs.Groups.{Groups, group_sort_key, has_rows, part_of, part_at, room_in, IsGroup, AreGrouped, HaveSameRows}
use Rattle.acl_rows.proofs.GroupSortKeys.{row_less, IsOwn, peer_rows, is_at-sort_key}

-- a group of an address
abbrev pub Group : Type 0
Group = Addr × RowsAndRoom Row

-- there are no more rows of an address than rows
pub at_few : (a : Addr) (rows : List Row) → length (filter (is_at a) rows) ≤ length rows
at_few a rows = filter_few (is_at a) rows

module _ (owner : Owner) (side : Direction) where
  -- ---- The rows of an address are those in its group

  module _ (a : Addr) where
    abbrev at_of : List Row → List Row
    at_of rows = filter (is_at a) rows

    -- a row of the address of a group
    row_at_group : (g : Group) (r : Row) → IsRowAt owner side g.0 r → is_at a r ≡ same_sort_key (addr_sort_key a) (group_sort_key g)
    unfolding group_sort_key
    row_at_group g r is = is_at-sort_key a r ∙ ap (λ (b : Addr). same_sort_key (addr_sort_key a) (addr_sort_key b)) is.addr_is

    kept_by : (g : Group) (rows : List Row) → AllByRecursion (IsRowAt owner side g.0) rows → same_sort_key (addr_sort_key a) (group_sort_key g) ≡ true → at_of rows ≡ rows
    kept_by g [] own same = refl
    kept_by g (r ∷ rs) own same = ap (λ (b : Bool). cond b (r ∷ at_of rs) (at_of rs)) (row_at_group g r own.0 ∙ same) ∙ ap (λ (qs : List Row). r ∷ qs) (kept_by g rs own.1 same)

    left_out : (g : Group) (rows : List Row) → AllByRecursion (IsRowAt owner side g.0) rows → same_sort_key (addr_sort_key a) (group_sort_key g) ≡ false → at_of rows ≡ []
    left_out g [] own other = refl
    left_out g (r ∷ rs) own other = ap (λ (b : Bool). cond b (r ∷ at_of rs) (at_of rs)) (row_at_group g r own.0 ∙ other) ∙ left_out g rs own.1 other

    none_above : (gs : Groups) → SortKeysAbove group_sort_key (addr_sort_key a) gs → AllByRecursion (IsGroup owner side) gs → at_of (grouped gs) ≡ []
    unfolding grouped
    none_above [] above own = refl
    none_above (g ∷ gs) above own =
        filter-append (is_at a) g.1.rows (grouped gs)
        ∙ (λ i. left_out g g.1.rows own.0.own (same_sort_key-cmp (addr_sort_key a) (group_sort_key g) Less above.0) i ++ none_above gs above.1 own.1 i)

    at_by : (g : Group) (gs : Groups) → SortKeysAbove group_sort_key (group_sort_key g) gs → IsGroup owner side g → AllByRecursion (IsGroup owner side) gs → at_of (grouped gs) ≡ (part_of (row_at group_sort_key (addr_sort_key a) gs)).rows
        → (b : Bool) → same_sort_key (group_sort_key g) (addr_sort_key a) ≡ b → at_of g.1.rows ++ at_of (grouped gs) ≡ (part_of (cond b (Some g) (row_at group_sort_key (addr_sort_key a) gs))).rows
    at_by g gs above own owns rest true e =
        let is : group_sort_key g ≡ addr_sort_key a = same_sort_key_exact (group_sort_key g) (addr_sort_key a) e in
        (λ i. kept_by g g.1.rows own.own (ap (same_sort_key (addr_sort_key a)) is ∙ same_sort_key_itself (addr_sort_key a)) i ++ none_above gs (subst (λ (p : List ℕ). SortKeysAbove group_sort_key p gs) is above) owns i)
        ∙ append-nil g.1.rows
    at_by g gs above own owns rest false e =
        λ i. left_out g g.1.rows own.own (differ_turned (group_sort_key g) (addr_sort_key a) e) i ++ rest i

    at_all : (gs : Groups) → SortKeysAscend group_sort_key gs → AllByRecursion (IsGroup owner side) gs → at_of (grouped gs) ≡ (part_of (row_at group_sort_key (addr_sort_key a) gs)).rows
    unfolding grouped
    at_all [] up own = refl
    at_all (g ∷ gs) up own =
        filter-append (is_at a) g.1.rows (grouped gs)
        ∙ at_by g gs up.0 own.0 own.1 (at_all gs up.1 own.1) (same_sort_key (group_sort_key g) (addr_sort_key a)) refl

    pub grouped_at : (gs : Groups) → AreGrouped owner side gs → filter (is_at a) (grouped gs) ≡ (part_at a gs).rows
    unfolding part_at
    grouped_at gs are = at_all gs are.ascend are.each

  -- ---- All rows are of the owner and side

  all_append : (P : Row → Type 0) (xs ys : List Row) → AllByRecursion P xs → AllByRecursion P ys → AllByRecursion P (xs ++ ys)
  all_append P [] ys all more = more
  all_append P (x ∷ xs) ys all more = (all.0, all_append P xs ys all.1 more)

  own_in : (a : Addr) (rows : List Row) → AllByRecursion (IsRowAt owner side a) rows → AllByRecursion (IsOwn owner side) rows
  own_in a [] own = tt
  own_in a (r ∷ rs) own = (record { owner_is = own.0.owner_is; side_is = own.0.side_is; addr_is = refl }, own_in a rs own.1)

  own_all : (gs : Groups) → AllByRecursion (IsGroup owner side) gs → AllByRecursion (IsOwn owner side) (grouped gs)
  unfolding grouped
  own_all [] own = tt
  own_all (g ∷ gs) own = all_append (IsOwn owner side) g.1.rows (grouped gs) (own_in g.0 g.1.rows own.0.own) (own_all gs own.1)

  pub grouped_own : (gs : Groups) → AreGrouped owner side gs → AllByRecursion (IsOwn owner side) (grouped gs)
  grouped_own gs are = own_all gs are.each

  pub grouped_peer : (a : Addr) (gs : Groups) → AreGrouped owner side gs → rows_of_peer owner side a (grouped gs) ≡ (part_at a gs).rows
  grouped_peer a gs are = peer_rows owner side a (grouped gs) (grouped_own gs are) ∙ grouped_at a gs are

  -- ---- All rows are in order

  above_own : (a : Addr) (r : Row) (g : Group) (xs : List Row) → IsRowAt owner side a r → AllByRecursion (IsRowAt owner side g.0) xs → sort_key_cmp (addr_sort_key a) (group_sort_key g) ≡ Less → SortKeysAbove row_sort_key (row_sort_key r) xs
  unfolding group_sort_key
  above_own a r g [] is own less = tt
  above_own a r g (x ∷ xs) is own less = (row_less owner side a g.0 r x is own.0 less, above_own a r g xs is own.1 less)

  -- a row is before those of later groups
  pub above_grouped : (a : Addr) (r : Row) (gs : Groups) → IsRowAt owner side a r → SortKeysAbove group_sort_key (addr_sort_key a) gs → AllByRecursion (IsGroup owner side) gs → SortKeysAbove row_sort_key (row_sort_key r) (grouped gs)
  unfolding grouped
  above_grouped a r [] is above own = tt
  above_grouped a r (g ∷ gs) is above own = above-append row_sort_key (row_sort_key r) g.1.rows (grouped gs) (above_own a r g g.1.rows is own.0.own above.0) (above_grouped a r gs is above.1 own.1)

  before_grouped : (a : Addr) (xs : List Row) (gs : Groups) → AllByRecursion (IsRowAt owner side a) xs → SortKeysAbove group_sort_key (addr_sort_key a) gs → AllByRecursion (IsGroup owner side) gs → ComeBefore row_sort_key xs (grouped gs)
  before_grouped a [] gs own above owns = tt
  before_grouped a (x ∷ xs) gs own above owns = (above_grouped a x gs own.0 above owns, before_grouped a xs gs own.1 above owns)

  ascend_all : (gs : Groups) → SortKeysAscend group_sort_key gs → AllByRecursion (IsGroup owner side) gs → SortKeysAscend row_sort_key (grouped gs)
  unfolding grouped group_sort_key
  ascend_all [] up own = tt
  ascend_all (g ∷ gs) up own = ascend-append row_sort_key g.1.rows (grouped gs) own.0.ascend (ascend_all gs up.1 own.1) (before_grouped g.0 g.1.rows gs own.0.own up.0 own.1)

  pub grouped_ascend : (gs : Groups) → AreGrouped owner side gs → SortKeysAscend row_sort_key (grouped gs)
  grouped_ascend gs are = ascend_all gs are.ascend are.each

  -- ---- One group

  is_group_at : (a : Addr) (g : Group) → same_sort_key (group_sort_key g) (addr_sort_key a) ≡ true → IsGroup owner side g → IsGroup owner side (a, g.1)
  unfolding group_sort_key
  is_group_at a g same is = record {
    own = subst (λ (b : Addr). AllByRecursion (IsRowAt owner side b) g.1.rows) (addr_sort_key_exact g.0 a (same_sort_key_exact (addr_sort_key g.0) (addr_sort_key a) same)) is.own;
    ascend = is.ascend;
  }

  part_by : (a : Addr) (g : Group) (o : Option Group) → IsGroup owner side g → IsGroup owner side (a, part_of o) → (b : Bool) → same_sort_key (group_sort_key g) (addr_sort_key a) ≡ b → IsGroup owner side (a, part_of (cond b (Some g) o))
  part_by a g o own rest true same = is_group_at a g same own
  part_by a g o own rest false same = rest

  part_all : (a : Addr) (gs : Groups) → AllByRecursion (IsGroup owner side) gs → IsGroup owner side (a, part_of (row_at group_sort_key (addr_sort_key a) gs))
  part_all a [] own = record { own = tt; ascend = tt }
  part_all a (g ∷ gs) own = part_by a g (row_at group_sort_key (addr_sort_key a) gs) own.0 (part_all a gs own.1) (same_sort_key (group_sort_key g) (addr_sort_key a)) refl

  -- what stands at an address is a group of it
  pub part_group : (a : Addr) (gs : Groups) → AreGrouped owner side gs → IsGroup owner side (a, part_at a gs)
  unfolding part_at
  part_group a gs are = part_all a gs are.each

  -- ---- A group that is put in is the one of its address

  pub grouped_set : (g : Group) (gs : Groups) → IsGroup owner side g → AreGrouped owner side gs → AreGrouped owner side (set_row group_sort_key g gs)
  grouped_set g gs own are = record {
    ascend = ascend-set_row group_sort_key g gs are.ascend;
    each = all-set_row group_sort_key (IsGroup owner side) g gs own are.each;
  }

  -- ---- Groups as they are lent

  pub every : (Q : Group → Type 0) (gs : Groups) → ((k : ℕ) (g : Group) → slice_get gs k ≡ Some g → Q g) → AllByRecursion Q gs
  every Q [] each = tt
  every Q (g ∷ gs) each = (each 0 g refl, every Q gs (λ k x at. each (suc k) x at))

  -- of a group it is said what is said of what stands at its address
  pub here : (gs : Groups) → AreGrouped owner side gs → (k : ℕ) (g : Group) → slice_get gs k ≡ Some g → part_at g.0 gs ≡ g.1
  unfolding part_at group_sort_key
  here gs are k g at = ap part_of (row_at_row group_sort_key gs k g are.ascend at)

  all_rows : (a : Addr) (part rows xs : List Row) → AllByRecursion (IsRowAt owner side a) xs → part ≡ rows_of_peer owner side a rows → AllByRecursion (λ r. part ≡ rows_of_peer r.owner r.side r.addr rows) xs
  all_rows a part rows [] own is = tt
  all_rows a part rows (x ∷ xs) own is = (is ∙ (λ i. rows_of_peer (sym own.0.owner_is i) (sym own.0.side_is i) (sym own.0.addr_is i) rows), all_rows a part rows xs own.1 is)

  pub groups_lent : (gs : Groups) → AreGrouped owner side gs → AreGroups gs (grouped gs)
  groups_lent gs are = record {
    all = refl;
    each =
        every (λ g. AllByRecursion (λ r. g.1.rows ≡ rows_of_peer r.owner r.side r.addr (grouped gs)) g.1.rows) gs
        (λ k g at.
        let is : part_at g.0 gs ≡ g.1 = here gs are k g at in
        let own : IsGroup owner side g = subst (λ (p : RowsAndRoom Row). IsGroup owner side (g.0, p)) is (part_group g.0 gs are) in
        all_rows g.0 g.1.rows (grouped gs) g.1.rows own.own (sym (grouped_peer g.0 gs are ∙ ap (λ (p : RowsAndRoom Row). p.rows) is)));
    ascend =
        every (λ g. SortKeysAscend row_sort_key g.1.rows) gs
        (λ k g at. subst (λ (p : RowsAndRoom Row). SortKeysAscend row_sort_key p.rows) (here gs are k g at) (part_group g.0 gs are).ascend);
  }

  -- ---- Without the empty groups

  clear_by : (g : Group) (gs kept : Groups) → grouped kept ≡ grouped gs → (b : Bool) → has_rows g ≡ b → grouped (cond b (g ∷ kept) kept) ≡ g.1.rows ++ grouped gs
  unfolding grouped
  clear_by g gs kept rest true e = ap (λ (rows : List Row). g.1.rows ++ rows) rest
  clear_by g gs kept rest false e = rest ∙ empty_out g.1.rows (grouped gs) e

  cleared : (gs : Groups) → grouped (filter has_rows gs) ≡ grouped gs
  unfolding grouped
  cleared [] = refl
  cleared (g ∷ gs) = clear_by g gs (filter has_rows gs) (cleared gs) (has_rows g) refl

  each_by : (g : Group) (kept : Groups) → IsGroup owner side g → AllByRecursion (IsGroup owner side) kept → (b : Bool) → AllByRecursion (IsGroup owner side) (cond b (g ∷ kept) kept)
  each_by g kept own rest true = (own, rest)
  each_by g kept own rest false = rest

  each_clear : (gs : Groups) → AllByRecursion (IsGroup owner side) gs → AllByRecursion (IsGroup owner side) (filter has_rows gs)
  each_clear [] own = tt
  each_clear (g ∷ gs) own = each_by g (filter has_rows gs) own.0 (each_clear gs own.1) (has_rows g)

  pub grouped_clear : (gs : Groups) → AreGrouped owner side gs → HaveSameRows owner side gs (filter has_rows gs)
  grouped_clear gs are = record {
    grouped_are = record { ascend = ascend-filter group_sort_key has_rows gs are.ascend; each = each_clear gs are.each };
    rows = cleared gs;
  }

  -- ---- Before anything stands there

  pub none_grouped : (gs : Groups) → gs ≡ [] → AreGrouped owner side gs
  none_grouped gs empty = record { ascend = subst (SortKeysAscend group_sort_key) (sym empty) tt; each = subst (AllByRecursion (IsGroup owner side)) (sym empty) tt }

pub grouped_none : (gs : Groups) → gs ≡ [] → grouped gs ≡ []
unfolding grouped
grouped_none gs empty = ap grouped empty

-- ---- A group that is put in is the one of its address

set_by : (b : Bool) (g : Group) (o : Option Group) → part_of (cond b (Some g) o) ≡ cond b g.1 (part_of o)
set_by true g o = refl
set_by false g o = refl

pub part_set : (a : Addr) (g : Group) (gs : Groups) → part_at a (set_row group_sort_key g gs) ≡ cond (same_sort_key (addr_sort_key g.0) (addr_sort_key a)) g.1 (part_at a gs)
unfolding part_at group_sort_key
part_set a g gs = ap part_of (row_at-set_row group_sort_key g gs (addr_sort_key a)) ∙ set_by (same_sort_key (addr_sort_key g.0) (addr_sort_key a)) g (row_at group_sort_key (addr_sort_key a) gs)

-- ---- Room, by address

room_by : (b : Bool) (g : Group) (o : Option Group) (rest : ℕ) → rest ≡ (part_of o).room → cond b g.1.room rest ≡ (part_of (cond b (Some g) o)).room
room_by true g o rest is = refl
room_by false g o rest is = is

room_all : (a : Addr) (gs : Groups) → room_at a (room_in gs) ≡ (part_of (row_at group_sort_key (addr_sort_key a) gs)).room
unfolding room_at room_in group_sort_key
room_all a [] = refl
room_all a (g ∷ gs) =
    ap (λ (b : Bool). cond b g.1.room (room_at a (room_in gs))) (same_addr-sort_key g.0 a)
    ∙ room_by (same_sort_key (addr_sort_key g.0) (addr_sort_key a)) g (row_at group_sort_key (addr_sort_key a) gs) (room_at a (room_in gs)) (room_all a gs)

pub room_is : (a : Addr) (gs : Groups) → room_at a (room_in gs) ≡ (part_at a gs).room
unfolding part_at
room_is a gs = room_all a gs

-- ---- The rows of groups, without their addresses

abbrev pub rows_together : List (RowsAndRoom Row) → List Row
rows_together [] = []
rows_together (g ∷ gs) = g.rows ++ rows_together gs

pub together_grouped : (gs : List (Addr × RowsAndRoom Row)) → rows_together (values_of gs) ≡ grouped gs
unfolding grouped
together_grouped [] = refl
together_grouped (g ∷ gs) = ap (λ rs. g.1.rows ++ rs) (together_grouped gs)
