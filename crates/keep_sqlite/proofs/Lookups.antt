-- The items of the rows, looked up by their sort keys.
use Rattle.std.proofs.Common.{◌≡◌, ℕ, Bool, true, false, not, cond, List, [], ◌∷◌, Option, Some, None, refl, sym, ap, ◌∙◌}
use Rattle.std.proofs.lemmas.Bool.{false≢true}
use Rattle.std.specs.List.{filter, AllByRecursion}
use Rattle.std.specs.Ordering.{match_ordering}
use Rattle.std.specs.declared.cmp.Ordering.{Ordering}
use Rattle.std.specs.declared.cmp.Ordering.TheVariants.{Less, Equal, Greater}
use Rattle.sqlite_value.specs.Order.{Row, value_cmp}
use Rattle.sqlite_trees.specs.Tree.{rowid, put_row}
use Rattle.base_rows.specs.Sortable.{same_sort_key, row_at, set_row, without_row}
use Rattle.base_rows.proofs.SortableLaws.{same_sort_key_itself, same_sort_key_exact, row_at-set_row, row_at-without_row, ascend-set_row, ascend-without_row}
use Rattle.base_rows.proofs.RowLaws.{same_rows}
use Rattle.mud_world.specs.declared.item.Item.{Item}
use Rattle.mud_world.specs.Items.{sort_key_of, IsOrdered}
use Rattle.keep_sqlite.specs.Rows.{item_in, items_in}

abbrev pub sort_key_in : Row → List ℕ
sort_key_in row = sort_key_of (item_in row)

pub items_ascend : (rows : List Row) → IsOrdered (items_in rows)
items_ascend [] = tt
items_ascend (r ∷ rs) = ascend-set_row sort_key_of (item_in r) (items_in rs) (items_ascend rs)

-- the item of the first row of the sort key
abbrev pub found : List ℕ → List Row → Option Item
found p [] = None
found p (r ∷ rs) = cond (same_sort_key (sort_key_in r) p) (Some (item_in r)) (found p rs)

pub item_at : (rows : List Row) (p : List ℕ) → row_at sort_key_of p (items_in rows) ≡ found p rows
item_at [] p = refl
item_at (r ∷ rs) p = row_at-set_row sort_key_of (item_in r) (items_in rs) p ∙ ap (cond (same_sort_key (sort_key_in r) p) (Some (item_in r))) (item_at rs p)

same_test : (p q at : List ℕ) → same_sort_key p q ≡ true → same_sort_key p at ≡ same_sort_key q at
same_test p q at e = ap (λ x. same_sort_key x at) (same_sort_key_exact p q e)

-- ---- rows that are taken out

both_none : (b : Bool) → None ≡ cond {A = Option Item} b None None
both_none true = refl
both_none false = refl

gone : (b c : Bool) (x w : Option Item) → c ≡ b → cond b None w ≡ cond b None (cond c x w)
gone true c x w e = refl
gone false c x w e = sym (ap (λ t. cond t x w) e)

kept : (b c : Bool) (x w : Option Item) → (b ≡ true → c ≡ true → ⊥) → cond c x (cond b None w) ≡ cond b None (cond c x w)
kept true true x w apart = absurd (apart refl refl)
kept true false x w apart = refl
kept false c x w apart = refl

module _ (p : List ℕ) (q : Row → Bool) where
  abbrev pub Chooses : Row → Type 0
  Chooses r = q r ≡ same_sort_key (sort_key_in r) p

  found_filter : (at : List ℕ) (rows : List Row) → AllByRecursion Chooses rows → found at (filter (λ r. not (q r)) rows) ≡ cond (same_sort_key p at) None (found at rows)
  found_filter at [] all = both_none (same_sort_key p at)
  found_filter at (r ∷ rs) all = by (found_filter at rs all.1) (q r) refl
    where
      by : found at (filter (λ r. not (q r)) rs) ≡ cond (same_sort_key p at) None (found at rs) → (b : Bool) → q r ≡ b → found at (cond (not b) (r ∷ filter (λ r. not (q r)) rs) (filter (λ r. not (q r)) rs)) ≡ cond (same_sort_key p at) None (found at (r ∷ rs))
      by rest true e = rest ∙ gone (same_sort_key p at) (same_sort_key (sort_key_in r) at) (Some (item_in r)) (found at rs) (same_test (sort_key_in r) p at (sym all.0 ∙ e))
      by rest false e =
          ap (cond (same_sort_key (sort_key_in r) at) (Some (item_in r))) rest
          ∙ kept (same_sort_key p at) (same_sort_key (sort_key_in r) at) (Some (item_in r)) (found at rs) (λ u v.
          let same : p ≡ sort_key_in r = same_sort_key_exact p at u ∙ sym (same_sort_key_exact (sort_key_in r) at v) in
          false≢true (sym e ∙ all.0 ∙ ap (same_sort_key (sort_key_in r)) same ∙ same_sort_key_itself (sort_key_in r)))

  -- the rows of one sort key are taken out
  pub items-filter : (rows : List Row) → AllByRecursion Chooses rows → items_in (filter (λ r. not (q r)) rows) ≡ without_row sort_key_of p (items_in rows)
  items-filter rows all =
      same_rows sort_key_of (items_in (filter (λ r. not (q r)) rows)) (without_row sort_key_of p (items_in rows)) (items_ascend (filter (λ r. not (q r)) rows)) (ascend-without_row sort_key_of p (items_in rows) (items_ascend rows)) (λ at.
      item_at (filter (λ r. not (q r)) rows) at
      ∙ found_filter at rows all
      ∙ ap (cond (same_sort_key p at) None) (sym (item_at rows at))
      ∙ sym (row_at-without_row sort_key_of p (items_in rows) at (items_ascend rows)))

-- ---- a row that is put in

abbrev pub Apart : Row → Row → Type 0
Apart new r = (value_cmp (rowid r) (rowid new) ≡ Equal → ⊥) × (same_sort_key (sort_key_in r) (sort_key_in new) ≡ false)

swapped : (b c : Bool) (u v w : Option Item) → (b ≡ true → c ≡ true → ⊥) → cond c v (cond b u w) ≡ cond b u (cond c v w)
swapped true true u v w apart = absurd (apart refl refl)
swapped true false u v w apart = refl
swapped false c u v w apart = refl

module _ (new : Row) where
  found-put_row : (at : List ℕ) (rows : List Row) → AllByRecursion (Apart new) rows → found at (put_row new rows) ≡ cond (same_sort_key (sort_key_in new) at) (Some (item_in new)) (found at rows)
  found-put_row at [] all = refl
  found-put_row at (r ∷ rs) all = by (found-put_row at rs all.1) (value_cmp (rowid r) (rowid new)) refl
    where
      by : found at (put_row new rs) ≡ cond (same_sort_key (sort_key_in new) at) (Some (item_in new)) (found at rs) → (o : Ordering) → value_cmp (rowid r) (rowid new) ≡ o
          → found at (match_ordering o (r ∷ put_row new rs) (new ∷ rs) (new ∷ r ∷ rs)) ≡ cond (same_sort_key (sort_key_in new) at) (Some (item_in new)) (found at (r ∷ rs))
      by rest Less e =
          ap (cond (same_sort_key (sort_key_in r) at) (Some (item_in r))) rest
          ∙ swapped (same_sort_key (sort_key_in new) at) (same_sort_key (sort_key_in r) at) (Some (item_in new)) (Some (item_in r)) (found at rs) (λ u v.
          let same : sort_key_in new ≡ sort_key_in r = same_sort_key_exact (sort_key_in new) at u ∙ sym (same_sort_key_exact (sort_key_in r) at v) in
          false≢true (sym all.0.1 ∙ ap (same_sort_key (sort_key_in r)) same ∙ same_sort_key_itself (sort_key_in r)))
      by rest Equal e = absurd (all.0.0 e)
      by rest Greater e = refl

  pub items-put_row : (rows : List Row) → AllByRecursion (Apart new) rows → items_in (put_row new rows) ≡ set_row sort_key_of (item_in new) (items_in rows)
  items-put_row rows all =
      same_rows sort_key_of (items_in (put_row new rows)) (set_row sort_key_of (item_in new) (items_in rows)) (items_ascend (put_row new rows)) (ascend-set_row sort_key_of (item_in new) (items_in rows) (items_ascend rows)) (λ at.
      item_at (put_row new rows) at
      ∙ found-put_row at rows all
      ∙ ap (cond (same_sort_key (sort_key_in new) at) (Some (item_in new))) (sym (item_at rows at))
      ∙ sym (row_at-set_row sort_key_of (item_in new) (items_in rows) at))

twice : (b : Bool) (u w : Option Item) → cond b u (cond b None w) ≡ cond b u w
twice true u w = refl
twice false u w = refl

-- an item that takes the place of the one that was there
pub set-without : (x : Item) (items : List Item) → IsOrdered items → set_row sort_key_of x (without_row sort_key_of (sort_key_of x) items) ≡ set_row sort_key_of x items
set-without x items up =
    let less = without_row sort_key_of (sort_key_of x) items in
    same_rows sort_key_of (set_row sort_key_of x less) (set_row sort_key_of x items) (ascend-set_row sort_key_of x less (ascend-without_row sort_key_of (sort_key_of x) items up)) (ascend-set_row sort_key_of x items up) (λ at.
    row_at-set_row sort_key_of x less at
    ∙ ap (cond (same_sort_key (sort_key_of x) at) (Some x)) (row_at-without_row sort_key_of (sort_key_of x) items at up)
    ∙ twice (same_sort_key (sort_key_of x) at) (Some x) (row_at sort_key_of at items)
    ∙ sym (row_at-set_row sort_key_of x items at))
