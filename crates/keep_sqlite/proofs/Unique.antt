-- No two rows of a database that holds items have one sort key, or one rowid.
use Rattle.std.proofs.Common.{◌≡◌, inl, inr, ℤ, Bool, true, false, not, cond, ◌&&◌, ◌||◌, List, [], ◌∷◌, Some, refl, sym, ap, subst, ◌∙◌}
use Rattle.std.proofs.lemmas.Bool.{false≢true, cases_Bool, not-true}
use Rattle.std.proofs.lemmas.Map.Lookups.{exact_signed}
use Rattle.std.specs.List.{filter, list_any, AllByRecursion}
use Rattle.std.specs.Ordering.{is_ne, int_cmp}
use Rattle.std.proofs.Math.Bool.{or-false, and-true}
use Rattle.sqlite.specs.declared.types.Value.TheVariants.{Int}
use Rattle.sqlite_value.specs.Order.{Row, value_cmp}
use Rattle.sqlite_value.specs.Keys.{plain, first_key}
use Rattle.sqlite_value.proofs.OrderLemmas.{value_cmp-Int}
use Rattle.sqlite_trees.specs.Tree.{rowid, has_rowid}
use Rattle.sqlite_sql.specs.Ops.{binary}
use Rattle.sqlite_schema.specs.declared.schema.Constraint.TheVariants.{Unique}
use Rattle.sqlite_schema.specs.Rules.{agree, differ, clashes, Keeps}
use Rattle.sqlite_rules.specs.Lists.{Has}
use Rattle.sqlite_rules.specs.Keys.{conflicts}
use Rattle.sqlite_rules.proofs.ListLemmas.{all_has}
use Rattle.sqlite.specs.Effect.{Database}
use Rattle.base_rows.specs.Sortable.{same_sort_key}
use Rattle.base_rows.proofs.SortableLaws.{same_sort_key_itself, same_sort_key_exact}
use Rattle.base_rows.proofs.SearchLaws.{not_ne}
use Rattle.mud_world.specs.declared.item.Item.{Item}
use Rattle.mud_world.specs.Items.{sort_key_of}
use Rattle.keep_sqlite.specs.Table.{item_table, item_schema}
use Rattle.keep_sqlite.specs.Rows.{stored, IsItemRow, id_of, AreDistinct, HoldsItems}
use Rattle.keep_sqlite.proofs.Lookups.{sort_key_in}
use Rattle.keep_sqlite.proofs.Ids.{eq_exact, has_rowid_is, has_its_rowid}
use Rattle.keep_sqlite.proofs.Comparisons.{true_of, same_keys}

pub all_from : {P : Row → Type 0} (rows : List Row) → ((r : Row) → Has rows r → P r) → AllByRecursion P rows
all_from [] each = tt
all_from (r ∷ rs) each = (each r (inl refl), all_from rs (λ s has. each s (inr has)))

pub any_false : (p : Row → Bool) (rows : List Row) → list_any p rows ≡ false → AllByRecursion (λ r. p r ≡ false) rows
any_false p [] e = tt
any_false p (r ∷ rs) e = by (any_false p rs) (p r) refl
  where
    by : (list_any p rs ≡ false → AllByRecursion (λ r. p r ≡ false) rs) → (b : Bool) → p r ≡ b → (p r ≡ false) × AllByRecursion (λ r. p r ≡ false) rs
    by rest true is = absurd (false≢true (sym e ∙ ap (λ c. c || list_any p rs) is))
    by rest false is = (is, rest (sym (ap (λ c. c || list_any p rs) is) ∙ e))

-- the keys of the index agree exactly where the sort keys are one
agree_stored : (i j : ℤ) (a b : Item) → agree plain (1 ∷ 2 ∷ []) (stored i a) (1 ∷ 2 ∷ []) (stored j b) ≡ same_sort_key (sort_key_of a) (sort_key_of b)
unfolding first_key
agree_stored i j a b = same_keys a.kind b.kind a.key b.key

pub agree_is : (r s : Row) → IsItemRow r → IsItemRow s → agree plain (1 ∷ 2 ∷ []) r (1 ∷ 2 ∷ []) s ≡ same_sort_key (sort_key_in r) (sort_key_in s)
agree_is r s p q =
    subst (λ x. agree plain (1 ∷ 2 ∷ []) x (1 ∷ 2 ∷ []) s ≡ same_sort_key (sort_key_in x) (sort_key_in s)) (sym p.3) (subst (λ y. agree plain (1 ∷ 2 ∷ []) (stored p.0 p.1) (1 ∷ 2 ∷ []) y ≡ same_sort_key (sort_key_of p.1) (sort_key_in y)) (sym q.3) (agree_stored p.0 q.0 p.1 q.1))

pub conflicts_is : (new r : Row) → IsItemRow new → IsItemRow r → conflicts (Some (1 ∷ 2 ∷ [])) item_schema.indexes item_table new r ≡ same_sort_key (sort_key_in r) (sort_key_in new)
conflicts_is new r p q = or-false (agree plain (1 ∷ 2 ∷ []) r (1 ∷ 2 ∷ []) new) ∙ agree_is r new q p

differ_ints : (a b : ℤ) → differ (Int a) (Int b) ≡ is_ne (int_cmp a b)
unfolding binary
differ_ints a b = true_of (is_ne (value_cmp (Int a) (Int b))) ∙ ap is_ne (value_cmp-Int a b)

same_id : (r s : Row) → IsItemRow r → IsItemRow s → differ (rowid r) (rowid s) ≡ false → id_of r ≡ id_of s
same_id r s p q e =
    let it = subst (λ y. differ (rowid (stored p.0 p.1)) (rowid y) ≡ false) q.3 (subst (λ x. differ (rowid x) (rowid s) ≡ false) p.3 e) in
    let ids : p.0 ≡ q.0 = exact_signed p.0 q.0 (not_ne (int_cmp p.0 q.0) (sym (differ_ints p.0 q.0) ∙ it)) in
    ap id_of p.3 ∙ ids ∙ sym (ap id_of q.3)

module _ (db : Database) (holds : HoldsItems db) where
  unique_rule : AllByRecursion (λ row. (not (clashes plain (1 ∷ 2 ∷ []) (db.trees 0) row) && true) ≡ true) (db.trees 0)
  unique_rule = (subst (λ s. Keeps Unique s db.trees) holds.schema (holds.sound.obeys.rules Unique)).0

  -- rows of one sort key have one rowid
  pub one_id : (r s : Row) → Has (db.trees 0) r → Has (db.trees 0) s → sort_key_in r ≡ sort_key_in s → id_of r ≡ id_of s
  one_id r s hr hs same =
      let rows = db.trees 0 in
      let p = all_has IsItemRow rows r holds.rows hr in
      let q = all_has IsItemRow rows s holds.rows hs in
      let calm = not-true (clashes plain (1 ∷ 2 ∷ []) rows s) (sym (and-true (not (clashes plain (1 ∷ 2 ∷ []) rows s))) ∙ all_has (λ row. (not (clashes plain (1 ∷ 2 ∷ []) rows row) && true) ≡ true) rows s unique_rule hs) in
      let none = all_has (λ other. (agree plain (1 ∷ 2 ∷ []) other (1 ∷ 2 ∷ []) s && differ (rowid other) (rowid s)) ≡ false) rows r (any_false (λ other. agree plain (1 ∷ 2 ∷ []) other (1 ∷ 2 ∷ []) s && differ (rowid other) (rowid s)) rows calm) hr in
      let agrees : agree plain (1 ∷ 2 ∷ []) r (1 ∷ 2 ∷ []) s ≡ true = agree_is r s p q ∙ ap (same_sort_key (sort_key_in r)) (sym same) ∙ same_sort_key_itself (sort_key_in r) in
      same_id r s p q (sym (ap (λ b. b && differ (rowid r) (rowid s)) agrees) ∙ none)

-- rows of one rowid are one
pub one_row : (rows : List Row) → AreDistinct rows → (r s : Row) → Has rows r → Has rows s → id_of r ≡ id_of s → r ≡ s
one_row [] apart r s hr hs e = absurd hr
one_row (x ∷ xs) apart r s (inl a) (inl b) e = a ∙ sym b
one_row (x ∷ xs) apart r s (inl a) (inr b) e = absurd (all_has (λ other. id_of x ≡ id_of other → ⊥) xs s apart.0 b (ap id_of (sym a) ∙ e))
one_row (x ∷ xs) apart r s (inr a) (inl b) e = absurd (all_has (λ other. id_of x ≡ id_of other → ⊥) xs r apart.0 a (ap id_of (sym b) ∙ sym e))
one_row (x ∷ xs) apart r s (inr a) (inr b) e = one_row xs apart.1 r s a b e

-- the row of a rowid is the only one that passes the test for it
pub only_one : (rows : List Row) → AllByRecursion IsItemRow rows → AreDistinct rows → (r : Row) → Has rows r → filter (has_rowid (id_of r)) rows ≡ r ∷ []
only_one [] items apart r has = absurd has
only_one (x ∷ xs) items apart r (inl is) =
    let first : has_rowid (id_of r) x ≡ true = subst (λ y. has_rowid (id_of y) x ≡ true) (sym is) (has_its_rowid x items.0) in
    let rest : filter (has_rowid (id_of r)) xs ≡ [] = subst (λ y. filter (has_rowid (id_of y)) xs ≡ []) (sym is) (none xs items.1 apart.0) in
    ap (λ b. cond b (x ∷ filter (has_rowid (id_of r)) xs) (filter (has_rowid (id_of r)) xs)) first ∙ ap (λ ys. x ∷ ys) rest ∙ ap (λ y. y ∷ []) (sym is)
  where
    none : (ys : List Row) → AllByRecursion IsItemRow ys → AllByRecursion (λ other. id_of x ≡ id_of other → ⊥) ys → filter (has_rowid (id_of x)) ys ≡ []
    none [] all far = refl
    none (y ∷ ys) all far = ap (λ b. cond b (y ∷ filter (has_rowid (id_of x)) ys) (filter (has_rowid (id_of x)) ys)) (Rattle.keep_sqlite.proofs.Ids.has_other (id_of x) y all.0 (λ e. far.0 (sym e))) ∙ none ys all.1 far.1
only_one (x ∷ xs) items apart r (inr has) =
    let far : id_of x ≡ id_of r → ⊥ = all_has (λ other. id_of x ≡ id_of other → ⊥) xs r apart.0 has in
    ap (λ b. cond b (x ∷ filter (has_rowid (id_of r)) xs) (filter (has_rowid (id_of r)) xs)) (Rattle.keep_sqlite.proofs.Ids.has_other (id_of r) x items.0 far) ∙ only_one xs items.1 apart.1 r has

-- the rowid of a row chooses the rows of its sort key
pub chooses_sort_key : (db : Database) → HoldsItems db → (r : Row) → Has (db.trees 0) r → AllByRecursion (λ s. has_rowid (id_of r) s ≡ same_sort_key (sort_key_in s) (sort_key_in r)) (db.trees 0)
chooses_sort_key db holds r has = all_from (db.trees 0) (λ s there.
    let item = all_has IsItemRow (db.trees 0) s holds.rows there in
    elim (cases_Bool (has_rowid (id_of r) s)) [
      | inl same ↦ (let ids : id_of s ≡ id_of r = exact_signed (id_of s) (id_of r) (eq_exact (int_cmp (id_of s) (id_of r)) (sym (has_rowid_is (id_of r) s item) ∙ same)) in
          let is : s ≡ r = one_row (db.trees 0) holds.distinct s r there has ids in
          same ∙ sym (ap (λ y. same_sort_key (sort_key_in y) (sort_key_in r)) is ∙ same_sort_key_itself (sort_key_in r)))
      | inr other ↦ elim (cases_Bool (same_sort_key (sort_key_in s) (sort_key_in r))) [
        | inl here ↦ (let ids : id_of s ≡ id_of r = one_id db holds s r there has (same_sort_key_exact (sort_key_in s) (sort_key_in r) here) in
            absurd (false≢true (sym other ∙ ap (λ n. has_rowid n s) (sym ids) ∙ has_its_rowid s item)))
        | inr apart ↦ other ∙ sym apart
      ]
    ])
