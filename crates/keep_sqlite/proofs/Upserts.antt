-- What the insertion, or the change of the row that is there, does to the items.
use Rattle.std.proofs.Common.{◌≡◌, inl, inr, ℕ, ◌<◌, ℤ, pos, List, [], ◌∷◌, ◌++◌, map, Option, Bool, true, false, not, cond, ◌&&◌, Some, None, Ok, Err, Result, OnOk, refl, sym, ap, subst, ◌∙◌}
use Rattle.std.proofs.lemmas.Bool.{false≢true, cases_Bool}
use Rattle.std.specs.List.{filter, list_all, AllByRecursion}
use Rattle.std.specs.Ordering.{is_eq, int_cmp}
use Rattle.sqlite.specs.declared.types.Value.TheVariants.{Null, Int, Blob}
use Rattle.sqlite_value.specs.Order.{Row, value_cmp}
use Rattle.sqlite_trees.specs.Tree.{Trees, rowid, has_rowid, put_row}
use Rattle.sqlite_sql.specs.Ops.{unary}
use Rattle.sqlite_sql.specs.Term.{holds as passes_term}
use Rattle.sqlite.specs.Term.{Term, lit, col}
use Rattle.sqlite.specs.Query.{IsAnswer, output, Output}
use Rattle.sqlite.specs.Program.{overlay}
use Rattle.sqlite.specs.Kind.TheVariants.{Integer}
use Rattle.sqlite.specs.Cast.{cast}
use Rattle.sqlite.specs.Command.TheVariants.{InsertOr}
use Rattle.sqlite_schema.specs.declared.command.Source.TheVariants.{Values}
use Rattle.sqlite_schema.specs.declared.command.Conflict.TheVariants.{Abort}
use Rattle.sqlite_schema.specs.declared.schema.Keys.TheVariants.{Enforced}
use Rattle.sqlite_rules.specs.Lists.{Has}
use Rattle.sqlite_rules.specs.Keys.{AreConflicts}
use Rattle.sqlite_rules.specs.Calls.{ids_of}
use Rattle.sqlite_rules.specs.Edit.{next_rowid, is_taken, are_fresh}
use Rattle.sqlite_rules.proofs.ListLemmas.{all_has}
use Rattle.sqlite.specs.Edit.{edit_of, edited}
use Rattle.sqlite.specs.Rowids.TheVariants.{Given}
use Rattle.sqlite.specs.Does.{Tally, Does}
use Rattle.sqlite.specs.Rows.{Written, Task, TriesEach, Tries, Judged, Upserts, Clears, Puts, Meets, Updates, nothing, shown, count_of}
use Rattle.sqlite.specs.declared.error.Error.{Error}
use Rattle.sqlite.specs.Listing.{understood}
use Rattle.sqlite.specs.Effect.{Database}
use Rattle.sqlite.specs.State.{State, mode_of, Executes}
use Rattle.sqlite.proofs.Callers.{statement_of, runs_as, one_step, one_permutation}
use Rattle.std.specs.List.Sorted.{IsPermutation}
use Rattle.std.proofs.Math.Bool.{and-true}
use Rattle.base_rows.specs.Sortable.{same_sort_key, set_row}
use Rattle.base_rows.proofs.SortableLaws.{same_sort_key_exact}
use Rattle.mud_world.specs.declared.item.Item.{Item}
use Rattle.mud_world.specs.Items.{sort_key_of}
use Rattle.keep_sqlite.specs.Table.{item_table, item_schema}
use Rattle.keep_sqlite.specs.Rows.{stored, item_in, items_in, items_of, id_of, IsItemRow, AreDistinct, HoldsItems}
use Rattle.keep_sqlite.proofs.Texts.{upsert_text, update_query, upsert_clause, upsert_is, upsert_plain}
use Rattle.keep_sqlite.proofs.Lookups.{sort_key_in, Apart, items_ascend, items-filter, items-put_row, set-without}
use Rattle.keep_sqlite.proofs.Ids.{has_rowid_is, has_its_rowid, all-filter, all-put_row, distinct-filter, distinct-put_row}
use Rattle.keep_sqlite.proofs.Comparisons.{equal_ints}
use Rattle.keep_sqlite.proofs.Unique.{all_from, any_false, conflicts_is, only_one, chooses_sort_key}
use Rattle.keep_sqlite.proofs.Parts.{went, same_value, one_table}

-- ---- what the columns make of the values

either : {A : Type 0} (b : Bool) (x : A) → cond b x x ≡ x
either true x = refl
either false x = refl

cast_null : cast Integer Null ≡ Null
unfolding unary
cast_null = either _ Null

cast_int : (n : ℤ) → cast Integer (Int n) ≡ Int n
unfolding unary
cast_int n = either _ (Int n)

-- ---- a row that comes

-- the rows with one more, and the items with its own
pub record Sets (old new : List Row) (item : Item) : Type 0 where
  pub rows : AllByRecursion IsItemRow new
  pub distinct : AreDistinct new
  pub items : items_in new ≡ set_row sort_key_of item (items_in old)

sets_fresh : (old : List Row) (id : ℤ) (item : Item) → item.kind < 256 → AllByRecursion IsItemRow old → AreDistinct old → AllByRecursion (λ r. has_rowid id r ≡ false) old
    → AllByRecursion (λ r. same_sort_key (sort_key_in r) (sort_key_of item) ≡ false) old → Sets old (put_row (stored id item) old) item
sets_fresh old id item low items apart fresh other = record {
  rows = all-put_row IsItemRow (stored id item) old (id, item, low, refl) items;
  distinct = distinct-put_row (stored id item) old (far old items fresh) apart;
  items = items-put_row (stored id item) old (aparts old fresh other);
}
  where
    far : (rows : List Row) → AllByRecursion IsItemRow rows → AllByRecursion (λ r. has_rowid id r ≡ false) rows → AllByRecursion (λ r. id_of (stored id item) ≡ id_of r → ⊥) rows
    far [] all fresh = tt
    far (r ∷ rs) all fresh = ((λ e. false≢true (sym fresh.0 ∙ ap (λ n. has_rowid n r) e ∙ has_its_rowid r all.0)), far rs all.1 fresh.1)

    aparts : (rows : List Row) → AllByRecursion (λ r. has_rowid id r ≡ false) rows → AllByRecursion (λ r. same_sort_key (sort_key_in r) (sort_key_of item) ≡ false) rows → AllByRecursion (Apart (stored id item)) rows
    aparts [] fresh other = tt
    aparts (r ∷ rs) fresh other = (((λ e. false≢true (sym fresh.0 ∙ ap is_eq e)), other.0), aparts rs fresh.1 other.1)

-- the row of the sort key is replaced
sets_there : (db : Database) → HoldsItems db → (r : Row) → Has (db.trees 0) r → (item : Item) → item.kind < 256 → sort_key_in r ≡ sort_key_of item
    → Sets (db.trees 0) (put_row (stored (id_of r) item) (filter (λ s. not (has_rowid (id_of r) s)) (db.trees 0))) item
sets_there db holds r has item low same =
    let rows = db.trees 0 in
    let left = filter (λ s. not (has_rowid (id_of r) s)) rows in
    let chosen = subst (λ p. AllByRecursion (λ s. has_rowid (id_of r) s ≡ same_sort_key (sort_key_in s) p) rows) same (chooses_sort_key db holds r has) in
    let more = sets_fresh left (id_of r) item low (all-filter IsItemRow _ rows holds.rows) (distinct-filter _ rows holds.distinct) (passes rows) (others left (all-filter (λ s. has_rowid (id_of r) s ≡ same_sort_key (sort_key_in s) (sort_key_of item)) _ rows chosen) (passes rows)) in
    record {
      rows = more.rows;
      distinct = more.distinct;
      items = more.items ∙ ap (set_row sort_key_of item) (items-filter (sort_key_of item) (has_rowid (id_of r)) rows chosen) ∙ set-without item (items_in rows) (items_ascend rows);
    }
  where
    passes : (rows : List Row) → AllByRecursion (λ s. has_rowid (id_of r) s ≡ false) (filter (λ s. not (has_rowid (id_of r) s)) rows)
    passes [] = tt
    passes (s ∷ ss) = by (passes ss) (has_rowid (id_of r) s) refl
      where
        by : AllByRecursion (λ s. has_rowid (id_of r) s ≡ false) (filter (λ s. not (has_rowid (id_of r) s)) ss) → (b : Bool) → has_rowid (id_of r) s ≡ b
            → AllByRecursion (λ s. has_rowid (id_of r) s ≡ false) (cond (not b) (s ∷ filter (λ s. not (has_rowid (id_of r) s)) ss) (filter (λ s. not (has_rowid (id_of r) s)) ss))
        by rest true e = rest
        by rest false e = (e, rest)

    others : (rows : List Row) → AllByRecursion (λ s. has_rowid (id_of r) s ≡ same_sort_key (sort_key_in s) (sort_key_of item)) rows → AllByRecursion (λ s. has_rowid (id_of r) s ≡ false) rows
        → AllByRecursion (λ s. same_sort_key (sort_key_in s) (sort_key_of item) ≡ false) rows
    others [] all none = tt
    others (s ∷ ss) all none = (sym all.0 ∙ none.0, others ss all.1 none.1)

-- ---- the statement

filters_alike : (f g : Row → Bool) (rows : List Row) → AllByRecursion (λ r. f r ≡ g r) rows → filter f rows ≡ filter g rows
filters_alike f g [] same = refl
filters_alike f g (r ∷ rs) same = ap (λ b. cond b (r ∷ filter f rs) (filter f rs)) same.0 ∙ ap (λ xs. cond (g r) (r ∷ xs) xs) (filters_alike f g rs same.1)

module _ (item : Item) (low : item.kind < 256) where
  abbrev params : Row
  params = Int (pos item.kind) ∷ Blob item.key ∷ Blob item.body ∷ []

  module _ (limit : Option ℕ) where
    abbrev task : Task
    task = record { limit = limit; keys = Enforced; schema = item_schema; table = item_table; params = params }

    module _ (db : Database) (holds : HoldsItems db) (id : ℤ) where
      -- no row has the sort key
      puts : (one : Written) → AllByRecursion (λ r. same_sort_key (sort_key_in r) (sort_key_of item) ≡ false) (db.trees 0) → Puts task (stored id item) db.trees (Ok one) → Sets (db.trees 0) (one.trees 0) item
      puts one other h =
          let put = went h in
          let applies = one_step item_schema Enforced db.trees put.0 (edit_of db.trees item_table [] Given 0 (stored id item ∷ [])) refl put.1 in
          let trees : one.trees ≡ put.0 = ap (λ (it : Written). it.trees) (same_value put.2) in
          let cells : (cast Integer (Int id) ∷ cast Integer (Int (pos item.kind)) ∷ Blob item.key ∷ Blob item.body ∷ []) ≡ stored id item = rw (cast_int id, cast_int (pos item.kind)) in
          let rows : one.trees 0 ≡ put_row (stored id item) (db.trees 0) = ap (λ (t : Trees). t 0) trees ∙ applies.rows ∙ ap (λ x. put_row x (db.trees 0)) cells in
          let free = subst (λ x. are_fresh (db.trees 0) (x ∷ []) ≡ true) cells applies.fresh in
          let fresh : is_taken (db.trees 0) (stored id item) ≡ false = not_and (is_taken (db.trees 0) (stored id item)) free in
          subst (λ rs. Sets (db.trees 0) rs item) (sym rows) (sets_fresh (db.trees 0) id item low holds.rows holds.distinct (any_false (λ r. is_eq (value_cmp (rowid r) (Int id))) (db.trees 0) fresh) other)
        where
          not_and : (b : Bool) → (not b && true) ≡ true → b ≡ false
          not_and true e = absurd (false≢true e)
          not_and false e = refl

      -- a row that has the sort key
      module _ (r : Row) (has : Has (db.trees 0) r) (same : sort_key_in r ≡ sort_key_of item) where
        abbrev given : Row
        given = params ++ Int (id_of r) ∷ shown item_table (stored id item)

        abbrev test : Row → Bool
        test row = list_all (passes_term (given ∷ row ∷ [])) update_query.filter

        test_is : (rows : List Row) → AllByRecursion IsItemRow rows → AllByRecursion (λ s. test s ≡ has_rowid (id_of r) s) rows
        test_is [] all = tt
        test_is (s ∷ ss) all = (subst (λ x. test x ≡ is_eq (int_cmp (id_of x) (id_of r))) (sym all.0.3) (and-true _ ∙ equal_ints all.0.0 (id_of r)) ∙ sym (has_rowid_is (id_of r) s all.0), test_is ss all.1)

        abbrev shown_row : Row → Row
        shown_row s = rowid s ∷ rowid s ∷ Rattle.sqlite_value.specs.Order.column s 1 ∷ Rattle.sqlite_value.specs.Order.column s 2 ∷ Blob item.body ∷ []

        answer_is : (rows : List Row) → IsAnswer update_query (overlay db.trees []) given rows → rows ≡ shown_row r ∷ []
        answer_is rows a =
            let chosen : filter test (db.trees 0) ≡ r ∷ [] = filters_alike test (has_rowid (id_of r)) (db.trees 0) (test_is (db.trees 0) holds.rows) ∙ only_one (db.trees 0) holds.rows holds.distinct r has in
            let staged : a.staged ≡ (given ∷ r ∷ []) ∷ [] = a.grouped ∙ one_table given test (db.trees 0) ∙ ap (map (λ x. given ∷ x ∷ [])) chosen in
            let o : Output = output update_query (given ∷ r ∷ []) in
            let kept : a.kept ≡ o ∷ [] = a.distinct ∙ ap (map (output update_query)) staged in
            let ordered = one_permutation o a.ordered (subst (λ k. IsPermutation k a.ordered) kept a.same) in
            a.shown ∙ ap (map (λ (p : Output). p.1)) ordered

        key_parts : (a b : ℕ) (u v : List ℕ) → (a ∷ u) ≡ (b ∷ v) → (a ≡ b) × (u ≡ v)
        key_parts a b u v e = (cc, cc)

        cells : (cast Integer (rowid r) ∷ cast Integer (Rattle.sqlite_value.specs.Order.column r 1) ∷ Rattle.sqlite_value.specs.Order.column r 2 ∷ Blob item.body ∷ []) ≡ stored (id_of r) item
        cells =
            let it = all_has IsItemRow (db.trees 0) r holds.rows has in
            let parts = key_parts (item_in r).kind item.kind (item_in r).key item.key same in
            let plain : (cast Integer (Int (id_of r)) ∷ cast Integer (Int (pos (item_in r).kind)) ∷ Blob (item_in r).key ∷ Blob item.body ∷ []) ≡ stored (id_of r) item = rw (cast_int (id_of r), cast_int (pos (item_in r).kind), parts.0, parts.1) in
            let same_row : (x : Row) → x ≡ stored it.0 it.1 → (cast Integer (rowid x) ∷ cast Integer (Rattle.sqlite_value.specs.Order.column x 1) ∷ Rattle.sqlite_value.specs.Order.column x 2 ∷ Blob item.body ∷ [])
            ≡ (cast Integer (Int (id_of x)) ∷ cast Integer (Int (pos (item_in x).kind)) ∷ Blob (item_in x).key ∷ Blob item.body ∷ []) =
            λ x e. subst (λ y. (cast Integer (rowid y) ∷ cast Integer (Rattle.sqlite_value.specs.Order.column y 1) ∷ Rattle.sqlite_value.specs.Order.column y 2 ∷ Blob item.body ∷ [])
            ≡ (cast Integer (Int (id_of y)) ∷ cast Integer (Int (pos (item_in y).kind)) ∷ Blob (item_in y).key ∷ Blob item.body ∷ [])) (sym e) refl in
            same_row r it.3 ∙ plain

        updates : (one : Written) → Updates task (record { lets = []; body = update_query }) given db.trees (Ok one) → Sets (db.trees 0) (one.trees 0) item
        updates one h =
            let asked = went h in
            let put = went asked.2 in
            let answer : asked.0 ≡ shown_row r ∷ [] = answer_is asked.0 (asked.1.answer Null) in
            let edit = edit_of db.trees item_table (ids_of asked.0) Given 1 asked.0 in
            let applies = one_step item_schema Enforced db.trees put.0 edit refl put.1 in
            let trees : one.trees ≡ put.0 = ap (λ (it : Written). it.trees) (same_value put.2) in
            let rows : one.trees 0 ≡ put_row (stored (id_of r) item) (filter (λ s. not (has_rowid (id_of r) s)) (db.trees 0)) =
            ap (λ (t : Trees). t 0) trees
            ∙ applies.rows
            ∙ ap (λ all. edited db.trees (edit_of db.trees item_table (ids_of all) Given 1 all)) answer
            ∙ ap (λ x. put_row x (filter (λ s. not (has_rowid (id_of r) s)) (db.trees 0))) cells in
            subst (λ rs. Sets (db.trees 0) rs item) (sym rows) (sets_there db holds r has item low same)

      new_is : IsItemRow (stored id item)
      new_is = (id, item, low, refl)

      meets : (found : List Row) (one : Written) → AreConflicts (Some (1 ∷ 2 ∷ [])) item_schema.indexes item_table (db.trees 0) (stored id item) found
          → Meets task (Upserts task Abort (stored id item) db.trees []) (stored id item) db.trees upsert_clause found (Ok one) → Sets (db.trees 0) (one.trees 0) item
      meets [] one conf h =
          puts one (all_from (db.trees 0) (λ r there.
          let item_row = all_has IsItemRow (db.trees 0) r holds.rows there in
          elim (cases_Bool (same_sort_key (sort_key_in r) (sort_key_of item))) [
            | inl same ↦ absurd (conf.complete r there (conflicts_is (stored id item) r new_is item_row ∙ same))
            | inr other ↦ other
          ])) (clears h.0 h.2)
        where
          clears : (found : List Row) → Clears task Abort (stored id item) db.trees found (Ok one) → Puts task (stored id item) db.trees (Ok one)
          clears [] h = h
          clears (x ∷ more) h = h
      meets (there ∷ more) one conf h =
          let it = conf.sound there (inl refl) in
          let item_row = all_has IsItemRow (db.trees 0) it.0 holds.rows it.1 in
          let same : sort_key_in it.0 ≡ sort_key_of item = same_sort_key_exact (sort_key_in it.0) (sort_key_of item) (sym (conflicts_is (stored id item) it.0 new_is item_row) ∙ it.2) in
          let id_is : rowid it.0 ≡ Int (id_of it.0) = ap rowid item_row.3 ∙ sym (ap (λ x. Int (id_of x)) item_row.3) in
          updates it.0 it.1 same one (subst (λ v. Updates task (record { lets = []; body = update_query }) (params ++ v ∷ shown item_table (stored id item)) db.trees (Ok one)) (ap rowid it.3 ∙ id_is) h)

    tries : (db : Database) → HoldsItems db → (new : Row) (one : Written) (id : ℤ) → new ≡ stored id item → Tries task Abort (upsert_clause ∷ []) new db.trees (Ok one) → Sets (db.trees 0) (one.trees 0) item
    tries db holds new one id is (inl refused) = absurd (let e = refused.1 in cc)
    tries db holds new one id is (inr h) = judged h.0 h.2
      where
        judged : (verdict : _) → Judged task Abort (upsert_clause ∷ []) new db.trees verdict (Ok one) → Sets (db.trees 0) (one.trees 0) item
        judged None j = let m = subst (λ x. Upserts task Abort x db.trees (upsert_clause ∷ []) (Ok one)) is j in meets db holds id m.0 one m.1 m.2
        judged (Some why) j = absurd (let e = j in cc)

  -- the items are those of before with this one put in
  pub upserts : (old new : State) (r : Result ℕ Error) → HoldsItems old.now → Executes upsert_text params old new r → OnOk r (HoldsItems new.now × (items_of new.now ≡ set_row sort_key_of item (items_of old.now)))
  upserts old new (Err e) holds h = tt
  upserts old new (Ok count) holds h =
      let db = old.now.trees in
      let has = holds.schema in
      let terms : List Term = lit Null ∷ col 0 0 ∷ col 0 1 ∷ col 0 2 ∷ [] in
      let source : Row = Null ∷ Int (pos item.kind) ∷ Blob item.key ∷ Blob item.body ∷ [] in
      let command = InsertOr 0 Abort (Values terms 4) (upsert_clause ∷ []) in
      let w = runs_as upsert_text params old new item_schema has command upsert_is upsert_plain count h in
      let text = statement_of upsert_text (understood item_schema upsert_text) in
      let done = went (subst (λ s. Does old.step_limit (mode_of old) params (record old.now { schema = s }) text None command (Ok (w.tally, new.now))) has w.changed) in
      let now = ap (λ (p : Tally × Database). p.1) (same_value (went (went done.2).2).2) in
      let given = went done.1 in
      let counter = went given.2 in
      let tried = went counter.2 in
      let counted = went tried.2 in
      let end : done.0.trees ≡ tried.0.0.trees = ap (λ (it : Written). it.trees) (same_value counted.2) ∙ same_value counted.1 in
      let each : TriesEach (task old.step_limit) Abort (upsert_clause ∷ []) (source ∷ []) (count_of counter.0) (nothing db) (Ok tried.0) = subst (λ all. TriesEach (task old.step_limit) Abort (upsert_clause ∷ []) all (count_of counter.0) (nothing db) (Ok tried.0)) given.1.1 tried.1 in
      let first = went each in
      let last : tried.0.0.trees ≡ first.0.trees = ap (λ (p : Written × ℤ). p.0.trees) (same_value first.2) in
      let sets : Sets (db 0) (first.0.trees 0) item = tries old.step_limit old.now holds _ first.0 (next_rowid (db 0)) (rw (cast_null, cast_int (pos item.kind))) first.1 in
      let rows : new.now.trees 0 ≡ first.0.trees 0 = ap (λ (d : Database). d.trees 0) now ∙ ap (λ (t : Trees). t 0) (end ∙ last) in (
        record {
          sound = w.sound;
          schema = ap (λ (d : Database). d.schema) now;
          rows = subst (AllByRecursion IsItemRow) (sym rows) sets.rows;
          distinct = subst AreDistinct (sym rows) sets.distinct;
        },
        ap items_in rows ∙ sets.items,
      )
