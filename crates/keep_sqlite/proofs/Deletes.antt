-- What the deletion does to the items.
use Rattle.std.proofs.Common.{◌≡◌, ℕ, pos, List, [], ◌∷◌, map, Bool, not, None, Ok, Err, Result, OnOk, refl, sym, ap, subst, ◌∙◌}
use Rattle.std.specs.List.{filter, list_all, AllByRecursion}
use Rattle.std.specs.List.Sorted.{IsPermutation}
use Rattle.std.proofs.lemmas.List.Sorted.{IsPermutation-map, list_any-IsPermutation}
use Rattle.sqlite.specs.declared.types.Value.TheVariants.{Int, Blob}
use Rattle.sqlite_value.specs.Order.{Row}
use Rattle.sqlite_trees.specs.Tree.{Trees, has_rowid}
use Rattle.sqlite_sql.specs.Term.{holds}
use Rattle.sqlite.specs.Query.{IsAnswer, output, Output}
use Rattle.sqlite.specs.Program.{overlay}
use Rattle.sqlite.specs.Command.TheVariants.{Delete}
use Rattle.sqlite.specs.Edit.{edit_of}
use Rattle.sqlite_rules.specs.Calls.{ids_of}
use Rattle.sqlite.specs.Rowids.TheVariants.{Given}
use Rattle.sqlite.specs.Does.{Tally, Does}
use Rattle.sqlite.specs.Rows.{Written}
use Rattle.sqlite.specs.declared.error.Error.{Error}
use Rattle.sqlite.specs.Listing.{understood}
use Rattle.sqlite.specs.Effect.{Database}
use Rattle.sqlite.specs.State.{State, mode_of, Executes}
use Rattle.sqlite.proofs.Callers.{statement_of, runs_as, one_step}
use Rattle.base_rows.specs.Sortable.{same_sort_key, without_row}
use Rattle.mud_world.specs.Items.{sort_key_of}
use Rattle.keep_sqlite.specs.Table.{item_table, item_schema}
use Rattle.keep_sqlite.specs.Rows.{items_in, items_of, id_of, AreDistinct, IsItemRow, HoldsItems}
use Rattle.keep_sqlite.proofs.Texts.{delete_text, delete_query, delete_is, delete_plain}
use Rattle.keep_sqlite.proofs.Parts.{went, same_value, one_table, map_map}
use Rattle.keep_sqlite.proofs.Lookups.{sort_key_in, items-filter}
use Rattle.keep_sqlite.proofs.Ids.{is_among, without_all_is, among_chosen, all-filter, distinct-filter}
use Rattle.keep_sqlite.proofs.Comparisons.{deletes_test}

module _ (kind : ℕ) (key : List ℕ) where
  abbrev params : Row
  params = Int (pos kind) ∷ Blob key ∷ []

  abbrev test : Row → Bool
  test row = list_all (holds (params ∷ row ∷ [])) delete_query.filter

  test_is : (rows : List Row) → AllByRecursion IsItemRow rows → AllByRecursion (λ r. test r ≡ same_sort_key (sort_key_in r) (kind ∷ key)) rows
  test_is [] all = tt
  test_is (r ∷ rs) all = (subst (λ r. test r ≡ same_sort_key (sort_key_in r) (kind ∷ key)) (sym all.0.3) (deletes_test kind key all.0.0 all.0.1), test_is rs all.1)

  joined : (f g h : Row → Bool) (rows : List Row) → AllByRecursion (λ r. f r ≡ g r) rows → AllByRecursion (λ r. g r ≡ h r) rows → AllByRecursion (λ r. f r ≡ h r) rows
  joined f g h [] one two = tt
  joined f g h (r ∷ rs) one two = (one.0 ∙ two.0, joined f g h rs one.1 two.1)

  -- the rowids of the answer are those of the rows that pass the test, in some order
  answer_ids : (db : Trees) (rows : List Row) → IsAnswer delete_query (overlay db []) params rows → IsPermutation (map id_of (filter test (db 0))) (ids_of rows)
  answer_ids db rows a =
      let staged : a.staged ≡ map (λ r. params ∷ r ∷ []) (filter test (db 0)) = a.grouped ∙ one_table params test (db 0) in
      let kept : a.kept ≡ map (λ r. output delete_query (params ∷ r ∷ [])) (filter test (db 0)) =
      a.distinct ∙ ap (map (output delete_query)) staged ∙ map_map (λ r. params ∷ r ∷ []) (output delete_query) (filter test (db 0)) in
      let first : (o : Output) → Rattle.std.specs.Prelude.ℤ = λ o. id_of o.1 in
      let shown : ids_of rows ≡ map (λ (o : Output). id_of o.1) a.ordered = ap ids_of a.shown ∙ map_map (λ (o : Output). o.1) id_of a.ordered in
      let front : map (λ (o : Output). id_of o.1) a.kept ≡ map id_of (filter test (db 0)) =
      ap (map (λ (o : Output). id_of o.1)) kept ∙ map_map (λ r. output delete_query (params ∷ r ∷ [])) (λ (o : Output). id_of o.1) (filter test (db 0)) in
      subst (λ xs. IsPermutation (map id_of (filter test (db 0))) xs) (sym shown) (subst (λ xs. IsPermutation xs (map (λ (o : Output). id_of o.1) a.ordered)) front (IsPermutation-map (λ (o : Output). id_of o.1) a.kept a.ordered a.same))

  chooses : (rows : List Row) (ids : _) → AllByRecursion IsItemRow rows → AreDistinct rows → IsPermutation (map id_of (filter test rows)) ids → AllByRecursion (λ r. is_among ids r ≡ same_sort_key (sort_key_in r) (kind ∷ key)) rows
  chooses rows ids items apart order =
      let swap = any_of rows in
      joined (is_among ids) (is_among (map id_of (filter test rows))) (λ r. same_sort_key (sort_key_in r) (kind ∷ key)) rows swap
      (joined (is_among (map id_of (filter test rows))) test (λ r. same_sort_key (sort_key_in r) (kind ∷ key)) rows (among_chosen test rows items apart) (test_is rows items))
    where
      any_of : (xs : List Row) → AllByRecursion (λ r. is_among ids r ≡ is_among (map id_of (filter test rows)) r) xs
      any_of [] = tt
      any_of (x ∷ xs) = (sym (list_any-IsPermutation (λ n. has_rowid n x) (map id_of (filter test rows)) ids order), any_of xs)

  -- the items are those of before without the one of the sort key
  pub deletes : (old new : State) (r : Result ℕ Error) → HoldsItems old.now → Executes delete_text params old new r → OnOk r (HoldsItems new.now × (items_of new.now ≡ without_row sort_key_of (kind ∷ key) (items_of old.now)))
  deletes old new (Err e) holds h = tt
  deletes old new (Ok count) holds h =
      let db = old.now.trees in
      let has = holds.schema in
      let command = Delete 0 (record { lets = []; body = delete_query }) in
      let w = runs_as delete_text params old new item_schema has command delete_is delete_plain count h in
      let text = statement_of delete_text (understood item_schema delete_text) in
      let done = went (subst (λ s. Does old.step_limit (mode_of old) params (record old.now { schema = s }) text None command (Ok (w.tally, new.now))) has w.changed) in
      let now = ap (λ (p : Tally × Database). p.1) (same_value (went (went done.2).2).2) in
      let given = went done.1 in
      let written = went given.2 in
      let trees : done.0.trees ≡ written.0 = ap (λ (it : Written). it.trees) (same_value written.2) in
      let ids = ids_of given.0 in
      let step = (one_step item_schema _ db written.0 (edit_of db item_table ids Given 0 []) refl written.1).rows in
      let rows : new.now.trees 0 ≡ filter (λ r. not (is_among ids r)) (db 0) = ap (λ (d : Database). d.trees 0) now ∙ ap (λ (t : Trees). t 0) trees ∙ step ∙ without_all_is ids (db 0) in
      let chosen = chooses (db 0) ids holds.rows holds.distinct (answer_ids db given.0 (given.1.answer Rattle.sqlite.specs.declared.types.Value.TheVariants.Null)) in (
        record {
          sound = w.sound;
          schema = ap (λ (d : Database). d.schema) now;
          rows = subst (AllByRecursion IsItemRow) (sym rows) (all-filter IsItemRow (λ r. not (is_among ids r)) (db 0) holds.rows);
          distinct = subst AreDistinct (sym rows) (distinct-filter (λ r. not (is_among ids r)) (db 0) holds.distinct);
        },
        ap items_in rows ∙ items-filter (kind ∷ key) (is_among ids) (db 0) chosen,
      )
