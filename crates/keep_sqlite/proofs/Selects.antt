-- What the selections answer.
use Rattle.std.proofs.Common.{◌≡◌, ℕ, List, [], ◌∷◌, map, true, refl, sym, ap, subst, ◌∙◌}
use Rattle.std.specs.List.{filter}
use Rattle.std.specs.List.Sorted.{IsPermutation, IsSorted}
use Rattle.std.proofs.lemmas.List.Sorted.{IsPermutation-map}
use Rattle.sqlite.specs.declared.types.Value.TheVariants.{Null}
use Rattle.sqlite_value.specs.Order.{Row}
use Rattle.sqlite_trees.specs.Tree.{Trees}
use Rattle.sqlite.specs.Query.{Query, IsAnswer, output, Output}
use Rattle.sqlite.specs.Program.{overlay}
use Rattle.sqlite.specs.Listing.{understood}
use Rattle.sqlite.specs.State.{State, HasCleanDisk, Shown, ShowsRows, IsUnchanged, Survives, CommitsShowing}
use Rattle.sqlite.specs.Clock.{timed}
use Rattle.sqlite.proofs.Callers.{IsPlain, reads_as, never_commits}
use Rattle.keep_sqlite.specs.Table.{item_schema}
use Rattle.keep_sqlite.specs.Selections.{shown_cmp, id_cmp, shown_row, shown_id}
use Rattle.keep_sqlite.proofs.Texts.{select_text, select_query, select_is, select_plain, ids_text, ids_query, ids_is, ids_plain}
use Rattle.keep_sqlite.proofs.Crashes.{survives_as}
use Rattle.keep_sqlite.proofs.Parts.{one_table, map_map}
use Rattle.keep_sqlite.proofs.Sorting.{in_order, ids_in_order}

all_pass : (rows : List Row) → filter (λ _. true) rows ≡ rows
all_pass [] = refl
all_pass (r ∷ rs) = ap (λ xs. r ∷ xs) (all_pass rs)

shown_in_order : (db : Trees) (q : Query) (rows kept : List Row) (all ordered : List Output) → IsPermutation all ordered → map (λ (o : Output). o.1) all ≡ kept → rows ≡ map (λ (o : Output). o.1) ordered → IsPermutation kept rows
shown_in_order db q rows kept all ordered same front back =
    subst (IsPermutation kept) (sym back) (subst (λ k. IsPermutation k (map (λ (o : Output). o.1) ordered)) front (IsPermutation-map (λ (o : Output). o.1) all ordered same))

select_kept : (db : Trees) (rows : List Row) (a : IsAnswer select_query (overlay db []) [] rows) → a.kept ≡ map (λ r. output select_query ([] ∷ r ∷ [])) (db 0)
select_kept db rows a =
    let staged : a.staged ≡ map (λ r. [] ∷ r ∷ []) (db 0) = a.grouped ∙ one_table [] (λ _. true) (db 0) ∙ ap (map (λ r. [] ∷ r ∷ [])) (all_pass (db 0)) in
    a.distinct ∙ ap (map (output select_query)) staged ∙ map_map (λ r. [] ∷ r ∷ []) (output select_query) (db 0)

select_answer : (db : Trees) (rows : List Row) → IsAnswer select_query (overlay db []) [] rows → IsPermutation (map shown_row (db 0)) rows
select_answer db rows a =
    shown_in_order db select_query rows (map shown_row (db 0)) a.kept a.ordered a.same (ap (map (λ (o : Output). o.1)) (select_kept db rows a) ∙ map_map (λ r. output select_query ([] ∷ r ∷ [])) (λ (o : Output). o.1) (db 0)) a.shown

select_order : (db : Trees) (rows : List Row) → IsAnswer select_query (overlay db []) [] rows → IsSorted shown_cmp rows
select_order db rows a = in_order (db 0) a.kept a.ordered rows (select_kept db rows a) a.same a.sorted a.shown

ids_kept : (db : Trees) (rows : List Row) (a : IsAnswer ids_query (overlay db []) [] rows) → a.kept ≡ map (λ r. output ids_query ([] ∷ r ∷ [])) (db 0)
ids_kept db rows a =
    let staged : a.staged ≡ map (λ r. [] ∷ r ∷ []) (db 0) = a.grouped ∙ one_table [] (λ _. true) (db 0) ∙ ap (map (λ r. [] ∷ r ∷ [])) (all_pass (db 0)) in
    a.distinct ∙ ap (map (output ids_query)) staged ∙ map_map (λ r. [] ∷ r ∷ []) (output ids_query) (db 0)

ids_answer : (db : Trees) (rows : List Row) → IsAnswer ids_query (overlay db []) [] rows → IsPermutation (map shown_id (db 0)) rows
ids_answer db rows a =
    shown_in_order db ids_query rows (map shown_id (db 0)) a.kept a.ordered a.same (ap (map (λ (o : Output). o.1)) (ids_kept db rows a) ∙ map_map (λ r. output ids_query ([] ∷ r ∷ [])) (λ (o : Output). o.1) (db 0)) a.shown

ids_order : (db : Trees) (rows : List Row) → IsAnswer ids_query (overlay db []) [] rows → IsSorted id_cmp rows
ids_order db rows a = ids_in_order (db 0) a.kept a.ordered rows (ids_kept db rows a) a.same a.sorted a.shown

-- a query changes nothing
pub unchanged : (sql : List ℕ) (params : Row) (old new : State) (rows : List Row) → IsPlain (understood old.now.schema sql) → Shown sql params old new rows → IsUnchanged old new
unfolding Shown
unchanged sql params old new rows plain h =
    let none = (subst IsPlain h.1.is plain).0 in
    (subst (ShowsRows old new sql h.0 (timed params h.0.formats h.1.now) rows) none h.2).3

module _ (old new : State) (rows : List Row) (has : old.now.schema ≡ item_schema) where
  pub selects : Shown select_text [] old new rows → IsPermutation (map shown_row (old.now.trees 0)) rows × IsUnchanged old new
  selects h = (
    select_answer old.now.trees rows ((reads_as select_text [] old new item_schema has _ select_is.0 select_plain select_is.1 rows h).answer Null),
    unchanged select_text [] old new rows (subst (λ s. IsPlain (understood s select_text)) (sym has) select_plain) h,
  )

  pub selects_in_order : Shown select_text [] old new rows → IsSorted shown_cmp rows
  selects_in_order h = select_order old.now.trees rows ((reads_as select_text [] old new item_schema has _ select_is.0 select_plain select_is.1 rows h).answer Null)

  pub selects_ids : Shown ids_text [] old new rows → IsPermutation (map shown_id (old.now.trees 0)) rows × IsUnchanged old new
  selects_ids h = (
    ids_answer old.now.trees rows ((reads_as ids_text [] old new item_schema has _ ids_is.0 ids_plain ids_is.1 rows h).answer Null),
    unchanged ids_text [] old new rows (subst (λ s. IsPlain (understood s ids_text)) (sym has) ids_plain) h,
  )

  pub selects_ids_in_order : Shown ids_text [] old new rows → IsSorted id_cmp rows
  selects_ids_in_order h = ids_order old.now.trees rows ((reads_as ids_text [] old new item_schema has _ ids_is.0 ids_plain ids_is.1 rows h).answer Null)

-- what a selection of a database with our schema commits: nothing
module _ {P : Trees → Type 0} (old new : State) (has : HasCleanDisk new → old.now.schema ≡ item_schema) where
  pub select_leaves : Survives old new (CommitsShowing select_text [] old) → Survives old new P
  select_leaves s = survives_as old new (λ clean db shows. absurd (never_commits select_text [] old db (subst (λ k. IsPlain (understood k select_text)) (sym (has clean)) select_plain) shows)) s

  pub select_ids_leaves : Survives old new (CommitsShowing ids_text [] old) → Survives old new P
  select_ids_leaves s = survives_as old new (λ clean db shows. absurd (never_commits ids_text [] old db (subst (λ k. IsPlain (understood k ids_text)) (sym (has clean)) ids_plain) shows)) s
