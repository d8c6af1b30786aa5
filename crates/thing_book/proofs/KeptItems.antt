-- The puts of a change of rows that can be kept are the difference of their items: the items tell such rows apart.
use Rattle.std.proofs.Common.{◌≡◌, ℕ, List, [], ◌∷◌, map, Option, Some, None, IsTrue, refl, sym, ap, ◌∙◌}
use Rattle.std.specs.Prelude.{IfSome}
use Rattle.std.specs.List.{AllByRecursion}
use Rattle.std.specs.Option.{option_map}
use Rattle.std.proofs.lemmas.Option.{same_Some, none-some}
use Rattle.std.proofs.lemmas.List.Elements.{All-from_recursion}
use Rattle.base_rows.specs.Sortable.{row_at, SortKeysAscend}
use Rattle.base_rows.specs.Changes.{RowChange, IsNeededChange, changed, with_found, is_plain}
use Rattle.mud_world.specs.declared.item.Item.{Item}
use Rattle.mud_world.specs.declared.item.Put.{Put}
use Rattle.mud_world.specs.declared.item.Put.TheVariants.{Set, Gone}
use Rattle.mud_world.specs.Items.{sort_key_of, put_one, IsDifference, AreItemsOf, set_put, gone_put, puts_of}
use Rattle.mud_world.proofs.ItemLaws.{same_put, puts_kept, puts_apart, row_at-items, ordered-items}
use Rattle.table_model.proofs.RowSets.{all_at}

module _ {R : Type 0} (sort_key : R → List ℕ) (kind : ℕ) (item : R → Item) (of : AreItemsOf sort_key kind item) (Kept : R → Type 0) (one : (x y : R) → Kept x → Kept y → item x ≡ item y → x ≡ y) where
  abbrev IsNeeded : List Item → Put → Type 0
  IsNeeded before put = put_one before put ≡ before → ⊥

  told_none : (o : Option R) → option_map item o ≡ None → o ≡ None
  told_none None e = refl
  told_none (Some y) e = absurd (none-some (item y) (sym e))

  told_apart : (rows : List R) → AllByRecursion Kept rows → (x : R) → Kept x → (p : List ℕ) (o : Option R) → row_at sort_key p rows ≡ o → option_map item o ≡ Some (item x) → o ≡ Some x
  told_apart rows kept x kept' p None found e = absurd (none-some (item x) e)
  told_apart rows kept x kept' p (Some y) found e = ap Some (one y x (all_at sort_key Kept rows p y kept found) kept' (same_Some (item y) (item x) e))

  module _ (rows : List R) (up : SortKeysAscend sort_key rows) (kept : AllByRecursion Kept rows) where
    sets_needed : (sets : List R) → AllByRecursion Kept sets → AllByRecursion (λ row. row_at sort_key (sort_key row) rows ≡ Some row → ⊥) sets → AllByRecursion (IsNeeded (map item rows)) (map (set_put item) sets)
    unfolding set_put
    sets_needed [] kept' all = tt
    sets_needed (x ∷ xs) kept' all = (
      λ same. all.0 (told_apart rows kept x kept'.0 (sort_key x) (row_at sort_key (sort_key x) rows) refl
          (sym (row_at-items sort_key kind item of (sort_key x) rows) ∙ ap (λ p. row_at sort_key_of p (map item rows)) (sym (of x)) ∙ same_put (map item rows) (Set (item x)) (ordered-items sort_key kind item of rows up) same)),
      sets_needed xs kept'.1 all.1,
    )

    puts_needed : (gone : Option (List ℕ)) (sets : List R) → AllByRecursion Kept sets → IfSome gone (λ p. row_at sort_key p rows ≡ None → ⊥) → AllByRecursion (λ row. row_at sort_key (sort_key row) rows ≡ Some row → ⊥) sets
        → AllByRecursion (IsNeeded (map item rows)) (with_found (option_map (gone_put kind) gone) (map (set_put item) sets))
    unfolding gone_put
    puts_needed None sets kept' there all = sets_needed sets kept' all
    puts_needed (Some p) sets kept' there all = (
      λ same. there (told_none (row_at sort_key p rows) (sym (row_at-items sort_key kind item of p rows) ∙ same_put (map item rows) (Gone kind p) (ordered-items sort_key kind item of rows up) same)),
      sets_needed sets kept' all,
    )

    pub kept_differ : (change : RowChange R) → AllByRecursion Kept change.sets → IsTrue (is_plain sort_key change) → IsNeededChange sort_key rows change → IsDifference (map item rows) (map item (changed sort_key change rows)) (puts_of kind item change)
    unfolding puts_of
    kept_differ change kept' plain needs = record {
      reaches = puts_kept sort_key kind item of change rows;
      needed = All-from_recursion (IsNeeded (map item rows)) (puts_of kind item change) (puts_needed change.gone change.sets kept' needs.gone needs.sets);
      apart = puts_apart sort_key kind item of change plain;
    }
