use Rattle.std.proofs.Common.{◌≡◌, ℕ, Bool, true, false, List, [], IsTrue, refl, sym, ap, ◌∙◌, rules}
use Rattle.std.specs.List.{IsAllAdjacentAnswer}
use Rattle.std.specs.Ordering.{is_lt}
use Rattle.std.proofs.lemmas.Bool.{false≢true}
use Rattle.std.proofs.lemmas.List.Sorted.{answers_always}
use Rattle.base_rows.specs.Sortable.{sort_key_cmp, SortKeysAscend}
use Rattle.base_rows.proofs.SortableLaws.{less_from_is_lt, ascend_from_neighbours, neighbours_from_ascend}
use Rattle.mud_world.specs.Items.{sort_key_of}
use Rattle.keep_sqlite.proofs.listing.are_ordered.Goals as goal

abbrev Adjacent : {R : Type 0} → (R → List ℕ) → List R → Bool → Type 0
Adjacent sort_key rows r = IsAllAdjacentAnswer (λ x y b. b ≡ is_lt (sort_key_cmp (sort_key x) (sort_key y))) rows r

told : {R : Type 0} (sort_key : R → List ℕ) (rows : List R) (r : Bool) → Adjacent sort_key rows r → IsTrue r → SortKeysAscend sort_key rows
told sort_key rows true near held = ascend_from_neighbours sort_key rows (λ k d lt. less_from_is_lt _ (sym (near k d lt)))
told sort_key rows false near held = absurd (false≢true held)

back : {R : Type 0} (sort_key : R → List ℕ) (rows : List R) (r : Bool) → R → Adjacent sort_key rows r → SortKeysAscend sort_key rows → IsTrue r
back sort_key rows true row near up = refl
back sort_key rows false row near up = absurd (false≢true (near.2 row ∙ ap is_lt (neighbours_from_ascend sort_key rows up near.0 row near.1)))

pub returns : goal.returns
returns c =
    let near : Adjacent sort_key_of c.args.items.now c.is_sorted_by.result = c.is_sorted_by.ensures.cases (λ x y. is_lt (sort_key_cmp (sort_key_of x) (sort_key_of y))) (answers_always _ _ _ (λ f a r q h. search rules)) in
    record {
      ordered = told sort_key_of c.args.items.now c.is_sorted_by.result near;
      back = back sort_key_of c.args.items.now c.is_sorted_by.result (record { kind = 0; key = []; body = [] }) near;
    }
