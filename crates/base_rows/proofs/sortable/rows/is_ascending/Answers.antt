use Rattle.std.proofs.Common.{◌≡◌, ℕ, Bool, true, false, List, [], ◌∷◌, IsTrue, refl, sym, ap, ◌∙◌, arith, rules}
use Rattle.std.specs.List.{IsAllAdjacentAnswer}
use Rattle.std.specs.Ordering.{is_lt}
use Rattle.std.proofs.lemmas.Bool.{false≢true}
use Rattle.std.proofs.lemmas.List.Sorted.{answers_always}
use Rattle.base_rows.specs.Sortable.{sort_key_cmp, SortKeysAscend}
use Rattle.base_rows.proofs.SortableLaws.{less_from_is_lt, ascend_from_neighbours, neighbours_from_ascend}
use Rattle.base_rows.proofs.sortable.rows.is_ascending.Goals as goal

-- the test of each pair of neighbours tells whether the rows ascend
told : {R : Type 0} (sort_key : R → List ℕ) (rows : List R) (r : Bool) → IsAllAdjacentAnswer (λ x y b. b ≡ is_lt (sort_key_cmp (sort_key x) (sort_key y))) rows r → (IsTrue r → SortKeysAscend sort_key rows) × (SortKeysAscend sort_key rows → IsTrue r)
told sort_key rows true near = (λ _. ascend_from_neighbours sort_key rows (λ k d lt. less_from_is_lt _ (sym (near k d lt))), λ _. refl)
told sort_key [] false apart = absurd (omega (arith, apart.1))
told sort_key (x ∷ xs) false apart = (λ yes. absurd (false≢true yes), λ ascend. absurd (false≢true (apart.2 x ∙ ap is_lt (neighbours_from_ascend sort_key (x ∷ xs) ascend apart.0 x apart.1))))

pub returns : goal.returns
returns g c =
    let sort_key = g.R.Sortable.sort_key in
    told sort_key c.args.rows.now c.is_sorted_by.result (c.is_sorted_by.ensures.cases (λ x y. is_lt (sort_key_cmp (sort_key x) (sort_key y))) (answers_always _ _ _ (λ f a r q h. search rules)))
