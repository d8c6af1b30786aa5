use Rattle.std.proofs.Common.{◌≡◌, ℤ, pos, Bool, true, false, List, IsTrue, IsSorted, refl, sym, rules}
use Rattle.std.specs.List.{IsAllAdjacentAnswer}
use Rattle.std.specs.Ordering.{is_lt, int_cmp}
use Rattle.std.proofs.lemmas.Bool.{false≢true}
use Rattle.std.proofs.lemmas.List.Sorted.{answers_always}
use Rattle.base_rows.proofs.SortableLaws.{less_from_is_lt}
use Rattle.keep_sqlite.specs.Selections.{AreUnequal}
use Rattle.keep_sqlite.proofs.Readings.{rise_from}
use Rattle.keep_sqlite.proofs.Unread.{rises_at}
use Rattle.keep_sqlite.proofs.listing.are_rising.Goals as goal

abbrev Adjacent : List ℤ → Bool → Type 0
Adjacent ids r = IsAllAdjacentAnswer (λ x y b. b ≡ is_lt (int_cmp x y)) ids r

told : (ids : List ℤ) (r : Bool) → Adjacent ids r → IsTrue r → AreUnequal ids
told ids true near held = rise_from ids (λ k d lt. less_from_is_lt _ (sym (near k d lt)))
told ids false near held = absurd (false≢true held)

back : (ids : List ℤ) (r : Bool) → Adjacent ids r → IsSorted int_cmp ids → AreUnequal ids → IsTrue r
back ids true near sorted apart = refl
back ids false near sorted apart = absurd (rises_at ids sorted apart near.0 (pos 0) near.1 (sym (near.2 (pos 0))))

pub returns : goal.returns
returns c =
    let near : Adjacent c.args.ids.now c.is_sorted_by.result = c.is_sorted_by.ensures.cases (λ x y. is_lt (int_cmp x y)) (answers_always _ _ _ (λ f a r q h. search rules)) in
    record {
      unequal = told c.args.ids.now c.is_sorted_by.result near;
      back = back c.args.ids.now c.is_sorted_by.result near;
    }
