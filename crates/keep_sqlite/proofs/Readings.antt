-- What the calls of an open leave.
use Rattle.std.proofs.Common.{◌≡◌, ◌⊎◌, inl, inr, ℕ, suc, ◌+◌, ℤ, List, [], ◌∷◌, length, Option, Some, None, IsTrue, false, sym, ap, subst, ◌∙◌, arith}
use Rattle.std.proofs.Common.{get_or, Err}
use Rattle.std.specs.List.{AllByRecursion, AllAdjacentBelow}
use Rattle.std.specs.Ordering.{int_cmp}
use Rattle.std.specs.declared.cmp.Ordering.TheVariants.{Less, Equal}
use Rattle.std.proofs.lemmas.Bool.{cases_Bool}
use Rattle.std.proofs.lemmas.Cmp.{int_cmp_total}
use Rattle.sqlite.specs.declared.error.Error.{Error}
use Rattle.sqlite_schema.specs.declared.command.Returning.{Returning}
use Rattle.sqlite_value.specs.Order.{Row}
use Rattle.sqlite.specs.State.{State, Executes, ExecutesIn, shows_rows, Shown, ShowsRows, FailsToQuery, FailsToShow, IsNotRun, IsUnchanged, Fails}
use Rattle.sqlite.specs.Clock.{timed}
use Rattle.keep_sqlite.specs.Selections.{AreUnequal}
use Rattle.keep_sqlite.specs.Batches.{Stays}
use Rattle.keep_sqlite.proofs.Ids.{int_itself}

pub shown_open : (sql : List ℕ) (params : Row) (old new : State) (rows : List Row) → Shown sql params old new rows → IsTrue old.is_open
unfolding Shown
shown_open sql params old new rows h = by h.0.returning h.2
  where
    by : (o : Option Returning) → ShowsRows old new sql h.0 (timed params h.0.formats h.1.now) rows o → IsTrue old.is_open
    by None it = it.3.0.was_open
    by (Some what) it = it.1.shown.was_open

pub unchanged_stays : (old new : State) → IsUnchanged old new → Stays old new
unchanged_stays old new same = record { was_open = λ _. same.0.was_open; now_is = λ _ _. same.0.now_is; committed_is = λ _. same.0.committed_is }

fails_stays : (old new : State) (too_big : Type 0) (e : Error) → Fails old new too_big e → Stays old new
fails_stays old new too_big e h = record { was_open = h.3.was_open; now_is = λ o settled. (h.3.undone o).0 ∙ sym settled; committed_is = λ o. (h.3.undone o).1 }

pub executed_stays : (sql : List ℕ) (params : Row) (old new : State) (e : Error) → Executes sql params old new (Err e) → Stays old new
unfolding ExecutesIn IsNotRun
executed_stays sql params old new e (inl (inl none)) = unchanged_stays old new none.1
executed_stays sql params old new e (inl (inr fails)) = fails_stays old new _ e fails
executed_stays sql params old new e (inr h) = elim (cases_Bool (shows_rows false h.0)) [
  | inl shows ↦ unchanged_stays old new (rw shows at h.2).1
  | inr runs ↦ by (rw runs at h.2)
]
  where
    by : {X Y : Type 0} → ((X × IsUnchanged old new) ⊎ Fails old new Y e) → Stays old new
    by (inl none) = unchanged_stays old new none.1
    by (inr fails) = fails_stays old new _ e fails

pub failed_stays : (sql : List ℕ) (params : Row) (old new : State) (e : Error) → FailsToQuery sql params old new e → Stays old new
unfolding FailsToQuery IsNotRun
failed_stays sql params old new e (inl (inl none)) = unchanged_stays old new none.1
failed_stays sql params old new e (inl (inr fails)) = fails_stays old new _ e fails
failed_stays sql params old new e (inr h) = by h.0.returning h.2
  where
    by : (o : Option Returning) → FailsToShow old new sql h.0 (timed params h.0.formats h.1.now) e o → Stays old new
    by None it = unchanged_stays old new it.3
    by (Some what) (inl it) = unchanged_stays old new it.1
    by (Some what) (inr it) = fails_stays old new _ e it

-- ---- numbers that rise

abbrev Above : ℤ → List ℤ → Type 0
Above n ms = AllByRecursion (λ m. int_cmp n m ≡ Less) ms

abbrev Climb : List ℤ → Type 0
Climb [] = Unit {0}
Climb (n ∷ ns) = Above n ns × Climb ns

above_more : (n m : ℤ) (ms : List ℤ) → int_cmp n m ≡ Less → Above m ms → Above n ms
above_more n m [] lt above = tt
above_more n m (k ∷ ms) lt above = (int_cmp_total.trans n m k lt above.0, above_more n m ms lt above.1)

climb_from : (ns : List ℤ) → AllAdjacentBelow (λ x y. int_cmp x y ≡ Less) ns (length ns) → Climb ns
climb_from [] near = tt
climb_from (x ∷ []) near = (tt, tt)
climb_from (x ∷ (y ∷ ys)) near =
    let lt : int_cmp x y ≡ Less = near 0 x (omega arith) in
    let rest : Climb (y ∷ ys) = climb_from (y ∷ ys) (λ k d h.
    subst (λ n. int_cmp (get_or (y ∷ ys) k d) (get_or (x ∷ (y ∷ ys)) n d) ≡ Less) {x = suc k + 1} {y = suc (k + 1)} (omega arith) (near (suc k) d (omega arith))) in
    ((lt, above_more x y ys lt rest.0), rest)

apart : (n : ℤ) (ms : List ℤ) → Above n ms → AllByRecursion (λ m. n ≡ m → ⊥) ms
apart n [] above = tt
apart n (m ∷ ms) above = ((λ same. let e : Less ≡ Equal = sym above.0 ∙ ap (int_cmp n) (sym same) ∙ int_itself n in absurd cc), apart n ms above.1)

pub rise_from : (ns : List ℤ) → AllAdjacentBelow (λ x y. int_cmp x y ≡ Less) ns (length ns) → AreUnequal ns
rise_from ns near = by ns (climb_from ns near)
  where
    by : (ns : List ℤ) → Climb ns → AreUnequal ns
    by [] climb = tt
    by (n ∷ ns) climb = (apart n ns climb.0, by ns climb.1)
