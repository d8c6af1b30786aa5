-- What holds of what was made holds where its want of memory is told as a refusal.
use Rattle.std.proofs.Common.{◌≡◌, Result, Ok, Err, Option, Some, subst}
use Rattle.std.specs.Prelude.{IfOk}
use Rattle.std.proofs.lemmas.Result.{IfOk-at_ok}
use Rattle.base_rows.specs.Changes.{RowChange}
use Rattle.table_model.specs.declared.thing.Thing.{Thing}
use Rattle.table_model.specs.ThingCommands.{ThingStep}
use Rattle.thing_book.specs.declared.plan.Plan.{Plan}
use Rattle.thing_book.specs.RowChanges.{IsSaid}

pub carried : {T E F : Type 0} (P : T → Type 0) (made : Result T E) (result : Result T F) → IfOk made P → IfOk result (λ value. made ≡ Ok value) → IfOk result P
carried P made (Ok value) holds is = IfOk-at_ok P is holds
carried P made (Err fault) holds is = tt

-- what is said for what was found is said for what was looked up
pub for_found : {A F : Type 0} (steps : Option A → ThingStep) (rows : Option A → RowChange Thing) (found : Option A) (thing : A) (result : Result Plan F)
    → Some thing ≡ found → IfOk result (IsSaid (steps (Some thing)) (rows (Some thing))) → IfOk result (IsSaid (steps found) (rows found))
for_found steps rows found thing result at said = subst (λ o. IfOk result (IsSaid (steps o) (rows o))) at said

pub carried_found : {A E F : Type 0} (steps : Option A → ThingStep) (rows : Option A → RowChange Thing) (found : Option A) (thing : A) (made : Result Plan E) (result : Result Plan F)
    → Some thing ≡ found → IfOk made (IsSaid (steps (Some thing)) (rows (Some thing))) → IfOk result (λ plan. made ≡ Ok plan) → IfOk result (IsSaid (steps found) (rows found))
carried_found steps rows found thing made result at said is =
    for_found steps rows found thing result at (carried (IsSaid (steps (Some thing)) (rows (Some thing))) made result said is)
