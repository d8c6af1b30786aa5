use Rattle.std.proofs.Common.{◌≡◌, ◌+◌, List, ℕ, Option, subst, sym, ◌∙◌, arith}
use Rattle.acl_model.specs.Policies.{UrlPolicy}
use Rattle.acl_rows.specs.declared.row.Owner.TheVariants.{Url}
use Rattle.acl_rows.specs.Rows.{held_by}
use Rattle.acl_compile.proofs.UrlSlotLaws.{AreGuessedTo, at_slot, all_guessed, none_guessed, one_guessed}
use Rattle.acl_compile.proofs.url_slots.SlotGuesses.write.Goals.{in-Some, in_default}
use Rattle.acl_compile.proofs.url_slots.SlotGuesses.write.Goals as goal

pub loop-index-init : goal.loop-index-init
loop-index-init c = λ i held lt. absurd (omega arith)

pub loop-index-preserved : goal.loop-index-preserved
loop-index-preserved c =
    let slots = c.args.slots.now in
    let k = c.loop-index.index in
    let slot = c.index-slots-index.result in
    let there : held_by slots (Url k) ≡ slot = at_slot slots k slot c.loop-index-test.true c.index-slots-index.is in
    elim c.match-slot.branch [
      | in-Some w ↦ subst (AreGuessedTo (k + 1) slots) (sym w.self-is) (one_guessed k slots c.loop-index.self c.loop-index.invariant w.in-Some.held (there ∙ w.in-Some.is) w.keep.new.self w.keep.ensures.own w.keep.ensures.others)
      | in_default w ↦ subst (AreGuessedTo (k + 1) slots) (sym w.self-is) (none_guessed k slots c.loop-index.self c.loop-index.invariant (there ∙ w.in_default.is))
    ]

pub returns : goal.returns
returns c = all_guessed c.loop-index.index c.args.slots.now c.loop-index.self c.loop-index-test.false c.loop-index.invariant
