use Rattle.std.proofs.Common.{◌≡◌, List, ℕ, ◌+◌, ◌*◌, length, drop, slice_get, Some, OnOk, sym, ap, subst, ◌∙◌, arith}
use Rattle.std.specs.Prelude.{flat_map}
use Rattle.std.proofs.lemmas.Result.{on_ok_weaker}
use Rattle.acl_rows.specs.declared.row.Owner.TheVariants.{Default}
use Rattle.base_rows.specs.declared.edit.Edit.{Edit}
use Rattle.acl_rows.specs.declared.row.Row.{Row}
use Rattle.acl_rows.specs.Rows.{Slots, Holder, holders_from, held_by, default_held}
use Rattle.acl_rows.specs.declared.row.RowKey.{RowKey}
use Rattle.acl_changes.specs.Touched.{holder_touches, binding_touches}
use Rattle.acl_changes.specs.Change.{ChangeState, more_edits, slot_touches}
use Rattle.acl_changes.specs.Policies.{AllHeld}
use Rattle.acl_changes.specs.Steps.{least_steps, HolderFits}
use Rattle.acl_changes.proofs.Loops.{more_edits-append, length_times, least_steps-append, next_slot, slot_there, last_holder}
use Rattle.acl_changes.proofs.change.Change.binding_edits.Goals as goal

pub slot_edits-requires : goal.slot_edits-requires
slot_edits-requires g c = record {
  stands =
      ap (λ (s : ChangeState). slice_get s.slots c.loop-slot.n) (sym c.self.view_is)
      ∙ ap (slice_get c.self.inside.slots.now) c.loop-slot.invariant.number
      ∙ slot_there c.self.inside.slots.now c.loop-slot.slot-index c.slot-item.result (omega arith) c.slot-item.is;
}

pub returns-in_err-slot_edits-clause-most : goal.returns-in_err-slot_edits-clause-most
returns-in_err-slot_edits-clause-most g c = λ b k u few rows fit.
    let f : Holder → List RowKey = holder_touches c.args.binding.now.key c.args.binding.now.addr in
    let slots : Slots = c.self.inside.slots.now in
    let rest : List RowKey = flat_map f (holders_from (c.loop-slot.slot-index + 1) (drop (c.loop-slot.slot-index + 1) slots)) in
    let fits : AllHeld slots (λ h. HolderFits h b k u) = subst (λ (s : ChangeState). AllHeld s.slots (λ h. HolderFits h b k u)) (sym c.self.view_is) fit in
    let next = next_slot c.args.binding.now.key c.args.binding.now.addr slots c.loop-slot.slot-index c.slot-item.result (omega arith) c.slot-item.is in
    let count = ap (λ (ts : List RowKey). length ts * u) next ∙ length_times (slot_touches c.args.binding.now.key c.args.binding.now.addr c.loop-slot.slot-index c.slot-item.result) rest u in
    let here = ap (λ (m : ℕ). length (slot_touches c.args.binding.now.key c.args.binding.now.addr m c.slot-item.result) * u) c.loop-slot.invariant.number in
    let all = ap (λ (s : ChangeState). length (binding_touches s.slots c.args.binding.now) * u) c.self.view_is in
    omega (arith, c.loop-slot.invariant.most b k u few rows fits, c.slot_edits.ensures.most b k u few rows fit, count, here, all)

pub loop-slot-preserved : goal.loop-slot-preserved
loop-slot-preserved g c =
    let f : Holder → List RowKey = holder_touches c.args.binding.now.key c.args.binding.now.addr in
    let slots : Slots = c.self.inside.slots.now in
    let rest : List RowKey = flat_map f (holders_from (c.loop-slot.slot-index + 1) (drop (c.loop-slot.slot-index + 1) slots)) in
    let next = next_slot c.args.binding.now.key c.args.binding.now.addr slots c.loop-slot.slot-index c.slot-item.result (omega arith) c.slot-item.is in
    record {
      number = omega (arith, c.loop-slot.invariant.number);
      edits =
          c.loop-slot.invariant.edits
          ∙ ap (λ (ts : List RowKey). more_edits c.args.self.now ts c.loop-slot.edits.rows) next
          ∙ more_edits-append c.args.self.now (slot_touches c.args.binding.now.key c.args.binding.now.addr c.loop-slot.slot-index c.slot-item.result) rest c.loop-slot.edits.rows
          ∙ ap (more_edits c.args.self.now rest) (sym (c.in_ok-slot_edits.ensures.ok ∙ ap (λ (m : ℕ). more_edits c.args.self.now (slot_touches c.args.binding.now.key c.args.binding.now.addr m c.slot-item.result) c.loop-slot.edits.rows) c.loop-slot.invariant.number));
      read =
          (let count = ap (least_steps c.args.self.now.rows) next ∙ least_steps-append c.args.self.now.rows (slot_touches c.args.binding.now.key c.args.binding.now.addr c.loop-slot.slot-index c.slot-item.result) rest in
          let here = ap (λ (m : ℕ). least_steps c.args.self.now.rows (slot_touches c.args.binding.now.key c.args.binding.now.addr m c.slot-item.result)) c.loop-slot.invariant.number in
          omega (arith, c.loop-slot.invariant.read, c.in_ok-slot_edits.ensures.read, count, here));
      up = omega (arith, c.loop-slot.invariant.up, c.slot_edits.ensures.least);
      most = λ b k u few rows fits.
          let fit : AllHeld c.args.self.now.slots (λ h. HolderFits h b k u) = subst (λ (s : ChangeState). AllHeld s.slots (λ h. HolderFits h b k u)) c.self.view_is fits in
          let count = ap (λ (ts : List RowKey). length ts * u) next ∙ length_times (slot_touches c.args.binding.now.key c.args.binding.now.addr c.loop-slot.slot-index c.slot-item.result) rest u in
          let here = ap (λ (m : ℕ). length (slot_touches c.args.binding.now.key c.args.binding.now.addr m c.slot-item.result) * u) c.loop-slot.invariant.number in
          omega (arith, c.loop-slot.invariant.most b k u few rows fits, c.slot_edits.ensures.most b k u few rows fit, count, here);
    }

pub holder_edits-requires : goal.holder_edits-requires
unfolding held_by
holder_edits-requires g c = ap (held_by c.args.self.now.slots) c.requires.default_owner ∙ ap Some c.requires.default_held

pub returns-clause-ok : goal.returns-clause-ok
returns-clause-ok g c =
    let is : (Default, default_held) ≡ c.args.defaults.now = λ i. (sym c.requires.default_owner i, c.requires.default_held i) in
    let last = last_holder c.args.binding.now.key c.args.binding.now.addr c.self.inside.slots.now c.loop-slot.slot-index c.args.defaults.now (omega arith) is in
    subst (λ (rows : List (Edit Row)). OnOk c.holder_edits.result (c.holder_edits.new.edits.rows ≡ rows))
    (sym (ap (λ (s : ChangeState). more_edits c.args.self.now (binding_touches s.slots c.args.binding.now) c.args.edits.now.rows) (sym c.self.view_is)
    ∙ c.loop-slot.invariant.edits
    ∙ ap (λ (ts : List RowKey). more_edits c.args.self.now ts c.loop-slot.edits.rows) last))
    c.holder_edits.ensures.ok

pub returns-clause-most : goal.returns-clause-most
unfolding held_by
returns-clause-most g c = λ b k u few rows fit.
    let fits : AllHeld c.self.inside.slots.now (λ h. HolderFits h b k u) = subst (λ (s : ChangeState). AllHeld s.slots (λ h. HolderFits h b k u)) (sym c.self.view_is) fit in
    let is : (Default, default_held) ≡ c.args.defaults.now = λ i. (sym c.requires.default_owner i, c.requires.default_held i) in
    let last = ap (λ (ts : List RowKey). length ts * u) (last_holder c.args.binding.now.key c.args.binding.now.addr c.self.inside.slots.now c.loop-slot.slot-index c.args.defaults.now (omega arith) is) in
    let own : HolderFits c.args.defaults.now b k u = subst (λ (h : Holder). HolderFits h b k u) is (fit Default default_held (λ i. Some default_held)) in
    let all = ap (λ (s : ChangeState). length (binding_touches s.slots c.args.binding.now) * u) c.self.view_is in
    omega (arith, c.loop-slot.invariant.most b k u few rows fits, c.holder_edits.ensures.most b k u few rows own, last, all)

pub returns-clause-read : goal.returns-clause-read
returns-clause-read g c =
    let is : (Default, default_held) ≡ c.args.defaults.now = λ i. (sym c.requires.default_owner i, c.requires.default_held i) in
    let last = ap (least_steps c.args.self.now.rows) (last_holder c.args.binding.now.key c.args.binding.now.addr c.self.inside.slots.now c.loop-slot.slot-index c.args.defaults.now (omega arith) is) in
    let all = ap (λ (s : ChangeState). least_steps c.args.self.now.rows (binding_touches s.slots c.args.binding.now)) c.self.view_is in
    on_ok_weaker c.holder_edits.result (λ read. omega (arith, c.loop-slot.invariant.read, read, last, all)) c.holder_edits.ensures.read
