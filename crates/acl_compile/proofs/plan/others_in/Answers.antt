use Rattle.std.proofs.Common.{ℕ, Bool, cond, ap, sym, ◌∙◌, arith}
use Rattle.acl_compile.proofs.SlotLaws.{next_other, no_other}
use Rattle.acl_compile.proofs.plan.others_in.Goals as goal
use Rattle.acl_compile.proofs.plan.others_in.Goals.{then-is_other, else-is_other}

abbrev one : Bool → ℕ
one b = cond b 1 0

pub loop-slot-preserved : goal.loop-slot-preserved
loop-slot-preserved c =
    let next = next_other c.args.url.now c.args.slots.now c.loop-slot.slot-index c.slot-item.result c.loop-slot-test.true c.slot-item.is in
    record {
      counted = elim c.if-is_other.branch [
        | then-is_other w ↦ omega (arith, c.loop-slot.invariant.counted, next, w.count-is, ap one (sym c.is_other.ensures ∙ w.if-is_other.true))
        | else-is_other w ↦ omega (arith, c.loop-slot.invariant.counted, next, w.count-is, ap one (sym c.is_other.ensures ∙ w.if-is_other.false))
      ];
      few = elim c.if-is_other.branch [
        | then-is_other w ↦ omega (arith, c.loop-slot.invariant.few, w.count-is)
        | else-is_other w ↦ omega (arith, c.loop-slot.invariant.few, w.count-is)
      ];
    }

pub returns : goal.returns
returns c = no_other c.args.url.now c.args.slots.now c.loop-slot.slot-index c.loop-slot.count c.loop-slot-test.false c.loop-slot.invariant.counted
