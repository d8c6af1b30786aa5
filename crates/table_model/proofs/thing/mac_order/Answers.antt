use Rattle.std.proofs.Common.{◌≡◌, refl, sym, ◌∙◌, arith}
use Rattle.table_model.proofs.thing.mac_order.Goals as goal
use Rattle.base_rows.proofs.Orders.{alike, apart, behind}

-- src/thing.rt:16:5
pub loop-n-init : goal.loop-n-init
loop-n-init c = (omega arith, refl)

-- src/thing.rt:18:13
pub returns-then-own-n : goal.returns-then-own-n
returns-then-own-n c = c.cmp.ensures ∙ apart c.loop-n.n c.args.own.now.0 c.args.other.now.0 (omega arith) (omega arith) c.if-own-n.true ∙ c.loop-n.invariant.1

-- src/thing.rt:16:5
pub loop-n-preserved : goal.loop-n-preserved
loop-n-preserved c = (omega arith, sym (alike c.loop-n.n c.args.own.now.0 c.args.other.now.0 (omega arith) (omega arith) c.if-own-n.false) ∙ c.loop-n.invariant.1)

-- src/thing.rt:12:1
pub returns : goal.returns
returns c =
    let all : c.loop-n.n ≡ 6 = omega (arith, c.loop-n.invariant.0, c.loop-n-test.false)
    in sym (behind c.loop-n.n c.args.own.now.0 c.args.other.now.0 (omega (arith, all)) (omega (arith, all))) ∙ c.loop-n.invariant.1
