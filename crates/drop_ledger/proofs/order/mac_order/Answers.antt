use Rattle.std.proofs.Common.{◌≡◌, length, refl, sym, ◌∙◌, arith}
use Rattle.base_rows.specs.Sortable.{sort_key_cmp}
use Rattle.base_rows.proofs.Orders.{alike, apart, behind}
use Rattle.drop_ledger.proofs.SortKeyOrder.{six_all}
use Rattle.drop_ledger.proofs.order.mac_order.Goals as goal

pub loop-n-init : goal.loop-n-init
loop-n-init c = (omega arith, refl)

pub returns-then-own-n : goal.returns-then-own-n
returns-then-own-n c =
    let own : length c.args.own.now.0 ≡ 6 = omega arith in
    let other : length c.args.other.now.0 ≡ 6 = omega arith in
    c.cmp.ensures ∙ apart c.loop-n.n c.args.own.now.0 c.args.other.now.0 (omega arith) (omega arith) c.if-own-n.true ∙ c.loop-n.invariant.1
    ∙ (λ i. sort_key_cmp (sym (six_all c.args.own.now.0 own) i) (sym (six_all c.args.other.now.0 other) i))

pub loop-n-preserved : goal.loop-n-preserved
loop-n-preserved c = (omega arith, sym (alike c.loop-n.n c.args.own.now.0 c.args.other.now.0 (omega arith) (omega arith) c.if-own-n.false) ∙ c.loop-n.invariant.1)

pub returns : goal.returns
returns c =
    let all : c.loop-n.n ≡ 6 = omega (arith, c.loop-n.invariant.0, c.loop-n-test.false) in
    let own : length c.args.own.now.0 ≡ 6 = omega arith in
    let other : length c.args.other.now.0 ≡ 6 = omega arith in
    sym (behind c.loop-n.n c.args.own.now.0 c.args.other.now.0 (omega (arith, all)) (omega (arith, all))) ∙ c.loop-n.invariant.1
    ∙ (λ i. sort_key_cmp (sym (six_all c.args.own.now.0 own) i) (sym (six_all c.args.other.now.0 other) i))
