use Rattle.std.proofs.Common.{ℕ, ◌≡◌, ◌-◌, drop, reverse, sym, ap, ◌∙◌, arith}
use Rattle.base_rows.specs.Sortable.{sort_key_cmp}
use Rattle.acl_compile.proofs.TextOrder.{alike_end, apart_end, ends_behind}
use Rattle.acl_compile.proofs.url_slots.order_from_behind.Goals as goal

pub loop-left-init : goal.loop-left-init
loop-left-init c = (
  c.min-both.ensures,
  omega arith,
  ap (λ (n : ℕ). sort_key_cmp (drop n (reverse c.args.own.now)) (drop n (reverse c.args.other.now))) {x = c.min-both.result - c.min-both.result} {y = 0} (omega arith),
)

pub returns-then-end-left : goal.returns-then-end-left
returns-then-end-left c =
    c.cmp.ensures
    ∙ apart_end c.args.own.now c.args.other.now c.min-both.result c.loop-left.left (omega (arith, c.min-both.ensures)) (omega (arith, c.min-both.ensures)) c.loop-left-test.true c.loop-left.invariant.1 c.if-end-left.true
    ∙ c.loop-left.invariant.2

pub loop-left-preserved : goal.loop-left-preserved
loop-left-preserved c = (
  c.min-both.ensures,
  omega (arith, c.loop-left.invariant.1),
  sym (alike_end c.args.own.now c.args.other.now c.min-both.result c.loop-left.left (omega (arith, c.min-both.ensures)) (omega (arith, c.min-both.ensures)) c.loop-left-test.true c.loop-left.invariant.1 c.if-end-left.false)
      ∙ c.loop-left.invariant.2,
)

pub returns : goal.returns
returns c =
    let none : c.loop-left.left ≡ 0 = omega (arith, c.loop-left-test.false) in
    c.cmp-2.ensures
    ∙ ends_behind (c.min-both.result - c.loop-left.left) c.args.own.now c.args.other.now (omega (arith, c.min-both.ensures)) (omega (arith, c.min-both.ensures)) (λ s t. omega (arith, s, t, none, c.min-both.ensures))
    ∙ c.loop-left.invariant.2
