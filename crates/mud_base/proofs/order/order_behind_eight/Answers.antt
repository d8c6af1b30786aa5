use Rattle.std.proofs.Common.{◌≡◌, ℕ, zero, suc, ◌-◌, ◌≤◌, List, drop, refl, sym, ap₂, ◌∙◌, arith}
use Rattle.std.specs.Cmp.Lexicographic.{slice_cmp}
use Rattle.std.specs.Ordering.{nat_cmp}
use Rattle.mud_base.specs.Numbers.{big_64}
use Rattle.mud_base.proofs.OctetOrder.{eights_apart, eights_alike, lengths_decide}
use Rattle.mud_base.proofs.order.order_behind_eight.Goals as goal

from_first : (xs ys : List ℕ) (k : ℕ) → k ≤ 0 → slice_cmp nat_cmp (drop k xs) (drop k ys) ≡ slice_cmp nat_cmp xs ys
from_first xs ys zero le = refl
from_first xs ys (suc k) le = absurd (omega (arith, le))

pub loop-offset-init : goal.loop-offset-init
loop-offset-init c =
    let own : List ℕ = c.args.own.now in
    let other : List ℕ = c.args.other.now in
    record {
      least = c.min-both.ensures;
      within = omega arith;
      long = omega arith;
      left = eights_alike 0 own other (omega arith) (omega arith) (λ k. (c.type_inv.own k).fits) (λ k. (c.type_inv.other k).fits) c.requires.same (from_first own other);
    }

pub returns-then-eight-other_eight : goal.returns-then-eight-other_eight
returns-then-eight-other_eight c =
    let own : List ℕ = c.args.own.now in
    let other : List ℕ = c.args.other.now in
    let offset : ℕ = c.loop-offset.offset in
    let differ = λ (same : big_64 offset own ≡ big_64 offset other). c.if-eight-other_eight.true (c.big_64-eight.ensures ∙ same ∙ sym c.big_64-other_eight.ensures) in
    c.cmp.ensures ∙ ap₂ nat_cmp c.big_64-eight.ensures c.big_64-other_eight.ensures
    ∙ eights_apart offset own other (omega arith) (omega arith) (λ k. (c.type_inv.own k).fits) (λ k. (c.type_inv.other k).fits) differ
    ∙ c.loop-offset.invariant.left offset (omega arith)

pub loop-offset-preserved : goal.loop-offset-preserved
loop-offset-preserved c =
    let own : List ℕ = c.args.own.now in
    let other : List ℕ = c.args.other.now in
    let offset : ℕ = c.loop-offset.offset in
    let same : big_64 offset own ≡ big_64 offset other = sym c.big_64-eight.ensures ∙ c.if-eight-other_eight.false ∙ c.big_64-other_eight.ensures in
    record {
      least = c.loop-offset.invariant.least;
      within = omega arith;
      long = c.loop-offset.invariant.long;
      left = eights_alike offset own other (omega arith) (omega arith) (λ k. (c.type_inv.own k).fits) (λ k. (c.type_inv.other k).fits) same c.loop-offset.invariant.left;
    }

pub returns-then-last-other_last : goal.returns-then-last-other_last
returns-then-last-other_last c =
    let own : List ℕ = c.args.own.now in
    let other : List ℕ = c.args.other.now in
    let offset : ℕ = c.min-both.result - 8 in
    let differ = λ (same : big_64 offset own ≡ big_64 offset other). c.if-last-other_last.true (c.big_64-last.ensures ∙ same ∙ sym c.big_64-other_last.ensures) in
    c.cmp-then-last-other_last.ensures ∙ ap₂ nat_cmp c.big_64-last.ensures c.big_64-other_last.ensures
    ∙ eights_apart offset own other (omega arith) (omega arith) (λ k. (c.type_inv.own k).fits) (λ k. (c.type_inv.other k).fits) differ
    ∙ c.loop-offset.invariant.left offset (omega arith)

pub returns : goal.returns
returns c =
    let own : List ℕ = c.args.own.now in
    let other : List ℕ = c.args.other.now in
    let offset : ℕ = c.min-both.result - 8 in
    let same : big_64 offset own ≡ big_64 offset other = sym c.big_64-last.ensures ∙ c.if-last-other_last.false ∙ c.big_64-other_last.ensures in
    let before = λ (k : ℕ) (le : k ≤ offset). c.loop-offset.invariant.left k (omega arith) in
    c.cmp-2.ensures ∙ lengths_decide c.min-both.result own other c.min-both.ensures
    ∙ eights_alike offset own other (omega arith) (omega arith) (λ k. (c.type_inv.own k).fits) (λ k. (c.type_inv.other k).fits) same before c.min-both.result (omega arith)
