use Rattle.std.proofs.Common.{◌≡◌, ℕ, List, sym, ap₂, ◌∙◌, arith}
use Rattle.std.specs.Ordering.{nat_cmp}
use Rattle.mud_base.specs.Numbers.{big_64}
use Rattle.mud_base.proofs.OctetOrder.{eights_apart}
use Rattle.mud_base.proofs.order.octets_order.Goals as goal

pub returns : goal.returns
returns c =
    let own : List ℕ = c.args.own.now in
    let other : List ℕ = c.args.other.now in
    let differ = λ (same : big_64 0 own ≡ big_64 0 other). c.if-eight-other_eight.false (c.big_64-eight.ensures ∙ same ∙ sym c.big_64-other_eight.ensures) in
    c.cmp-2.ensures ∙ ap₂ nat_cmp c.big_64-eight.ensures c.big_64-other_eight.ensures
    ∙ eights_apart 0 own other (omega arith) (omega arith) c.are_octets.ensures c.are_octets-2.ensures differ
