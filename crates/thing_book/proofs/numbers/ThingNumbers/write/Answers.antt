use Rattle.std.proofs.Common.{◌≡◌, length, take, subst, sym, arith}
use Rattle.std.proofs.lemmas.List.{length-take-le}
use Rattle.thing_book.proofs.NumberLaws.{none_yet, next_number, all_numbers, length_numbers}
use Rattle.thing_book.specs.Numbers.{AreNumbersOf}
use Rattle.thing_book.proofs.numbers.ThingNumbers.write.Goals as goal

pub loop-thing-init : goal.loop-thing-init
loop-thing-init c = subst (λ ns. AreNumbersOf _ ns) (sym c.clear.ensures) none_yet

pub push-requires : goal.push-requires
push-requires c =
    let things = c.args.things.now in
    let i = c.loop-thing.thing-index in
    let short : length (take i things) ≡ i = length-take-le i things (omega arith) in
    omega (arith, c.requires, length_numbers (take i things) c.loop-thing.self c.loop-thing.invariant)

pub loop-thing-preserved : goal.loop-thing-preserved
loop-thing-preserved c =
    next_number c.args.things.now c.loop-thing.self c.push.new.self c.loop-thing.thing-index c.thing-item.result (omega arith) c.thing-item.is c.loop-thing.invariant c.push.ensures.number c.push.ensures.octets

pub returns : goal.returns
returns c = all_numbers c.args.things.now c.loop-thing.self c.loop-thing.thing-index (omega arith) c.loop-thing.invariant
