use Rattle.std.proofs.Common.{◌≡◌, ℕ, ◌%◌, ◌≤◌, length, take, subst, arith}
use Rattle.thing_book.specs.Numbers.{IsShared}
use Rattle.thing_book.proofs.NumberLaws.{shared_taken}
use Rattle.thing_book.proofs.numbers.ThingNumbers.find.Goals as goal

pub found_in-requires-clause-shared : goal.found_in-requires-clause-shared
found_in-requires-clause-shared c =
    let spots = c.self.inside.spots in
    let spot = c.spot_of.result in
    let is : spot ≡ c.number_of-number.result % 2048 = c.spot_of.ensures.value in
    let room = c.self.inside.room in
    let count = c.self.inside.count in
    let fits : count ≤ length room = omega (arith, c.self.invariant.room_is, c.self.invariant.within) in
    subst (λ (s : ℕ). IsShared (take count room) (length (take count room)) s) is
    (shared_taken room count spot fits (c.self.invariant.shared spot c.spot_of.ensures.within c.if-spot.true))
