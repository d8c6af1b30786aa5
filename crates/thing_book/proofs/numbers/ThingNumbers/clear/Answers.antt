use Rattle.thing_book.proofs.NumberLaws.{none_spotted}
use Rattle.thing_book.proofs.numbers.ThingNumbers.clear.Goals as goal

pub invariant_of-self : goal.invariant_of-self
invariant_of-self c = none_spotted c.self.inside.room c.self.invariant.room_is
