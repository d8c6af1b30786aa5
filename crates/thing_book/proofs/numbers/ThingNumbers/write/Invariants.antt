use Rattle.std.proofs.Common.{take}
use Rattle.thing_book.specs.Numbers.{AreNumbersOf}
use Rattle.thing_book.proofs.numbers.ThingNumbers.write.Given as goal

abbrev pub invariant-loop-thing : goal.invariant-loop-thing
invariant-loop-thing l = AreNumbersOf (take l.thing-index l.things) l.self
