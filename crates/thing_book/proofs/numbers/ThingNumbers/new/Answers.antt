use Rattle.std.proofs.Common.{ℕ}
use Rattle.std.proofs.lemmas.List.{length-replicate}
use Rattle.thing_book.proofs.NumberLaws.{none_spotted}
use Rattle.thing_book.proofs.numbers.ThingNumbers.new.Goals as goal

pub invariant_of-result : goal.invariant_of-result
invariant_of-result c = none_spotted _ (length-replicate {A = ℕ} 512 0)
