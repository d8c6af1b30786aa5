use Rattle.acl_compile.proofs.UrlSlotLaws.{AreGuessedTo}
use Rattle.acl_compile.proofs.url_slots.SlotGuesses.write.Given as goal

abbrev pub invariant-loop-index : goal.invariant-loop-index
invariant-loop-index l = AreGuessedTo l.index l.slots l.self
