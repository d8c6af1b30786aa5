use Rattle.bind_book.proofs.ReadLaws.{IsRest}
use Rattle.bind_book.proofs.read.list_in.Given as goal

abbrev pub invariant-loop-left : goal.invariant-loop-left
invariant-loop-left g l = IsRest g.T.Element.element_in l.body l.list l.left l.reader

abbrev pub decreases-loop-left : goal.decreases-loop-left
decreases-loop-left g l = l.left
