use Rattle.std.proofs.Common.{◌≡◌, ◌++◌, drop}
use Rattle.table_model.specs.ThingChanges.{released_holders}
use Rattle.thing_book.proofs.leases.released_holders.Given as goal

abbrev pub invariant-loop-thing : goal.invariant-loop-thing
invariant-loop-thing l = l.made ++ released_holders l.addr (drop l.thing-index l.things) ≡ released_holders l.addr l.things
