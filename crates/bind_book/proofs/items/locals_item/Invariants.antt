use Rattle.std.proofs.Common.{◌≡◌, ◌++◌, length, take}
use Rattle.std.specs.Prelude.{flat_map}
use Rattle.item_codec.specs.Spelling.{version, list}
use Rattle.bind_book.proofs.items.locals_item.Given as goal
use Rattle.table_model.proofs.Parts.{network}

abbrev pub invariant-loop-prefix : goal.invariant-loop-prefix
invariant-loop-prefix l = l.body ≡ version ++ list (length l.locals) ++ flat_map network (take l.prefix-index l.locals)
