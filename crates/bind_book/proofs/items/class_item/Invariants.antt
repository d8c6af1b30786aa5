use Rattle.std.proofs.Common.{◌≡◌, ◌++◌, length, take}
use Rattle.std.specs.Prelude.{flat_map}
use Rattle.item_codec.specs.Spelling.{version, list}
use Rattle.table_model.specs.ItemFields.{address}
use Rattle.bind_book.proofs.items.class_item.Given as goal

abbrev pub invariant-loop-addr : goal.invariant-loop-addr
invariant-loop-addr l = l.body ≡ version ++ list (length l.addrs) ++ flat_map address (take l.addr-index l.addrs)
