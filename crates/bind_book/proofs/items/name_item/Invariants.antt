use Rattle.std.proofs.Common.{◌≡◌, ◌++◌, length, take}
use Rattle.std.specs.Prelude.{flat_map}
use Rattle.item_codec.specs.Spelling.{version, list}
use Rattle.table_model.specs.ItemFields.{expiring}
use Rattle.bind_book.proofs.items.name_item.Given as goal

abbrev pub invariant-loop-kept : goal.invariant-loop-kept
invariant-loop-kept l = l.body ≡ version ++ list (length l.addrs) ++ flat_map expiring (take l.kept-index l.addrs)
