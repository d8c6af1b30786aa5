use Rattle.std.proofs.Common.{◌≡◌}
use Rattle.std.specs.Option.{option_map}
use Rattle.item_codec.specs.Records.{each_in}
use Rattle.table_model.specs.ItemFields.{expiring_in}
use Rattle.thing_book.proofs.Readings.{behind}
use Rattle.thing_book.proofs.reading.read_expirings.Given as goal

abbrev pub invariant-loop-left : goal.invariant-loop-left
invariant-loop-left l = each_in expiring_in l.count l.initial.reader ≡ option_map (behind l.rows) (each_in expiring_in l.left l.reader)

abbrev pub decreases-loop-left : goal.decreases-loop-left
decreases-loop-left l = l.left
