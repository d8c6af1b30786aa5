use Rattle.std.proofs.Common.{◌≡◌, ◌++◌, [], map, take}
use Rattle.std.specs.Prelude.{option_map}
use Rattle.base_rows.specs.Changes.{with_found}
use Rattle.mud_world.specs.Items.{gone_put, set_put}
use Rattle.table_model.specs.BindItems.{class_item}
use Rattle.bind_book.proofs.items.class_puts.Given as goal

abbrev pub invariant-loop-row : goal.invariant-loop-row
invariant-loop-row l = l.puts ≡ with_found (option_map (gone_put 3) l.change.gone) [] ++ map (set_put class_item) (take l.row-index l.row-items)
