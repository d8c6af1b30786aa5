use Rattle.std.proofs.Common.{◌≡◌, take, drop, map}
use Rattle.std.specs.List.{AllByRecursion}
use Rattle.keep_sqlite.specs.Selections.{item_shown, ShowsItem}
use Rattle.keep_sqlite.proofs.listing.items_in.Given as goal

abbrev pub invariant-rows : goal.invariant-rows
invariant-rows l = record {
  items : l.items ≡ map item_shown (take l.row-index l.rows);
  shown : AllByRecursion ShowsItem (drop l.row-index l.rows) → AllByRecursion ShowsItem l.rows;
}
