use Rattle.std.proofs.Common.{◌≡◌, take, drop, map}
use Rattle.std.specs.List.{AllByRecursion}
use Rattle.keep_sqlite.specs.Selections.{number_shown, ShowsId}
use Rattle.keep_sqlite.proofs.listing.rowids_in.Given as goal

abbrev pub invariant-rows : goal.invariant-rows
invariant-rows l = record {
  ids : l.ids ≡ map number_shown (take l.row-index l.rows);
  shown : AllByRecursion ShowsId (drop l.row-index l.rows) → AllByRecursion ShowsId l.rows;
}
