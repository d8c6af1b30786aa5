use Rattle.std.proofs.Common.{◌≡◌, drop}
use Rattle.desk_model.specs.Items.{none_kept}
use Rattle.mud_desk.specs.Items.Loaded.{kept_of}
use Rattle.mud_desk.proofs.items.loaded.take_into.Given as goal
use Rattle.desk_model.proofs.Parts.{kept_in}

abbrev pub invariant-loop-index : goal.invariant-loop-index
invariant-loop-index l = kept_in none_kept l.items ≡ kept_in (kept_of l.loaded) (drop l.index l.items)
