use Rattle.std.proofs.Common.{◌≡◌, ◌++◌, take, drop}
use Rattle.mud_world.specs.Kept.{Tells, kept_items, faults_of, IsOpen, Rests}
use Rattle.mud_world.specs.Items.{IsOrdered}
use Rattle.desk_model.specs.Items.{in_second_version}
use Rattle.mud_desk.proofs.items.opening.put_things_anew.Given as goal

abbrev pub invariant-loop-index : goal.invariant-loop-index
invariant-loop-index g l = record {
  told : Tells g.K.Keeper l.keeper → Tells g.K.Keeper l.initial.keeper;
  items : Tells g.K.Keeper l.keeper → kept_items g.K.Keeper l.keeper ≡ in_second_version (take l.index l.list) ++ drop l.index l.list;
  ordered : Tells g.K.Keeper l.keeper → IsOrdered (kept_items g.K.Keeper l.keeper);
  rests : Rests g.K.Keeper l.keeper;
  opened : IsOpen g.K.Keeper l.keeper;
  steady : faults_of g.K.Keeper l.keeper ≡ faults_of g.K.Keeper l.initial.keeper;
}
