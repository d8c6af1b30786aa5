use Rattle.std.proofs.Common.{◌≡◌, map, drop}
use Rattle.mud_base.specs.Readings.{answer, over}
use Rattle.usage_walk.specs.Elements.{element_view, elements_view}
use Rattle.mud_file.specs.Entries as spec
use Rattle.mud_file.proofs.lists.entries_of.Given as goal

abbrev pub invariant-names : goal.invariant-names
invariant-names l =
    answer (spec.entries_of l.side l.path (elements_view l.acls) (elements_view l.names)) ≡ answer (over (spec.next_list l.side l.path (elements_view l.acls)) l.entries (map element_view (drop l.name-index l.names)))
