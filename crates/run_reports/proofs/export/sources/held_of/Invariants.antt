use Rattle.std.proofs.Common.{◌≡◌, drop}
use Rattle.table_model.specs.Things.{thing_at}
use Rattle.run_reports.proofs.export.sources.held_of.Given as goal

abbrev pub invariant-things : goal.invariant-things
invariant-things l = thing_at l.mac (drop l.thing-index l.things) ≡ thing_at l.mac l.things
