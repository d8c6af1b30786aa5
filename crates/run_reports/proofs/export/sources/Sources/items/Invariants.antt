use Rattle.run_reports.proofs.export.sources.Sources.items.Given as goal

abbrev pub ghosts-items_counted : goal.ghosts-items_counted
ghosts-items_counted a = record { name = a.blank.name; parts = a.blank.parts }
