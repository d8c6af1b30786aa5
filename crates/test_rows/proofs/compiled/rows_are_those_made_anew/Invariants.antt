use Rattle.test_rows.proofs.compiled.rows_are_those_made_anew.Given as goal

abbrev pub ghosts-changes_made : goal.ghosts-changes_made
ghosts-changes_made g a = record { name = a.blank.name; parts = a.blank.parts }
