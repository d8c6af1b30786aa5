use Rattle.base_rows.proofs.sortable.rows.SortedRows.rows_under.Given as goal

abbrev pub ghosts-rows_from : goal.ghosts-rows_from
ghosts-rows_from g a = record { name = a.blank.name; parts = a.blank.parts }
