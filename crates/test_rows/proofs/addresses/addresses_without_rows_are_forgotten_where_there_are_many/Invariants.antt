use Rattle.test_rows.proofs.addresses.addresses_without_rows_are_forgotten_where_there_are_many.Given as goal

abbrev pub ghosts-kept : goal.ghosts-kept
ghosts-kept g a = record { name = a.blank.name; parts = a.blank.parts }
