use Rattle.test_rows.proofs.resolved.defaults_with_one_server_are_one_entry.Given as goal

abbrev pub ghosts-defaults_agree : goal.ghosts-defaults_agree
ghosts-defaults_agree g a = record { name = a.blank.name; parts = a.blank.parts }
