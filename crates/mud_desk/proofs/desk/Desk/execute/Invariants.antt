use Rattle.mud_desk.proofs.desk.Desk.execute.Given as goal

abbrev pub ghosts-execute_on : goal.ghosts-execute_on
ghosts-execute_on g a = record { name = a.blank.name; parts = a.blank.parts }
