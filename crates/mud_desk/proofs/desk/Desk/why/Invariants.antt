use Rattle.mud_desk.proofs.desk.Desk.why.Given as goal

abbrev pub ghosts-why : goal.ghosts-why
ghosts-why g a = record { name = a.blank.name; parts = a.blank.parts }
