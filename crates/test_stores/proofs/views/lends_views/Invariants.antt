use Rattle.test_stores.proofs.views.lends_views.Given as goal

abbrev pub ghosts-lends_rows : goal.ghosts-lends_rows
ghosts-lends_rows g a = record { name = a.blank.name; parts = a.blank.parts }
