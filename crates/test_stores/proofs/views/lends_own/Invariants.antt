use Rattle.test_stores.proofs.views.lends_own.Given as goal

abbrev pub ghosts-lends_at_bulb : goal.ghosts-lends_at_bulb
ghosts-lends_at_bulb g a = record { name = a.blank.name; parts = a.blank.parts }
