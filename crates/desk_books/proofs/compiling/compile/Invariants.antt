use Rattle.desk_books.proofs.compiling.compile.Given as goal

abbrev pub ghosts-compile_counted : goal.ghosts-compile_counted
ghosts-compile_counted a = record { name = a.blank.name; parts = a.blank.parts }
