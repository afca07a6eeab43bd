use Rattle.class_rows.proofs.class_tests.a_longer_part_moves_what_stands_behind_it.Given as goal

abbrev pub ghosts-joined_letters : goal.ghosts-joined_letters
ghosts-joined_letters g a = record { name = a.blank.name; parts = a.blank.parts }
