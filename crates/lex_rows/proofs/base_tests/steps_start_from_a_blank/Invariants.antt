use Rattle.lex_rows.proofs.base_tests.steps_start_from_a_blank.Given as goal

abbrev pub ghosts-two_ticks : goal.ghosts-two_ticks
ghosts-two_ticks a = record { name = a.blank.name; parts = a.blank.parts }
