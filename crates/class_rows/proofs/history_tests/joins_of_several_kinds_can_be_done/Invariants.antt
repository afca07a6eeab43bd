use Rattle.class_rows.proofs.history_tests.joins_of_several_kinds_can_be_done.Given as goal

abbrev pub ghosts-joined : goal.ghosts-joined
ghosts-joined g a = record { name = a.blank.name; parts = a.blank.parts }
