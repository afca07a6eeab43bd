use Rattle.class_rows.proofs.class_tests.a_pasted_name_cuts_a_declared_one.Given as goal

abbrev pub ghosts-pasted : goal.ghosts-pasted
ghosts-pasted g a = record { name = a.blank.name; parts = a.blank.parts }
