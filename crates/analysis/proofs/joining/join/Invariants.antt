use Rattle.analysis.proofs.joining.join.Given as goal

abbrev pub ghosts-join_whole : goal.ghosts-join_whole
ghosts-join_whole a = record { name = a.blank.name; parts = a.blank.parts }
