use Rattle.analysis.proofs.joining.join_first.Given as goal

abbrev pub ghosts-join_known : goal.ghosts-join_known
ghosts-join_known a = record { name = a.blank.name; parts = a.blank.parts }
