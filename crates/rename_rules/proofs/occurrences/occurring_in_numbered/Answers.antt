use Rattle.rename_rules.proofs.occurrences.occurring_in_numbered.Goals as goal

pub returns-in-Some : goal.returns-in-Some
returns-in-Some c = rw (← c.in-Some.ensures) c.occurring_in_file.ensures
