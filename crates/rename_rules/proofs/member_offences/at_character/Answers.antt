use Rattle.rename_rules.proofs.member_offences.at_character.Goals as goal

pub returns-in-Some : goal.returns-in-Some
returns-in-Some c = rw (← c.in-Some.ensures) c.first_with.ensures
