use Rattle.template_rules.proofs.macro_names.at_first.Goals as goal

pub returns-in-Some : goal.returns-in-Some
returns-in-Some c = rw (← c.in-Some.ensures.answer) c.first_with.ensures
