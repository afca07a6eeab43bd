use Rattle.cscout_run.proofs.leaving.push_left.Goals as goal

pub returns-in-Renaming : goal.returns-in-Renaming
returns-in-Renaming c = rw c.in-Renaming.is c.push_at.ensures

pub returns-in-Template : goal.returns-in-Template
returns-in-Template c = rw c.in-Template.is c.push_at-in-Template.ensures

pub returns-in-Macro : goal.returns-in-Macro
returns-in-Macro c = rw c.in-Macro.is c.push_at-in-Macro.ensures
