use Rattle.cscout_run.proofs.telling.tell_refusal.Goals as goal

pub returns-in-NotAMacro : goal.returns-in-NotAMacro
returns-in-NotAMacro g c = rw c.in-NotAMacro.is c.tell-in-NotAMacro.ensures
