use Rattle.batch_run.proofs.replies.push_refusal.Goals as goal

pub returns-in-NotAMacro : goal.returns-in-NotAMacro
returns-in-NotAMacro c = rw c.in-NotAMacro.is c.push_message-in-NotAMacro.ensures
