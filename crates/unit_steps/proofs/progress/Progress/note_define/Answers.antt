use Rattle.unit_steps.proofs.DefiningLemmas.{define-known}
use Rattle.unit_steps.proofs.progress.Progress.note_define.Goals as goal

pub returns-clause-noted : goal.returns-clause-noted
returns-clause-noted c = λ table.
    define-known table c.args.self.now c.process_event.new.self c.args.m.now c.link_uses.new.text c.in_ok-process_event.ensures.named c.in_ok-link_uses.ensures
