use Rattle.unit_steps.proofs.DefiningLemmas.{tested-known}
use Rattle.unit_steps.proofs.progress.Progress.test.Goals as goal

pub returns-clause-noted : goal.returns-clause-noted
returns-clause-noted c = λ table.
    tested-known table c.args.self.now c.process_event.new.self c.args.name.now c.in_ok-process_event.ensures.named
