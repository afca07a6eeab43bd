use Rattle.cscout_run.proofs.RunLemmas.{if_told-ok}
use Rattle.cscout_run.proofs.preparing.prepare.Goals as goal

pub returns-in-Generated-clause-planned : goal.returns-in-Generated-clause-planned
returns-in-Generated-clause-planned g c =
    rw c.in-Generated.is (if_told-ok (g.F.Files.told c.args.files.now).held c.prepare_generated.result _ (λ fs ready. tt))
