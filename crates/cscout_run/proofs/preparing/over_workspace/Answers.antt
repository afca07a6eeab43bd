use Rattle.cscout_run.proofs.RunLemmas.{if_told-ok}
use Rattle.cscout_run.proofs.preparing.over_workspace.Goals as goal

pub returns-in-Tokens-clause-answer : goal.returns-in-Tokens-clause-answer
returns-in-Tokens-clause-answer g c = rw c.in-Tokens.is c.tokens_over.ensures.answer

pub returns-in-Tokens-clause-planned : goal.returns-in-Tokens-clause-planned
returns-in-Tokens-clause-planned g c = rw c.in-Tokens.is (if_told-ok (g.F.Files.told c.args.files.now).held c.tokens_over.result _ (λ fs ready. tt))

pub returns-in-Skipped-clause-answer : goal.returns-in-Skipped-clause-answer
returns-in-Skipped-clause-answer g c = rw c.in-Skipped.is c.skipped_over.ensures.answer

pub returns-in-Skipped-clause-planned : goal.returns-in-Skipped-clause-planned
returns-in-Skipped-clause-planned g c = rw c.in-Skipped.is (if_told-ok (g.F.Files.told c.args.files.now).held c.skipped_over.result _ (λ fs ready. tt))

pub returns-in-Check-clause-answer : goal.returns-in-Check-clause-answer
returns-in-Check-clause-answer g c = rw c.in-Check.is c.check_over.ensures.answer

pub returns-in-Check-clause-planned : goal.returns-in-Check-clause-planned
returns-in-Check-clause-planned g c = rw c.in-Check.is (if_told-ok (g.F.Files.told c.args.files.now).held c.check_over.result _ (λ fs ready. tt))

pub returns-in-Report-clause-answer : goal.returns-in-Report-clause-answer
returns-in-Report-clause-answer g c = rw c.in-Report.is c.report_over.ensures.answer

pub returns-in-Report-clause-planned : goal.returns-in-Report-clause-planned
returns-in-Report-clause-planned g c = rw c.in-Report.is (if_told-ok (g.F.Files.told c.args.files.now).held c.report_over.result _ (λ fs ready. tt))

pub returns-in-Edit-clause-answer : goal.returns-in-Edit-clause-answer
returns-in-Edit-clause-answer g c = rw c.in-Edit.is c.edit_over.ensures.answer

pub returns-in-Edit-clause-planned : goal.returns-in-Edit-clause-planned
returns-in-Edit-clause-planned g c = rw c.in-Edit.is c.edit_over.ensures.planned

pub returns-in-Trim-clause-answer : goal.returns-in-Trim-clause-answer
returns-in-Trim-clause-answer g c = rw c.in-Trim.is c.trim_over.ensures.answer

pub returns-in-Trim-clause-planned : goal.returns-in-Trim-clause-planned
returns-in-Trim-clause-planned g c = rw c.in-Trim.is c.trim_over.ensures.planned

pub returns-in-Batch-clause-answer : goal.returns-in-Batch-clause-answer
returns-in-Batch-clause-answer g c = rw c.in-Batch.is c.batch_over.ensures.answer

pub returns-in-Batch-clause-planned : goal.returns-in-Batch-clause-planned
returns-in-Batch-clause-planned g c = rw c.in-Batch.is c.batch_over.ensures.planned
