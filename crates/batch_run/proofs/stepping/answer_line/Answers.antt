use Rattle.std.proofs.Common.{Ok, Err, IfSome, subst}
use Rattle.analysis.specs.Analysis.{AnalysisValue}
use Rattle.offences.specs.Refusals.{refusal_of}
use Rattle.rename_rules.specs.Renaming.{IsRenaming}
use Rattle.renamed.specs.Rename.{RenamesOver}
use Rattle.batch_run.proofs.stepping.answer_line.Goals as goal

pub accept_line-requires-clause-answered : goal.accept_line-requires-clause-answered
accept_line-requires-clause-answered c =
    let q = c.args.line.now in
    subst (λ (a : AnalysisValue). IsRenaming a q.path q.line q.column q.name q.strings (Ok c.in-Ok.new)) c.analysis.ensures
    (rw (← c.path.ensures, ← c.line.ensures, ← c.column.ensures, ← c.name.ensures, ← c.strings.ensures) c.in-Ok.ensures.answer)

pub accept_line-requires-clause-renames : goal.accept_line-requires-clause-renames
accept_line-requires-clause-renames c =
    let q = c.args.line.now in
    subst (λ (a : AnalysisValue). RenamesOver a.workspace a q.path q.line q.column q.name q.strings c.in-Ok.new) c.analysis.ensures
    (rw (← c.path.ensures, ← c.line.ensures, ← c.column.ensures, ← c.name.ensures, ← c.strings.ensures) c.in-Ok.ensures.meaning)

pub refuse_line-requires : goal.refuse_line-requires
refuse_line-requires c =
    let q = c.args.line.now in
    subst (λ (a : AnalysisValue). IfSome (refusal_of c.in-Err.fault) (λ r. IsRenaming a q.path q.line q.column q.name q.strings (Err r))) c.analysis.ensures
    (rw (← c.path.ensures, ← c.line.ensures, ← c.column.ensures, ← c.name.ensures, ← c.strings.ensures) c.in-Err.ensures.answer)
