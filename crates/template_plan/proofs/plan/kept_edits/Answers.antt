use Rattle.std.proofs.Common.{◌≡◌, [], inl, inr, subst}
use Rattle.analysis.specs.Analysed.{Analysed}
use Rattle.analysis.specs.GnuUnits.{gnu_places}
use Rattle.template_plan.proofs.plan.kept_edits.Goals as goal

pub returns-then-not-has_gnu-clause-kept : goal.returns-then-not-has_gnu-clause-kept
returns-then-not-has_gnu-clause-kept c =
    inl (subst (λ (x : Analysed). gnu_places x.value ≡ []) c.analysis-a.ensures (c.has_gnu.ensures c.if-not-has_gnu.true))

pub returns-clause-kept : goal.returns-clause-kept
returns-clause-kept c = inr (c.in_ok-same.ensures c.if-not-same.false)
