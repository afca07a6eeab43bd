use Rattle.std.proofs.Common.{◌≡◌, List, ◌∙◌, ap, map}
use Rattle.analysis.specs.Analysis.{UnitAnalysis, AnalysisValue, analysis_and}
use Rattle.analysis.specs.BroughtNumbers.{all_brought}
use Rattle.analysis.specs.GnuUnits.{gnu_begin}
use Rattle.analysis.proofs.TakenLemmas.{alone_is, kept_alone}
use Rattle.analysis.proofs.accepted.Accepted.of_kept.Goals as goal

pub invariant_of-result : goal.invariant_of-result
invariant_of-result c =
    kept_alone c.args.cache.table c.args.workspace.units c.args.units.items c.in_ok-begins.begins.items c.in_ok-brought.brought.items c.requires.few
    (c.in_ok-begins.ensures ∙ ap (map gnu_begin) c.deref.ensures.value) (c.in_ok-brought.ensures ∙ ap all_brought c.deref-2.ensures.value)

pub returns : goal.returns
returns c = ap (λ (us : List UnitAnalysis). analysis_and c.args.workspace us c.args.cache.table) (alone_is c.args.cache.table c.args.workspace.units c.args.units.items)
