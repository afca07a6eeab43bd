use Rattle.std.proofs.Common.{◌≡◌, suc, List, [], ◌∷◌, ◌++◌, map, slice_get, ap, sym, ◌∙◌}
use Rattle.std.proofs.lemmas.List.{map-append}
use Rattle.analysis.specs.Analysis.{UnitAnalysis}
use Rattle.analysis.specs.Changed.{renamed_unit_analysis}
use Rattle.offences.specs.Moves.{renaming_by}
use Rattle.kept_analysis.proofs.renamed_texts.renamed_units.Goals as goal

pub loop-unit-preserved : goal.loop-unit-preserved
loop-unit-preserved c =
    let follow : UnitAnalysis → UnitAnalysis = renamed_unit_analysis (renaming_by c.args.moves.now) in
    record {
      mapped = c.in_ok-push.ensures.items
          ∙ (ap (λ (xs : List UnitAnalysis). xs ++ c.in_ok-renamed_unit.field-0 ∷ []) c.loop-unit.invariant.mapped
          ∙ (ap (λ (u : UnitAnalysis). map follow c.loop-unit.yielded ++ u ∷ []) c.in_ok-renamed_unit.ensures
          ∙ sym (map-append follow c.loop-unit.yielded (c.in-Some.unit ∷ []))));
      left = λ k u at. c.loop-unit.invariant.left (suc k) u (ap (λ (xs : List UnitAnalysis). slice_get xs (suc k)) c.in-Some.ensures.steps.0 ∙ at);
    }
