-- The answer to a batch is one: so is that to each line, and all lines leave the same files.
use Rattle.std.proofs.Common.{◌≡◌, ℕ, List, [], ◌∷◌, Option, None, Some, Result, Ok, Err, refl, ap, sym, subst, ◌∙◌}
use Rattle.cs_base.specs.Edit.{Edit, with_edits}
use Rattle.cs_base.specs.Outside.{FileMap}
use Rattle.batch_run.specs.Line.{LineValue}
use Rattle.batch_run.specs.Batch.{Plan, IsLine, IsBatch, after}
use Rattle.rename_rules.specs.Renaming.{IsRenaming}
use Rattle.ws_file.specs.Workspace.{WorkspaceValue, IsWorkspace}
use Rattle.analysis.specs.Below.source_files.Files.{source_of}
use Rattle.analysis.specs.Analysis.{AnalysisValue, analysis_of}
use Rattle.analysis.specs.Texts.{UnitFault}
use Rattle.cscout_run.specs.Answer.{IsAnalysed, IsBatchAnswer, IsLinesAnswer, lines_answer}
use Rattle.cscout_run.specs.Shapes.{Answer}
use Rattle.rename_plan.proofs.OnceLemmas.{renamings_once}

pub same-answer : (x a b : Answer) → x ≡ a → x ≡ b → a ≡ b
same-answer x a b p q = sym p ∙ q

-- ---- the lines

one_analysis : (a b : AnalysisValue) → ◌≡◌ {A = Result AnalysisValue UnitFault} (Ok a) (Ok b) → b ≡ a
one_analysis a b e = cc

module _ (ws : WorkspaceValue) (is_ws : IsWorkspace ws) where
  line_once : (files : FileMap) (q : LineValue) (plan plan' : Plan) → IsLine ws files q plan → IsLine ws files q plan' → plan ≡ plan'
  line_once files q plan plan' p p' =
      let same : p'.0 ≡ p.0 = one_analysis p.0 p'.0 (sym p.1 ∙ p'.1) in
      renamings_once (source_of files) ws p.0 is_ws p.1 q.path q.line q.column q.name q.strings plan plan' p.2
      (subst (λ (a : AnalysisValue). IsRenaming a q.path q.line q.column q.name q.strings plan') same p'.2)

  lines_once : (files : FileMap) (edits : List Edit) (lines : List LineValue) (plans plans' : List Plan) → IsBatch ws files edits lines plans
      → IsBatch ws files edits lines plans' → plans ≡ plans'
  lines_once files edits [] [] [] p p' = refl
  lines_once files edits (q ∷ lines) (plan ∷ plans) (plan' ∷ plans') p p' =
      let first = line_once (with_edits edits files) q plan plan' p.0 p'.0 in
      let more : IsBatch ws files (after plan edits) lines plans' =
      subst (λ (x : Plan). IsBatch ws files (after x edits) lines plans') (sym first) p'.1 in
      ap (λ (x : Plan). x ∷ plans) first ∙ ap (λ (ps : List Plan). plan' ∷ ps) (lines_once files (after plan edits) lines plans plans' p.1 more)
  lines_once files edits [] (plan ∷ plans) plans' p p' = absurd p
  lines_once files edits [] [] (plan ∷ plans) p p' = absurd p'
  lines_once files edits (q ∷ lines) [] plans' p p' = absurd p
  lines_once files edits (q ∷ lines) (plan ∷ plans) [] p p' = absurd p'

  -- ---- their answers

  run-alike : (files : FileMap) (lines : List LineValue) (analysed : Result AnalysisValue UnitFault) (a b : Answer)
      → IsAnalysed (IsLinesAnswer files ws lines) analysed a → IsAnalysed (IsLinesAnswer files ws lines) analysed b → a ≡ b
  run-alike files lines (Ok value) a b p p' =
      same-answer (lines_answer p.0) a b p.2 (ap lines_answer (lines_once files [] lines p.0 p'.0 p.1 p'.1) ∙ p'.2)
  run-alike files lines (Err fault) a b p p' = same-answer _ a b p p'

  pub batch-alike : (files : FileMap) (read : Option (Result (List LineValue) ℕ)) (a b : Answer) → IsBatchAnswer files ws read a
      → IsBatchAnswer files ws read b → a ≡ b
  batch-alike files None a b p p' = same-answer _ a b p p'
  batch-alike files (Some (Ok lines)) a b p p' = run-alike files lines (analysis_of (source_of files) ws) a b p p'
  batch-alike files (Some (Err line)) a b p p' = same-answer _ a b p p'
