-- A trim as it is told, and that all such are one.
use Rattle.std.proofs.Common.{◌≡◌, ◌∙◌, ◌++◌, ◌∷◌, ℕ, List, [], ap, append_assoc, sym, refl}
use Rattle.std.specs.Prelude.{map}
use Rattle.std.proofs.lemmas.Grind.{flat_map-append}
use Rattle.std.proofs.lemmas.List.{append-nil, map-append}
use Rattle.cs_base.specs.declared.positions.Pos.{Pos}
use Rattle.cs_base.specs.Edit.{Edit}
use Rattle.analysis.specs.Analysis.{AnalysisValue}
use Rattle.unused_names.specs.Unneeded.{AreUnneeded}
use Rattle.trim_rules.specs.Staying.{Judged, judged, removable}
use Rattle.trim_rules.specs.Trimmed.{edits_of}
use Rattle.trim_rules.specs.JudgedLines.{judged_in}
use Rattle.trim_rules.specs.declared.judging.Judged as declared
use Rattle.trim_plan.specs.declared.plan.Trim.{Trim}
use Rattle.trim_plan.specs.Kept.{IsTrim, KeepsRestOver, TrimsOver}
use Rattle.trim_plan.specs.Stays.{IsTold, line_for, stays_lines, told_lines}

-- a trim, told by the lines of its judgements
pub is_told : (a : AnalysisValue) (t : Trim) → IsTrim a (map judged_in t.judged.items) t.edits → IsTold a t.edits (told_lines a t)
is_told a t trim = record { judgements = map judged_in t.judged.items; trim = trim; lines = refl }

-- .. with what it keeps
pub keeps_rest : (a : AnalysisValue) (t : Trim) → IsTrim a (map judged_in t.judged.items) t.edits
    → TrimsOver a.workspace a (removable (map judged_in t.judged.items)) t.edits → KeepsRestOver a t.edits
keeps_rest a t trim over = record {
  lines = removable (map judged_in t.judged.items);
  removable = record { judgements = map judged_in t.judged.items; judged = trim.judged; removed = refl };
  over = over;
}

-- where the lines that nothing needs stand in one list, two trims are told alike
pub told_once : (a : AnalysisValue) (edits others : List Edit) (stays lines : List ℕ)
    → ((ps qs : List Pos) → AreUnneeded a ps → AreUnneeded a qs → ps ≡ qs) → IsTold a edits stays → IsTold a others lines
    → (edits ≡ others) × (stays ≡ lines)
told_once a edits others stays lines one p q =
    let places : p.trim.judged.lines ≡ q.trim.judged.lines =
    one p.trim.judged.lines q.trim.judged.lines p.trim.judged.unneeded q.trim.judged.unneeded in
    let same : p.judgements ≡ q.judgements = p.trim.judged.each ∙ ap (λ (ls : List Pos). map (judged a) ls) places ∙ sym q.trim.judged.each in (
      p.trim.edits_are ∙ ap (λ (js : List Judged). edits_of (removable js) a.table) same ∙ sym q.trim.edits_are,
      p.lines ∙ ap (λ (js : List Judged). stays_lines a js) same ∙ sym q.lines,
    )

-- ---- lines, one by one

pub stays-begin : (a : AnalysisValue) (text : List ℕ) → text ≡ text ++ stays_lines a (map judged_in [])
unfolding stays_lines
stays-begin a text = sym (append-nil text)

pub stays-next : (a : AnalysisValue) (xs ys : List declared.Judged) (j : declared.Judged) (begun old new : List ℕ) → ys ≡ xs ++ j ∷ []
    → old ≡ begun ++ stays_lines a (map judged_in xs) → new ≡ old ++ line_for a (judged_in j) → new ≡ begun ++ stays_lines a (map judged_in ys)
unfolding stays_lines
stays-next a xs ys j begun old new more before put =
    let step : stays_lines a (map judged_in xs) ++ line_for a (judged_in j) ≡ stays_lines a (map judged_in ys) =
    ap (λ (ps : List ℕ). stays_lines a (map judged_in xs) ++ ps) (sym (append-nil (line_for a (judged_in j))))
    ∙ sym (flat_map-append (line_for a) (map judged_in xs) (judged_in j ∷ []))
    ∙ sym (ap (stays_lines a) (ap (map judged_in) more ∙ map-append judged_in xs (j ∷ []))) in
    put ∙ ap (λ (text : List ℕ). text ++ line_for a (judged_in j)) before
    ∙ append_assoc begun (stays_lines a (map judged_in xs)) (line_for a (judged_in j))
    ∙ ap (λ (text : List ℕ). begun ++ text) step
