-- The lists of a file stand in text lines: each stands in a run.
use Rattle.std.proofs.Common.{◌≡◌, ℕ, ◌+◌, ◌-◌, ◌≤◌, List, [], ◌∷◌, length, drop, map, Some, None, refl, sym, ap, subst, ◌∙◌, arith, length-take}
use Rattle.std.specs.Prelude.{slice_get, slice_range, min}
use Rattle.cs_base.specs.declared.positions.Part.{Part}
use Rattle.cs_base.specs.Token.{Token}
use Rattle.line_shape.specs.declared.items.Item.{Item}
use Rattle.line_shape.specs.declared.items.ItemKind.TheVariants.{Run}
use Rattle.lexer.specs.FileText.{text_value}
use Rattle.lexer.specs.Tokens.{tokens_of, firsts_of, open_comment_of}
use Rattle.source_files.specs.Files.{SourceFile}
use Rattle.analysis.specs.Analysis.{AnalysisValue}
use Rattle.list_cuts.specs.Spans.{end_of}
use Rattle.arranged_text_laws.specs.FileItems.{placed}
use Rattle.arranged_text_laws.specs.Lists.{close_of}
use Rattle.arranged_text_laws.specs.RunTokens.{IsTextList}
use Rattle.arranged_text_laws.proofs.RunTokenLemmas.{run_lists_are_text}
use Rattle.reordered_text_laws.specs.Marks.{last_after, StandFrom, AreOfList, spans_by}
use Rattle.reordered_text_laws.proofs.PartMarks.{later_by}
use Rattle.unit_laws.specs.Files.{items_at}
use Rattle.template_rules.specs.FileLists.{begun_before}
use Rattle.template_meaning.specs.Places.{ListInFile}

-- the last item ends with the last mark
close_last : (ms : List ℕ) (m k : ℕ) → close_of (spans_by (m ∷ k ∷ ms)) ≡ last_after k ms
unfolding end_of
close_last [] m k = refl
close_last (n ∷ ms) m k = close_last ms k n

last_later : (p : ℕ) (ms : List ℕ) (k : ℕ) → last_after (p + k) (later_by p ms) ≡ p + last_after k ms
last_later p [] k = refl
last_later p (n ∷ ms) k = last_later p ms n

stand_last : (ms : List ℕ) (from k : ℕ) → StandFrom from (k ∷ ms) → k ≤ last_after k ms
stand_last [] from k h = omega arith
stand_last (n ∷ ms) from k h = let rest = stand_last ms (k + 1) n h.1 in let over = h.1.0 in omega (arith, rest, over)

-- a list by its marks in a run
pub marks_text : (number : ℕ) (bytes : List ℕ) (j : ℕ) (it : Item) (run : List Token) (ms : List ℕ) → open_comment_of bytes ≡ None
    → slice_get (items_at (text_value number bytes)) j ≡ Some it → it.kind ≡ Run → run ≡ slice_range (tokens_of number bytes) it.from it.to → AreOfList (length run) ms
    → IsTextList (placed (tokens_of number bytes) (firsts_of bytes)) (spans_by (later_by it.from ms))
unfolding text_value
marks_text number bytes j it run [] none there is_run run_is marks = absurd marks
marks_text number bytes j it run (m ∷ []) none there is_run run_is marks = absurd marks
marks_text number bytes j it run (m ∷ k ∷ ms) none there is_run run_is marks =
    let toks = tokens_of number bytes in
    let size : length run ≡ min (it.to - it.from) (length (drop it.from toks)) = ap length run_is ∙ length-take (it.to - it.from) (drop it.from toks) in
    let last = close_last (later_by it.from ms) (it.from + m) (it.from + k) ∙ last_later it.from ms k in
    let grows = stand_last ms (m + 1) k marks.0.1 in
    let over = marks.0.1.0 in
    let within = marks.1 in
    run_lists_are_text number bytes j it (spans_by (later_by it.from (m ∷ k ∷ ms))) none there is_run (omega arith) (omega arith)
    (omega (arith, size, within, grows, over)) (omega (arith, last, size, within))

-- The law: so stands each list of a file.
pub list_text : (a : AnalysisValue) (members : List Part) (file : SourceFile) (t : List ℕ) (number : ℕ) (bytes : List ℕ) → ListInFile a members file t → file.text ≡ text_value number bytes
    → open_comment_of bytes ≡ None → IsTextList (placed (tokens_of number bytes) (firsts_of bytes)) (spans_by (map (begun_before (tokens_of number bytes)) t))
unfolding text_value
list_text a members file t number bytes l text none =
    let toks : file.text.toks ≡ tokens_of number bytes = ap (λ v. v.toks) text in
    let item : slice_get (items_at (text_value number bytes)) l.k ≡ Some l.it = ap (λ v. slice_get (items_at v) l.k) (sym text) ∙ l.item in
    let run : l.run ≡ slice_range (tokens_of number bytes) l.it.from l.it.to = l.run_is ∙ ap (λ (ts : List Token). slice_range ts l.it.from l.it.to) toks in
    let marks : map (begun_before (tokens_of number bytes)) t ≡ later_by l.it.from l.in_run = ap (λ (ts : List Token). map (begun_before ts) t) (sym toks) ∙ l.file_marks in
    subst (λ (ms : List ℕ). IsTextList (placed (tokens_of number bytes) (firsts_of bytes)) (spans_by ms)) (sym marks)
    (marks_text number bytes l.k l.it l.run l.in_run none item l.is_run run l.run_marks)
