-- The tables make the renaming of the class, and the analysis that they make is the renamed one.
use Rattle.std.proofs.Common.{◌≡◌, ℕ, zero, suc, ◌+◌, ◌-◌, ◌<◌, true, List, [], ◌∷◌, length, map, Some, None, refl, sym, ap, subst, ◌∙◌, arith}
use Rattle.std.specs.Prelude.{slice_get}
use Rattle.std.specs.Option.{option_and_then}
use Rattle.std.proofs.lemmas.Option.{none-some}
use Rattle.cs_base.specs.declared.positions.Part.{Part}
use Rattle.cs_base.specs.declared.positions.Pos.{Pos}
use Rattle.eclass_map.specs.Positions.{along, holds}
use Rattle.eclass_map.proofs.TokenFacts.{holding, holds_from, along_of}
use Rattle.analysis.specs.Below.lexer.Places.{pos}
use Rattle.analysis.specs.Below.lexer.Respelling.{Put as Putting, edited}
use Rattle.part_respell.specs.Respelled.{put_of as putting, respelled}
use Rattle.include_tree.specs.Below.source_files.Files.{Table, Entry, Found, Lines, Absent, Unopened, Opened, Made, entry}
use Rattle.include_tree.specs.Below.source_files.KeptFiles.{kept_in, kept_at}
use Rattle.renamed.specs.Renamed.{renaming_of}
use Rattle.analysis.specs.Changed.{Renaming, edited_found, edited_from, renamed_analysis, renamed_unit_analysis}
use Rattle.analysis.specs.Analysed.{Analysed}
use Rattle.analysis.specs.Analysis.{analysis_and}
use Rattle.analysis.specs.Parts.{IsCharacter, IsPart}
use Rattle.rename_meaning.specs.Allowed.{IsAllowed}
use Rattle.edited_unit_laws.proofs.ListLemmas.{In, found}
use Rattle.rename_meaning.proofs.NoneLemmas.{no_line, none_stand}
use Rattle.rename_meaning.proofs.KeptFileLemmas.{made_stays, respelled_same}
use Rattle.rename_meaning.proofs.OneMoveLemmas.{InText, in_text}
use Rattle.offences.specs.declared.moves.Moves.{Moves}
use Rattle.kept_analysis.specs.Edits.{kept_edited, edited_front}
use Rattle.kept_analysis.specs.Following.{renamed_by}
use Rattle.offences.specs.Moves.{AreMoves, put_by, renaming_by, editing_by}
use Rattle.offences.proofs.MovedLemmas.{put_same, renaming_same as tables_same}

module _ (a : Analysed) (members : List Part) (name : List ℕ) (h : IsAllowed a members name) (m : Moves) (are : AreMoves a.value.table members name m) where
  member_part : (x : Part) → In x members → IsPart a.value x
  member_part x i = let of = h.class.listed in (of.each i.0 x i.1).is_part

  -- what a member holds stands in the text of a kept file
  held_in_text : (x : Part) → In x members → (p : Pos) → holds x p ≡ true → InText a members name h p
  held_in_text x i p held =
      let on = holding x p held in
      let part = member_part x i in
      let character : IsCharacter a.value p = subst (λ (q : Pos). IsCharacter a.value q) (along_of x p on) (character_at x part (p.at - x.start.at) on.less) in
      in_text a members name h p character (λ line. no_line a.value members name (none_stand a.value members name h.first) x i (on.file ∙ line))
    where
      character_at : (x : Part) → IsPart a.value x → (o : ℕ) → o < x.len → IsCharacter a.value (along x.start o)
      character_at x part zero less = subst (λ (q : Pos). IsCharacter a.value q) (λ k. record { file = x.start.file; at = start k }) part.held
        where
          start : x.start.at ≡ x.start.at + 0
          start = omega arith
      character_at x part (suc o) less = (part.goes_on (suc o) (omega arith) less).0

  not_kept : (p : Pos) → kept_at a.value.table p.file ≡ None → InText a members name h p → ⊥
  not_kept p e t = none-some t.file (sym e ∙ t.is_kept)

  -- the tables make the renaming of the class
  pub renaming_same : renaming_by m ≡ renaming_of a.value members name
  renaming_same = tables_same a.value members name m are

  -- ---- files

  editing_same : (n : ℕ) (bytes : List ℕ) → editing_by m n bytes ≡ respelled members name n bytes
  unfolding editing_by respelled
  editing_same n bytes =
      let by : Putting = λ at c. put_by m (pos n at) c in
      let same : by ≡ putting members name n = λ i at c. put_same a.value members name m are (pos n at) c i in
      ap (λ (put : Putting). edited put bytes) same

  found_same : (n : ℕ) (path : List ℕ) (f : Found) → slice_get a.value.table n ≡ Some (entry path f) → kept_edited (editing_by m n) f ≡ edited_found (respelled members name n) f
  found_same n path Lines at = refl
  found_same n path Absent at = refl
  found_same n path (Unopened bytes) at =
      ap Unopened (sym (respelled_same members name n bytes (λ x i file.
      let none : kept_at a.value.table x.start.file ≡ None = ap (kept_at a.value.table) file ∙ ap (option_and_then (kept_in n)) at in
      let part = member_part x i in
      let some = part.some in
      not_kept x.start none (held_in_text x i x.start (first_held x some)))))
    where
      first_held : (x : Part) → 0 < x.len → holds x x.start ≡ true
      first_held x some = holds_from x x.start (record { file = refl; from = omega arith; less = omega (arith, some) })
  found_same n path (Opened bytes) at = ap Opened (editing_same n bytes)
  found_same n path (Made bytes) at = ap Made (editing_same n bytes ∙ made_stays a members name h n path bytes at)

  table_same : (n : ℕ) (table : Table) → ((k : ℕ) (e : Entry) → slice_get table k ≡ Some e → slice_get a.value.table (n + k) ≡ Some e)
      → edited_front (editing_by m) n (length table) table ≡ edited_from (respelled members name) n table
  unfolding edited_front
  table_same n [] all = refl
  table_same n (e ∷ table) all =
      let here : n + 0 ≡ n = omega arith in
      ap (λ (f : Found). entry e.path f ∷ edited_front (editing_by m) (suc n) (length table) table)
      (found_same n e.path e.found (ap (slice_get a.value.table) (sym here) ∙ all 0 e refl))
      ∙ ap (λ (t : Table). entry e.path (edited_found (respelled members name n) e.found) ∷ t)
      (table_same (suc n) table (λ k x at. (let next : suc n + k ≡ n + suc k = omega arith in ap (slice_get a.value.table) next ∙ all (suc k) x at)))

  -- ---- the analysis

  pub analysis_same : renamed_by m a.value ≡ renamed_analysis (renaming_of a.value members name) (respelled members name) a.value
  analysis_same =
      ap (λ (r : Renaming). analysis_and a.value.workspace (map (renamed_unit_analysis r) a.value.units) (edited_front (editing_by m) 0 (length a.value.table) a.value.table)) renaming_same
      ∙ ap (λ (t : Table). analysis_and a.value.workspace (map (renamed_unit_analysis (renaming_of a.value members name)) a.value.units) t)
      (table_same 0 a.value.table (λ k e at. at_zero k e at))
    where
      at_zero : (k : ℕ) (e : Entry) → slice_get a.value.table k ≡ Some e → slice_get a.value.table (0 + k) ≡ Some e
      at_zero k e at = let same : 0 + k ≡ k = omega arith in ap (slice_get a.value.table) same ∙ at
