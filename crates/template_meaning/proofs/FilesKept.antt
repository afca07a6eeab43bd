-- The files that hold lists of the functions are kept: the first character of a token that no macro put in stands in one.
use Rattle.std.proofs.Common.{◌≡◌, ℕ, zero, suc, true, false, List, [], length, Option, None, Some, ◌⊎◌, inl, inr, refl, sym, ap, subst, ◌∙◌}
use Rattle.std.specs.Prelude.{slice_get}
use Rattle.std.specs.Option.{option_map_or, option_and_then}
use Rattle.std.proofs.lemmas.Bool.{and_parts, false≢true}
use Rattle.std.proofs.lemmas.Option.{none-some, same_Some}
use Rattle.cs_base.specs.declared.positions.Part.{Part}
use Rattle.cs_base.specs.declared.positions.Pos.{Pos}
use Rattle.cs_base.specs.Token.{Token, origin_at}
use Rattle.lexer.specs.Places.{pos, origins_from}
use Rattle.lexer.specs.Tokens.{tokens_of}
use Rattle.source_files.specs.Files.{Source, SourceFile, Table}
use Rattle.source_files.specs.KeptFiles.{KeptValue, kept_at}
use Rattle.source_files.specs.Sources.{source_at}
use Rattle.unit_laws.specs.UnitLinks.{IsIn}
use Rattle.unit_steps.specs.Texts.{UnitTextValue}
use Rattle.ws_file.specs.Workspace.{WorkspaceValue}
use Rattle.analysis.specs.Analysis.{UnitAnalysis, AnalysisValue}
use Rattle.expansion_laws.proofs.ListLemmas.{AllToks, each_tok, toks_at}
use Rattle.include_tree.proofs.StayingLemmas.{source-grown}
use Rattle.unit_laws.proofs.DoneLemmas.{UnitRules}
use Rattle.unit_laws.proofs.NoteLemmas.{TextHas}
use Rattle.unit_laws.proofs.PartLemmas.{from_files}
use Rattle.unit_laws.proofs.TextLemmas.{IsText, text_is, unit_text_has}
use Rattle.edited_unit_laws.proofs.FileLemmas.{token_stands}
use Rattle.edited_unit_laws.proofs.ListLemmas.{In}
use Rattle.edited_unit_laws.proofs.TracedLemmas.{source_of_kept}
use Rattle.edited_unit_laws.proofs.AnalysedUnitLemmas.{IsUnit, unit_is}
use Rattle.template_rules.specs.FileLists.{all_found, lists_in}
use Rattle.template_rules.specs.Functions.{origin_of}
use Rattle.template_rules.specs.MacroOffences.{is_direct_at, is_direct}
use Rattle.template_meaning.specs.Accepted.{IsAccepted}
use Rattle.template_meaning.specs.Clear.{ListIsClear}
use Rattle.template_meaning.proofs.Clear.{units_are_clear}
use Rattle.template_meaning.proofs.FilesHeld.{IsListIn, list_in}
use Rattle.template_meaning.proofs.TablesEdited.{kept_entry}

-- a file of this number is kept
abbrev pub IsKept : Table → ℕ → Type 0
IsKept table number = (f : KeptValue) × (kept_at table number ≡ Some f)

-- ---- Tokens of a unit

module _ (a : AnalysisValue) where
  -- where the token comes from no macro, its first character stands in a kept file
  StandsInFile : Token → Type 0
  StandsInFile t = t.direct ≡ true → (p : Pos) → origin_at t 0 ≡ Some p → IsKept a.table p.file

  first_origin : (number at n : ℕ) (p : Pos) → option_and_then (λ (o : Option Pos). o) (slice_get (origins_from number at n) 0) ≡ Some p → p.file ≡ number
  first_origin number at zero p e = absurd (none-some p e)
  first_origin number at (suc n) p e = ap (λ (q : Pos). q.file) (sym (same_Some (pos number at) p e))

  file_toks_stand : (n : ℕ) (file : SourceFile) → source_at a.table n ≡ Some file → AllToks StandsInFile file.text.toks
  unfolding StandsInFile
  file_toks_stand n file is =
      let s = source_of_kept a.table n file is in
      let x = kept_entry a.table n s.kept s.is_kept in
      each_tok StandsInFile file.text.toks (λ t k at direct p e.
      let i : In t (tokens_of s.kept.number s.kept.bytes) = (k, ap (λ (ts : List Token). slice_get ts k) (sym s.toks) ∙ at) in
      let there = token_stands s.kept.number s.kept.bytes t i in
      let number : p.file ≡ s.kept.number = first_origin s.kept.number t.at.at (length t.text) p
      (ap (λ (os : List (Option Pos)). option_and_then (λ (o : Option Pos). o) (slice_get os 0)) (sym there.origins) ∙ e) in
      (s.kept, ap (kept_at a.table) (number ∙ x.same) ∙ s.is_kept))

  module _ (u : UnitAnalysis) (h : IsUnit a.table u) where
    is_done : IsText h.source h.number h.unit h.before h.text
    is_done = text_is h.source h.number h.unit h.before h.text h.is_text

    rules : UnitRules StandsInFile (IsIn (let d = is_done in d.did.notes)) h.text.after.table
    unfolding StandsInFile
    rules = record {
      spaced = λ t gap k. k;
      moved = λ t k direct. absurd (false≢true direct);
      placed = λ name t gap here k direct. absurd (false≢true direct);
      items = λ number k evaluated before file i is at told.
          from_files StandsInFile h.text.after.table (λ n f s. file_toks_stand n f (source-grown h.text.after.table a.table n f h.grown s)) number k evaluated file i is at;
      lines = λ name run before more here spelled told direct. absurd (false≢true direct);
      numbers = λ name n run before here low told direct. absurd (false≢true direct);
      answers = λ word b here told direct. absurd (false≢true direct);
      paths = λ path name here direct. absurd (false≢true direct);
      strings = λ name gap ts s here all is direct. absurd (false≢true direct);
      pastes = λ name x y z run before here px py is told direct. absurd (false≢true direct);
    }

    toks_stand : TextHas StandsInFile u.text
    toks_stand =
        let d = is_done in
        let P : UnitTextValue → Type 0 = TextHas StandsInFile in
        let R : Table → Type 0 = λ table. UnitRules StandsInFile (IsIn d.did.notes) table in
        subst P h.own (unit_text_has StandsInFile h.source h.number h.unit h.before h.text d (subst R (sym d.table) rules))

    pub direct_kept : (k : ℕ) (p : Pos) → is_direct_at u.text.toks k ≡ true → origin_of u.text.toks k ≡ Some p → IsKept a.table p.file
    unfolding StandsInFile
    direct_kept k p direct origin = by (slice_get u.text.toks k) refl direct origin
      where
        by : (o : Option Token) → slice_get u.text.toks k ≡ o → option_map_or (λ (t : Token). t.direct) o false ≡ true → option_and_then (λ (t : Token). origin_at t 0) o ≡ Some p → IsKept a.table p.file
        by None at d e = absurd (false≢true d)
        by (Some t) at d e = toks_at StandsInFile u.text.toks (let all = toks_stand in all.toks) t k at d p e

-- ---- Files with lists

module _ (source : Source) (ws : WorkspaceValue) (a : AnalysisValue) (members : List Part) (order : List ℕ) (h : IsAccepted source ws a members order) where
  list_direct : (number : ℕ) (x : IsListIn a members number) → is_direct x.unit.text.toks x.list ≡ true
  list_direct number x = by x.among
    where
      clear : (n : ℕ) → ListIsClear a members x.unit n x.list → is_direct x.unit.text.toks x.list ≡ true
      clear n c = c.direct

      by : In x.list x.unit.bound.declarators ⊎ In x.list x.unit.bound.calls → is_direct x.unit.text.toks x.list ≡ true
      by (inl i) =
          let u = units_are_clear source ws a members order h x.unit x.there in
          let d = u.declarators x.list i x.own in
          clear _ d.list
      by (inr i) =
          let u = units_are_clear source ws a members order h x.unit x.there in
          let d = u.calls x.list i x.own in
          clear _ d.list

  pub files_kept : (number : ℕ) → (lists_in (all_found members a) number ≡ [] → ⊥) → IsKept a.table number
  files_kept number some =
      let x = list_in a members number some in
      let marks = (and_parts (is_direct_at x.unit.text.toks x.list.name) _ (list_direct number x)).1 in
      let begin = (and_parts (is_direct_at x.unit.text.toks x.list.begin) _ marks).0 in
      subst (IsKept a.table) x.file (direct_kept a x.unit (unit_is source ws a h.analysed x.unit x.there) x.list.begin x.at begin x.origin)
