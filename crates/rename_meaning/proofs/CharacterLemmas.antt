-- Characters of file tokens: they lie in tokens of kept files, or in the pseudo file of lines.
use Rattle.std.proofs.Common.{◌≡◌, ℕ, suc, ◌+◌, true, List, [], ◌∷◌, Option, None, Some, Ok, refl, sym, subst, ◌∙◌, arith}
use Rattle.std.specs.Prelude.{slice_get, unwrap_or}
use Rattle.std.specs.List.{flat_map}
use Rattle.std.specs.Option.{option_and_then}
use Rattle.cs_base.specs.declared.positions.Part.{Part}
use Rattle.cs_base.specs.declared.positions.Pos.{Pos}
use Rattle.cs_base.specs.Token.{Token, has_origins}
use Rattle.lexer.specs.Places.{pos}
use Rattle.lexer.specs.Tokens.{tokens_of}
use Rattle.analysis.specs.Below.eclass_map.Positions.{holds}
use Rattle.analysis.proofs.Below.eclass_map.TokenFacts.{holding}
use Rattle.ws_file.specs.Workspace.{WorkspaceValue}
use Rattle.source_files.specs.Files.{Source}
use Rattle.source_files.specs.KeptFiles.{kept_in, kept_at}
use Rattle.analysis.specs.Analysis.{UnitAnalysis, AnalysisValue, analysis_of}
use Rattle.analysis.specs.FileTokens.{table_tokens, numbers_brought, file_tokens, span_of}
use Rattle.analysis.specs.Parts.{IsCharacter}
use Rattle.analysis.proofs.NamingLemmas.{split_at, filter_in}
use Rattle.analysis.proofs.PlaceNameLemmas.{kept_number}
use Rattle.analysis.proofs.TokenPlaceLemmas.{tokens_in_line}
use Rattle.edited_unit_laws.proofs.ListLemmas.{In}
use Rattle.rename_meaning.proofs.MemberLemmas.{InFile}
use Rattle.edited_unit_laws.proofs.TableTokenLemmas.{in_table, span_among}
use Rattle.edited_unit_laws.proofs.AnalysedUnitLemmas.{unit_is, number_origin}

module _ (a : AnalysisValue) (source : Source) (ws : WorkspaceValue) (accepted : analysis_of source ws ≡ Ok a) where
  -- a number that a unit brought stands in the pseudo file of lines
  pub number_file : (t : Token) → (u : UnitAnalysis) → In u a.units → In t (numbers_brought u.text) → (span_of t).start.file ≡ 0
  number_file t u i j = by (slice_get t.origins 0) refl
    where
      by : (o : Option (Option Pos)) → slice_get t.origins 0 ≡ o → (unwrap_or (option_and_then (λ (x : Option Pos). x) o) (pos 0 0)).file ≡ 0
      by None e = refl
      by (Some None) e = refl
      by (Some (Some p)) e = number_origin a u i (unit_is source ws a accepted u i) t j 0 p e

  pub unit_of : (units : List UnitAnalysis) (t : Token) → In t (flat_map (λ (u : UnitAnalysis). numbers_brought u.text) units)
      → (u : UnitAnalysis) × In u units × In t (numbers_brought u.text)
  unit_of [] t i = absurd (let e = i.1 in cc)
  unit_of (u ∷ units) t i =
      split_at _ t (numbers_brought u.text) (flat_map (λ (v : UnitAnalysis). numbers_brought v.text) units) i.0 i.1 (λ j. (u, (0, refl), j))
      (λ j. let r = unit_of units t j in (r.0, (suc r.1.0, r.1.1), r.2))

  in_lines : (t : Token) (p : Pos) → In t (flat_map (λ (u : UnitAnalysis). numbers_brought u.text) a.units) → holds (span_of t) p ≡ true → p.file ≡ 0
  in_lines t p i held =
      let u = unit_of a.units t i in
      sym (holding (span_of t) p held).file ∙ number_file t u.0 u.1 u.2

  kept_token : (t : Token) (p : Pos) → In t (table_tokens 0 a.table) → holds (span_of t) p ≡ true → InFile a.table p t
  kept_token t p i held =
      let r = in_table a.table 0 t i in
      let same : 0 + r.0 ≡ r.0 = omega arith in
      let there : kept_at a.table r.0 ≡ Some r.1 = subst (λ (m : ℕ). option_and_then (kept_in m) (slice_get a.table r.0) ≡ Some r.1) same r.2 in
      let f = filter_in (λ (u : Token). has_origins u.kind) t (tokens_of r.1.number r.1.bytes) r.3 in
      let placed = (tokens_in_line r.1.number r.1.bytes).placed f.0.0 t f.0.1 in
      let number : r.0 ≡ p.file = sym (kept_number a.table r.0 r.1 there) ∙ sym placed ∙ (holding (span_of t) p held).file in
      record {
        file = r.1;
        is_kept = subst (λ (m : ℕ). kept_at a.table m ≡ Some r.1) number there;
        there = f.0;
        parted = f.1;
        held = held;
      }

  -- a character of a file token that does not stand in the pseudo file of lines
  pub character_file : (p : Pos) → IsCharacter a p → (p.file ≡ 0 → ⊥) → (t : Token) × InFile a.table p t
  unfolding file_tokens
  character_file p c no_line =
      let s = span_among (file_tokens a) c.1.0 c.0 c.1.1 in
      let held : holds (span_of s.0) p ≡ true = subst (λ (q : Part). holds q p ≡ true) (sym s.2) c.2 in
      split_at _ s.0 (table_tokens 0 a.table) (flat_map (λ (u : UnitAnalysis). numbers_brought u.text) a.units) s.1.0 s.1.1
      (λ j. (s.0, kept_token s.0 p j held))
      (λ j. absurd (no_line (in_lines s.0 p j held)))
