-- Identifiers and punctuators of units occur: each is one of a kept file, or a pasted one.
use Rattle.std.proofs.Common.{◌≡◌, ℕ, Bool, true, false, List, Some, refl, sym, ap, subst, ◌∙◌}
use Rattle.std.specs.Prelude.{Option, slice_get}
use Rattle.std.specs.List.{flat_map}
use Rattle.cs_base.specs.declared.positions.Pos.{Pos}
use Rattle.cs_base.specs.declared.tokens.Kind.{Kind}
use Rattle.cs_base.specs.declared.tokens.Kind.TheVariants.{Number, Str}
use Rattle.cs_base.specs.Token.{Token}
use Rattle.macro_body.specs.Below.paste_origin.Strings.{string_text, string_origins, string_token}
use Rattle.line_shape.specs.Signs.{is_identifier, is_punctuator}
use Rattle.macro_body.specs.Notes as expansion
use Rattle.unit_steps.specs.Below.macro_expand.Renaming.{occurs}
use Rattle.macro_body.specs.Substitution.{put_in, number_token, line_number, path_string}
use Rattle.unit_steps.specs.Conditions.{answer_for}
use Rattle.source_files.specs.Files.{SourceFile, Table}
use Rattle.source_files.specs.Tables.{IsGrown}
use Rattle.unit_steps.specs.Notes.{Note, Happened, pasted_of}
use Rattle.source_files.specs.Sources.{source_at}
use Rattle.unit_steps.specs.Texts.{UnitTextValue, unit_text}
use Rattle.include_tree.proofs.StayingLemmas.{source-grown}
use Rattle.expansion_laws.proofs.ListLemmas.{AllToks, each_tok, toks_at}
use Rattle.expansion_laws.proofs.TellingLemmas.{string_is}
use Rattle.unit_laws.specs.UnitLinks.{IsIn}
use Rattle.unit_laws.proofs.DoneLemmas.{UnitRules}
use Rattle.unit_laws.proofs.NoteLemmas.{TextHas, EventHas, flat_in, in_at}
use Rattle.unit_laws.proofs.PartLemmas.{from_files}
use Rattle.unit_laws.proofs.TextLemmas.{IsText, text_is, unit_text_has}
use Rattle.analysis.specs.Analysis.{UnitAnalysis, AnalysisValue}
use Rattle.rename_meaning.specs.Occurring.{occurring_in}
use Rattle.edited_unit_laws.proofs.ListLemmas.{In}
use Rattle.rename_meaning.proofs.OccurringLemmas.{file_tokens_occur, pasted_tokens_occur}
use Rattle.edited_unit_laws.proofs.TracedLemmas.{source_of_kept}
use Rattle.edited_unit_laws.proofs.AnalysedUnitLemmas.{IsUnit, unit_is}
use Rattle.rename_meaning.specs.ToldNames.{UnitsOccur}

-- the token occurs
abbrev pub Occurs : AnalysisValue → Token → Type 0
Occurs a t = occurs (occurring_in a) t ≡ true

-- what is neither an identifier nor a punctuator is said to occur
pub other_occurs : (a : AnalysisValue) (k : Kind) (origins : List (Option Pos)) (text : List ℕ) → is_identifier k ≡ false → is_punctuator k ≡ false
    → occurring_in a k origins text ≡ true
unfolding occurring_in
other_occurs a k origins text no_name no_sign = rw (no_name, no_sign) refl

module _ (a : AnalysisValue) (u : UnitAnalysis) (i : In u a.units) (notes : List Note) (toks : List Token) (table : Table) (is_text : unit_text toks notes ≡ u.text)
    (grown : IsGrown table a.table) where
  kept_occur : (number : ℕ) (file : SourceFile) → source_at table number ≡ Some file → AllToks (Occurs a) file.text.toks
  kept_occur number file is =
      let s = source_of_kept a.table number file (source-grown table a.table number file grown is) in
      each_tok (Occurs a) file.text.toks (λ t k at.
      file_tokens_occur a t
      (record { number = number; file = s.kept; is_kept = s.is_kept; there = (k, ap (λ (ts : List Token). slice_get ts k) (sym s.toks) ∙ at) }))

  pasted_occurs : (run : Bool) (before : ℕ) (x y z : Token) → IsIn notes (Happened run before (expansion.Pasted x y z)) → Occurs a z
  pasted_occurs run before x y z told =
      let there : IsIn (flat_map pasted_of notes) z = flat_in pasted_of notes (Happened run before (expansion.Pasted x y z)) z told.0 told.1 (0, refl) in
      let own : IsIn u.text.pasted z = subst (λ (v : UnitTextValue). IsIn v.pasted z) is_text there in
      pasted_tokens_occur a z (record { unit = u; there = i; pasted = own })

  pub rules_occur : UnitRules (Occurs a) (IsIn notes) table
  rules_occur = record {
    spaced = λ t gap h. h;
    moved = λ t h. h;
    placed = λ name t gap here h. h;
    items = λ number k evaluated before file item is at told. from_files (Occurs a) table kept_occur number k evaluated file item is at;
    lines = λ name run before more here spelled told. other_occurs a Number (line_number name).origins (line_number name).text refl refl;
    numbers = λ name n run before here low told. other_occurs a Number (number_token name n).origins (number_token name n).text refl refl;
    answers = λ word b here told. other_occurs a Number (answer_for word b).origins (answer_for word b).text refl refl;
    paths = λ path name here. other_occurs a Str (path_string path name).origins (path_string path name).text refl refl;
    strings = λ name gap ts s here all is.
        let made = string_is ts s is in
        let own : Occurs a (string_token (string_text ts) (string_origins ts)) = other_occurs a Str (string_origins ts) (string_text ts) refl refl in
        let P : Token → Type 0 = λ t. Occurs a t in
        subst P (sym made) own;
    pastes = λ name x y z run before here px py is told. pasted_occurs run before x y (put_in name x.gap z) told;
  }

module _ (a : AnalysisValue) (u : UnitAnalysis) (i : In u a.units) (h : IsUnit a.table u) where
  is_done : IsText h.source h.number h.unit h.before h.text
  is_done = text_is h.source h.number h.unit h.before h.text h.is_text

  pub unit_occurs : TextHas (Occurs a) u.text
  unit_occurs =
      let P : UnitTextValue → Type 0 = TextHas (Occurs a) in
      let R : Table → Type 0 = λ table. UnitRules (Occurs a) (IsIn is_done.did.notes) table in
      let rules = rules_occur a u i is_done.did.notes is_done.did.value h.text.after.table (is_done.text ∙ h.own) h.grown in
      subst P h.own (unit_text_has (Occurs a) h.source h.number h.unit h.before h.text is_done (subst R (sym is_done.table) rules))

pub units_occur : UnitsOccur
units_occur = λ a members name h u i.
    let is = unit_is h.source h.workspace a.value h.accepted u i in
    let has = unit_occurs a.value u i is in
    record {
      toks = λ t j. toks_at (Occurs a.value) u.text.toks has.toks t j.0 j.1;
      told = λ t told.
          let among = told.among in
          let event = in_at (EventHas (Occurs a.value)) u.text.events has.events told.event among.0 among.1 in
          event.name t told.named;
    }
