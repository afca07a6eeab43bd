-- Tokens of units under a renaming: identifiers and punctuators are those of files or pasted ones, and what is no identifier
-- keeps its spelling, unless `#` made it: then it begins with a quote as before.
use Rattle.std.proofs.Common.{◌≡◌, ℕ, zero, suc, ◌*◌, Bool, true, false, List, [], ◌∷◌, ◌++◌, length, replicate, None, Some, inl, inr, refl, sym, ap, subst, ◌∙◌}
use Rattle.std.specs.Prelude.{◌⊎◌, Option, slice_get}
use Rattle.std.specs.Fmt.{decimal}
use Rattle.std.specs.List.{flat_map, list_all}
use Rattle.std.specs.Option.{is_none}
use Rattle.std.proofs.lemmas.List.{length-replicate}
use Rattle.cs_base.specs.declared.positions.Part.{Part}
use Rattle.cs_base.specs.declared.positions.Pos.{Pos}
use Rattle.cs_base.specs.declared.tokens.Kind.TheVariants.{Number, Str}
use Rattle.cs_base.specs.Token.{Token}
use Rattle.lexer.specs.Tokens.{tokens_of}
use Rattle.lexer.specs.Characters.{double_quote}
use Rattle.macro_body.specs.Below.paste_origin.Strings.{spellings_of, all_origins, string_text, string_origins, string_token}
use Rattle.line_shape.specs.Signs.{is_name}
use Rattle.macro_body.specs.Notes as expansion
use Rattle.unit_steps.specs.Below.macro_expand.Renaming.{Renaming, occurs, spelled}
use Rattle.macro_body.specs.Substitution.{put_in, number_token, line_number, path_string, path_text}
use Rattle.macro_body.proofs.PredefinedLemmas.{length-digit_origins as digits_length}
use Rattle.unit_steps.specs.Conditions.{answer_for}
use Rattle.source_files.specs.Files.{SourceFile, Table}
use Rattle.source_files.specs.Tables.{IsGrown}
use Rattle.unit_steps.specs.Notes.{Note, Happened, pasted_of}
use Rattle.source_files.specs.Sources.{source_at}
use Rattle.unit_steps.specs.Texts.{UnitTextValue, unit_text}
use Rattle.include_tree.proofs.StayingLemmas.{source-grown}
use Rattle.expansion_laws.proofs.ListLemmas.{AllToks, each_tok, toks_at, toks_more}
use Rattle.expansion_laws.proofs.StringLemmas.{IsEach, string_long}
use Rattle.expansion_laws.proofs.TellingLemmas.{string_is}
use Rattle.unit_laws.specs.UnitLinks.{IsIn as IsInList}
use Rattle.unit_laws.proofs.DoneLemmas.{UnitRules}
use Rattle.unit_laws.proofs.NoteLemmas.{TextHas, EventHas, flat_in, in_at}
use Rattle.unit_laws.proofs.PartLemmas.{from_files}
use Rattle.unit_laws.proofs.TextLemmas.{IsText, text_is, unit_text_has}
use Rattle.unit_laws.specs.ToldNames.{IsTold}
use Rattle.part_respell.specs.Respelled.{spelled_from}
use Rattle.analysis.specs.Analysed.{Analysed}
use Rattle.analysis.specs.Analysis.{UnitAnalysis, AnalysisValue}
use Rattle.rename_meaning.specs.Allowed.{IsAllowed}
use Rattle.rename_meaning.specs.KeptTokens.{Spells}
use Rattle.rename_meaning.specs.Occurring.{occurring_in}
use Rattle.rename_meaning.specs.Renamings.{KeepsUnedited}
use Rattle.rename_meaning.proofs.ApartLemmas.{parted_of, file_told, pasted_parted}
use Rattle.rename_meaning.proofs.KeptTokenLemmas.{other_same}
use Rattle.edited_unit_laws.proofs.ListLemmas.{In}
use Rattle.rename_meaning.proofs.OccurringLemmas.{file_tokens_occur, pasted_tokens_occur}
use Rattle.rename_meaning.proofs.OccurLemmas.{other_occurs}
use Rattle.edited_unit_laws.proofs.TracedLemmas.{source_of_kept}
use Rattle.edited_unit_laws.proofs.AnalysedUnitLemmas.{IsUnit, unit_is}

-- A string that begins with a quote, before and anew.
pub record IsQuoted (r : Renaming) (t : Token) : Type 0 where
  pub kind : t.kind ≡ Str
  pub before : List ℕ
  pub behind : List ℕ
  pub was : t.text ≡ double_quote ∷ before
  pub is : spelled r t ≡ double_quote ∷ behind

-- The token occurs, and keeps its spelling if it is no identifier and no such string.
pub record IsKept (a : AnalysisValue) (r : Renaming) (t : Token) : Type 0 where
  pub each : length t.origins ≡ length t.text
  pub occurring : occurs (occurring_in a) t ≡ true
  pub stays : is_name t ≡ false → (spelled r t ≡ t.text) ⊎ IsQuoted r t

none_traced : (n : ℕ) → list_all (λ (o : Option Pos). is_none o) (replicate n None) ≡ true
none_traced zero = refl
none_traced (suc n) = none_traced n

module _ (a : Analysed) (members : List Part) (name : List ℕ) (r : Renaming) (h : IsAllowed a members name) (spells : Spells members name r)
    (keeps : KeepsUnedited r) where
  abbrev Kept : Token → Type 0
  Kept t = IsKept a.value r t

  answer_each : (word : Token) (b : Bool) → length (answer_for word b).origins ≡ length (answer_for word b).text
  answer_each word true = refl
  answer_each word false = refl

  answer_stays : (word : Token) (b : Bool) → spelled r (answer_for word b) ≡ (answer_for word b).text
  answer_stays word true = (keeps.numbers 8 1 (answer_for word true).text).0
  answer_stays word false = (keeps.numbers 0 1 (answer_for word false).text).0

  string_quoted : (ts : List Token) → length (string_origins ts) ≡ length (string_text ts) → IsQuoted r (string_token (string_text ts) (string_origins ts))
  unfolding spelled_from
  string_quoted ts each = record {
    kind = refl;
    before = spellings_of ts ++ double_quote ∷ [];
    behind = spelled_from members name (all_origins ts ++ None ∷ []) (spellings_of ts ++ double_quote ∷ []);
    was = refl;
    is = spells (string_token (string_text ts) (string_origins ts)) each;
  }

  quoted_as : (s t : Token) → t.kind ≡ s.kind → t.text ≡ s.text → t.origins ≡ s.origins → IsQuoted r s → IsQuoted r t
  quoted_as s t kind text origins q = record {
    kind = kind ∙ q.kind;
    before = q.before;
    behind = q.behind;
    was = text ∙ q.was;
    is = ap (λ (os : List (Option Pos)). r.spell os t.text) origins ∙ ap (λ (w : List ℕ). r.spell s.origins w) text ∙ q.is;
  }

  moved_on : (s t : Token) → t.kind ≡ s.kind → t.text ≡ s.text → t.origins ≡ s.origins → (spelled r s ≡ s.text) ⊎ IsQuoted r s → (spelled r t ≡ t.text) ⊎ IsQuoted r t
  moved_on s t kind text origins (inl same) = inl (ap (λ (os : List (Option Pos)). r.spell os t.text) origins ∙ ap (λ (w : List ℕ). r.spell s.origins w) text ∙ same ∙ sym text)
  moved_on s t kind text origins (inr q) = inr (quoted_as s t kind text origins q)

  module _ (u : UnitAnalysis) (i : In u a.value.units) where
    module _ (notes : List Note) (toks : List Token) (table : Table) (is_text : unit_text toks notes ≡ u.text) (grown : IsGrown table a.value.table) where
      files_kept : (number : ℕ) (file : SourceFile) → source_at table number ≡ Some file → AllToks Kept file.text.toks
      files_kept number file is =
          let s = source_of_kept a.value.table number file (source-grown table a.value.table number file grown is) in
          each_tok Kept file.text.toks (λ t k at.
          let there : In t (tokens_of s.kept.number s.kept.bytes) = (k, ap (λ (ts : List Token). slice_get ts k) (sym s.toks) ∙ at) in
          let told = file_told a members name h number s.kept s.is_kept t there in
          record {
            each = told.each;
            occurring = file_tokens_occur a.value t (record { number = number; file = s.kept; is_kept = s.is_kept; there = there });
            stays = λ other. inl (other_same a members name r h spells t (parted_of a.value members t told) other);
          })

      pasted_kept : (run : Bool) (before : ℕ) (x y z : Token) → IsInList notes (Happened run before (expansion.Pasted x y z)) → Kept z
      pasted_kept run before x y z told =
          let there : IsInList (flat_map pasted_of notes) z = flat_in pasted_of notes (Happened run before (expansion.Pasted x y z)) z told.0 told.1 (0, refl) in
          let own : IsInList u.text.pasted z = subst (λ (v : UnitTextValue). IsInList v.pasted z) is_text there in
          let parted = pasted_parted a members name h z (record { unit = u; there = i; pasted = own }) in
          record {
            each = parted.each;
            occurring = pasted_tokens_occur a.value z (record { unit = u; there = i; pasted = own });
            stays = λ other. inl (other_same a members name r h spells z parted other);
          }

      rules_kept : UnitRules Kept (IsInList notes) table
      rules_kept = record {
        spaced = λ t gap k. record { each = k.each; occurring = k.occurring; stays = λ other. moved_on t (record t { gap = gap }) refl refl refl (k.stays other) };
        moved = λ t k. record { each = k.each; occurring = k.occurring; stays = λ other. moved_on t (record t { direct = false }) refl refl refl (k.stays other) };
        placed = λ from t gap here k. record { each = k.each; occurring = k.occurring; stays = λ other. moved_on t (put_in from gap t) refl refl refl (k.stays other) };
        items = λ number k evaluated before file item is at told. from_files Kept table files_kept number k evaluated file item is at;
        lines = λ from run before more here word told. record {
          each = digits_length (8 * from.line) (length (decimal from.line));
          occurring = other_occurs a.value Number (line_number from).origins (line_number from).text refl refl;
          stays = λ other. inl (keeps.numbers (8 * from.line) (length (decimal from.line)) (line_number from).text).0;
        };
        numbers = λ from n run before here low told. record {
          each = digits_length (8 * n) (length (decimal n));
          occurring = other_occurs a.value Number (number_token from n).origins (number_token from n).text refl refl;
          stays = λ other. inl (keeps.numbers (8 * n) (length (decimal n)) (number_token from n).text).0;
        };
        answers = λ word b here told. record {
          each = answer_each word b;
          occurring = other_occurs a.value Number (answer_for word b).origins (answer_for word b).text refl refl;
          stays = λ other. inl (answer_stays word b);
        };
        paths = λ path from here. record {
          each = length-replicate (length (path_text path)) None;
          occurring = other_occurs a.value Str (path_string path from).origins (path_string path from).text refl refl;
          stays = λ other. inl (keeps.untraced (path_string path from).origins (path_string path from).text (none_traced (length (path_text path)))).0;
        };
        strings = λ from gap ts s here all is.
            let made = string_is ts s is in
            let each = string_long ts (toks_more Kept IsEach ts all (λ t k. k.each)) in
            let own : Kept (string_token (string_text ts) (string_origins ts)) = record {
              each = each;
              occurring = other_occurs a.value Str (string_origins ts) (string_text ts) refl refl;
              stays = λ other. inr (string_quoted ts each);
            } in
            let k : Kept s = subst Kept (sym made) own in
            record { each = k.each; occurring = k.occurring; stays = λ other. moved_on s (put_in from gap s) refl refl refl (k.stays other) };
        pastes = λ from x y z run before here px py is told. pasted_kept run before x y (put_in from x.gap z) told;
      }

    is_unit : IsUnit a.value.table u
    is_unit = unit_is h.source h.workspace a.value h.accepted u i

    is_done : IsText is_unit.source is_unit.number is_unit.unit is_unit.before is_unit.text
    is_done = text_is is_unit.source is_unit.number is_unit.unit is_unit.before is_unit.text is_unit.is_text

    unit_kept : TextHas Kept u.text
    unit_kept =
        let d = is_done in
        let is = is_unit in
        let P : UnitTextValue → Type 0 = TextHas Kept in
        let R : Table → Type 0 = λ table. UnitRules Kept (IsInList d.did.notes) table in
        let rules = rules_kept d.did.notes d.did.value is.text.after.table (d.text ∙ is.own) is.grown in
        subst P is.own (unit_text_has Kept is.source is.number is.unit is.before is.text d (subst R (sym d.table) rules))

    -- so it is with each token of the unit
    pub tokens_kept : (t : Token) → In t u.text.toks → IsKept a.value r t
    tokens_kept t j =
        let has = unit_kept in
        toks_at Kept u.text.toks has.toks t j.0 j.1

    -- and with each name of which it tells
    pub told_kept : (t : Token) → IsTold u.text t → IsKept a.value r t
    told_kept t told =
        let has = unit_kept in
        let among = told.among in
        (in_at (EventHas Kept) u.text.events has.events told.event among.0 among.1).name t told.named
