-- Tokens of units have an origin for each character, or none; those that are spelled as identifiers have each.
use Rattle.std.proofs.Common.{◌≡◌, ℕ, zero, suc, ◌+◌, ◌*◌, Bool, true, false, codes, List, [], ◌∷◌, ◌++◌, length, Option, None, Some, Ok, Err, Result, inl, inr, refl, sym, ap, subst, ◌∙◌, length-append}
use Rattle.std.specs.Prelude.{◌⊎◌, ◌^◌, nat_lt, slice_get, cond, unwrap_or}
use Rattle.std.specs.List.{flat_map, list_all}
use Rattle.std.specs.Str.{bytes_eq}
use Rattle.std.specs.Fmt.{decimal}
use Rattle.std.specs.Option.{option_and_then}
use Rattle.std.proofs.lemmas.Bool.{and_parts}
use Rattle.std.proofs.lemmas.Option.{same_Some}
use Rattle.std.proofs.lemmas.List.{length-replicate}
use Rattle.std.proofs.lemmas.List.Folds.{list_all-append}
use Rattle.cs_base.specs.declared.positions.Pos.{Pos}
use Rattle.cs_base.specs.Token.{Token}
use Rattle.lexer.specs.Characters.{double_quote, is_word}
use Rattle.lexer.specs.FileText.{TextValue, file_text}
use Rattle.lexer.specs.Places.{pos, origins_from}
use Rattle.lexer.specs.Tokens.{tokens_of, firsts_of}
use Rattle.lexer.proofs.OriginLemmas.{length-origins}
use Rattle.macro_body.specs.Below.paste_origin.Strings.{string_text}
use Rattle.macro_body.specs.Substitution.{put_in, number_token, line_number, digit_origins, path_text}
use Rattle.macro_body.proofs.PredefinedLemmas.{length-digit_origins as digits_length}
use Rattle.unit_steps.specs.Conditions.{answer_for}
use Rattle.source_files.specs.Files.{Table, SourceFile, source_file}
use Rattle.source_files.specs.KeptFiles.{KeptValue, kept_at}
use Rattle.unit_steps.specs.Notes.{Note}
use Rattle.source_files.specs.Sources.{read_as, source_kept, source_at}
use Rattle.unit_steps.specs.declared.events.Event.{Event}
use Rattle.unit_steps.specs.declared.events.EventKind.TheVariants as kind
use Rattle.source_files.specs.Tables.{IsGrown}
use Rattle.unit_steps.specs.Texts.{UnitTextValue, unit_text}
use Rattle.include_tree.proofs.StayingLemmas.{source-grown}
use Rattle.expansion_laws.specs.Spelled.{fits, is_spelled}
use Rattle.expansion_laws.proofs.ListLemmas.{AllToks, each_tok, toks_at, toks_more, toks_pass}
use Rattle.expansion_laws.proofs.ShapeLemmas.{words_are_names}
use Rattle.expansion_laws.proofs.StringLemmas.{IsEach, string_long}
use Rattle.expansion_laws.proofs.TellingLemmas.{string_is}
use Rattle.unit_laws.specs.UnitLinks.{IsIn}
use Rattle.unit_laws.specs.UnitTokens.{BringsLine}
use Rattle.unit_laws.proofs.PartLemmas.{from_files}
use Rattle.unit_laws.proofs.SpellingLemmas.{files_are_spelled}
use Rattle.unit_laws.proofs.TextLemmas.{line_event, number_among, answer_among}
use Rattle.analysis.specs.Below.eclass_map.Positions.{along}
use Rattle.analysis.specs.Analysis.{AnalysisValue}
use Rattle.analysis.specs.FileTokens.{file_tokens, numbers_brought, number_of_event, number_for, span_of}
use Rattle.analysis.specs.Parts.{Begins}
use Rattle.analysis.proofs.NamingLemmas.{in_left, in_right}
use Rattle.expansion_laws.proofs.PiecesLemmas.{glue_is, quoted_fails}
use Rattle.unit_laws.proofs.DoneLemmas.{UnitRules}
use Rattle.analysis.proofs.ProcessedLemmas.{text_told}
use Rattle.cs_base.proofs.FileMapLemmas.{bytes_eq-same}
use Rattle.edited_unit_laws.proofs.ListLemmas.{In, in_flat}
use Rattle.edited_unit_laws.proofs.FileLemmas.{token_stands}
use Rattle.edited_unit_laws.proofs.TableTokenLemmas.{file_token, span_is}

-- ---- source files

read_kept : (number : ℕ) (path : List ℕ) (r : Result TextValue _) (file : SourceFile) → read_as number path r ≡ Some file → (text : TextValue) × (r ≡ Ok text) × (file.text ≡ text)
read_kept number path (Ok text) file e =
    let same : source_file number path text ≡ file = same_Some (source_file number path text) file e in
    (text, refl, sym (ap (λ (f : SourceFile). f.text) same))
read_kept number path (Err fault) file e = absurd (cc)

-- the kept file of a source file
pub record IsSource (table : Table) (n : ℕ) (file : SourceFile) : Type 0 where
  pub kept : KeptValue
  pub is_kept : kept_at table n ≡ Some kept
  pub toks : file.text.toks ≡ tokens_of kept.number kept.bytes
  pub firsts : file.text.firsts ≡ firsts_of kept.bytes

source_by : (table : Table) (n : ℕ) (file : SourceFile) (o : Option KeptValue) → kept_at table n ≡ o → option_and_then source_kept o ≡ Some file → IsSource table n file
source_by table n file None is e = absurd (cc)
source_by table n file (Some k) is e =
    let r = read_kept k.number k.path (file_text k.number k.bytes) file e in
    let told = text_told k.number k.bytes r.0 r.1 in
    record {
      kept = k;
      is_kept = is;
      toks = ap (λ (t : TextValue). t.toks) r.2 ∙ told.0;
      firsts = ap (λ (t : TextValue). t.firsts) r.2 ∙ told.1;
    }

pub source_of_kept : (table : Table) (n : ℕ) (file : SourceFile) → source_at table n ≡ Some file → IsSource table n file
source_of_kept table n file e = source_by table n file (kept_at table n) refl e

-- ---- characters

-- Each of these characters stands behind the one before it, the first of them behind p, or begins a file token.
abbrev pub GoOn : AnalysisValue → Pos → List (Option Pos) → Type 0
GoOn a p [] = Unit {0}
GoOn a p (None ∷ os) = ⊥
GoOn a p (Some q ∷ os) = ((q ≡ along p 1) ⊎ Begins a q) × GoOn a q os

-- The same, and the first of them begins one.
abbrev pub AreChained : AnalysisValue → List (Option Pos) → Type 0
AreChained a [] = Unit {0}
AreChained a (None ∷ os) = ⊥
AreChained a (Some p ∷ os) = Begins a p × GoOn a p os

module _ (a : AnalysisValue) where
  on_both : (p : Pos) (os ps : List (Option Pos)) → GoOn a p os → AreChained a ps → GoOn a p (os ++ ps)
  on_both p [] [] h k = tt
  on_both p [] (None ∷ ps) h k = absurd k
  on_both p [] (Some q ∷ ps) h k = (inr k.0, k.1)
  on_both p (None ∷ os) ps h k = absurd h
  on_both p (Some q ∷ os) ps h k = (h.0, on_both q os ps h.1 k)

  chained_both : (os ps : List (Option Pos)) → AreChained a os → AreChained a ps → AreChained a (os ++ ps)
  chained_both [] ps h k = k
  chained_both (None ∷ os) ps h k = absurd h
  chained_both (Some p ∷ os) ps h k = (h.0, on_both p os ps h.1 k)

  on_file : (file at n : ℕ) → GoOn a (pos file at) (origins_from file (at + 1) n)
  on_file file at zero = tt
  on_file file at (suc n) = (inl refl, on_file file (at + 1) n)

  chained_file : (file at n : ℕ) → Begins a (pos file at) → AreChained a (origins_from file at n)
  chained_file file at zero b = tt
  chained_file file at (suc n) b = (b, on_file file at n)

  on_line : (at n : ℕ) → GoOn a (pos 0 at) (digit_origins (at + 1) n)
  on_line at zero = tt
  on_line at (suc n) = (inl refl, on_line (at + 1) n)

  chained_line : (at n : ℕ) → Begins a (pos 0 at) → AreChained a (digit_origins at n)
  chained_line at zero b = tt
  chained_line at (suc n) b = (b, on_line at n)

-- ---- tokens

-- A token has an origin for each character, or none; one that is spelled as identifiers are is made of whole file
-- tokens.
pub record Traced (a : AnalysisValue) (t : Token) : Type 0 where
  pub each : length t.origins ≡ length t.text
  pub chained : list_all is_word t.text ≡ true → AreChained a t.origins

traced_as : (a : AnalysisValue) (t u : Token) → u.text ≡ t.text → u.origins ≡ t.origins → Traced a t → Traced a u
traced_as a t u same origins h = record {
  each = ap length origins ∙ h.each ∙ ap length (sym same);
  chained = λ words. subst (AreChained a) (sym origins) (h.chained (ap (list_all is_word) (sym same) ∙ words));
}

quote_no_word : is_word double_quote ≡ false
quote_no_word = refl

-- what begins with a double quote is no such text
quoted : (text : List ℕ) (rest : List ℕ) → text ≡ double_quote ∷ rest → list_all is_word text ≡ true → ⊥
quoted text rest e words = quoted_fails is_word text rest quote_no_word e words

-- ---- what begins a file token

span_first : (t : Token) (p : Pos) (os : List (Option Pos)) → t.origins ≡ Some p ∷ os → (span_of t).start ≡ p
span_first t p os e = ap (λ (origins : List (Option Pos)). unwrap_or (option_and_then (λ (o : Option Pos). o) (slice_get origins 0)) (pos 0 0)) e

pub begins_by : (a : AnalysisValue) (t : Token) (p : Pos) (os : List (Option Pos)) → In t (file_tokens a) → t.origins ≡ Some p ∷ os → Begins a p
begins_by a t p os i e = (span_of t, span_is a t i, span_first t p os e)

-- the origins of a number
digits_begin : (a : AnalysisValue) (t : Token) (at n : ℕ) → In t (file_tokens a) → t.origins ≡ digit_origins at n → AreChained a t.origins
digits_begin a t at zero i e = subst (AreChained a) (sym e) tt
digits_begin a t at (suc n) i e = subst (AreChained a) (sym e) (chained_line a at (suc n) (begins_by a t (pos 0 at) (digit_origins (at + 1) n) i e))

file_begins : (a : AnalysisValue) (t : Token) (file at n : ℕ) → In t (file_tokens a) → t.origins ≡ origins_from file at n → AreChained a t.origins
file_begins a t file at zero i e = subst (AreChained a) (sym e) tt
file_begins a t file at (suc n) i e = subst (AreChained a) (sym e) (chained_file a file at (suc n) (begins_by a t (pos file at) (origins_from file (at + 1) n) i e))

-- ---- numbers that a unit brings

event_number : (e : Event) (name : Token) → BringsLine e name → In (line_number name) (number_of_event e)
event_number e name b =
    let one : number_of_event e ≡ line_number name ∷ [] =
    ap (λ k. number_for k e.def e.name) b.kind
    ∙ ap (λ d. number_for kind.Replaced d e.name) b.first
    ∙ ap (λ n. number_for kind.Replaced None n) b.name
    ∙ (let word : bytes_eq name.text (codes "__LINE__") ≡ true = ap (λ (w : List ℕ). bytes_eq w (codes "__LINE__")) b.spelled ∙ bytes_eq-same (codes "__LINE__") in
    ap (λ (c : Bool). cond c (line_number name ∷ []) []) word) in
    subst (λ (ts : List Token). In (line_number name) ts) (sym one) (0, refl)

pub line_told : (text : UnitTextValue) (e : Event) (name : Token) → IsIn text.events e → BringsLine e name → In (line_number name) (numbers_brought text)
line_told text e name at brings =
    in_left (line_number name) (flat_map number_of_event text.events) text.answers
    (in_flat number_of_event text.events e (line_number name) at (event_number e name brings))

pub answer_told : (text : UnitTextValue) (t : Token) → In t text.answers → In t (numbers_brought text)
answer_told text t at = in_right t (flat_map number_of_event text.events) text.answers at

-- ---- the tokens of a unit

pub spelled_fits : (t : Token) → is_spelled t ≡ true → fits t.kind t.text ≡ true
spelled_fits t h = (and_parts (fits t.kind t.text) (nat_lt t.line (2 ^ 64)) h).0

module _ (a : AnalysisValue) (text : UnitTextValue) (notes : List Note) (toks : List Token) (table : Table) (is_text : unit_text toks notes ≡ text)
    (grown : IsGrown table a.table) (brought : (t : Token) → In t (numbers_brought text) → In t (file_tokens a)) where
  pub line_in : (e : Event) (name : Token) → IsIn text.events e → BringsLine e name → In (line_number name) (file_tokens a)
  line_in e name at brings = brought (line_number name) (line_told text e name at brings)

  pub answer_in : (t : Token) → In t text.answers → In t (file_tokens a)
  answer_in t at = brought t (answer_told text t at)

  pub kept_traced : (number : ℕ) (file : SourceFile) → source_at table number ≡ Some file → AllToks (Traced a) file.text.toks
  kept_traced number file is =
      let later = source-grown table a.table number file grown is in
      let s = source_of_kept a.table number file later in
      each_tok (Traced a) file.text.toks (λ t k at.
      let i : In t (tokens_of s.kept.number s.kept.bytes) = (k, ap (λ (ts : List Token). slice_get ts k) (sym s.toks) ∙ at) in
      let there = token_stands s.kept.number s.kept.bytes t i in
      record {
        each = ap length there.origins ∙ length-origins s.kept.number t.at.at (length t.text);
        chained = λ words.
            let spelled : is_spelled t ≡ true =
            toks_at (λ v. is_spelled v ≡ true) file.text.toks (toks_pass is_spelled file.text.toks (files_are_spelled table number file is)) t k at in
            let parted = words_are_names t.kind t.text (spelled_fits t spelled) words in
            file_begins a t s.kept.number t.at.at (length t.text) (file_token a number s.kept t s.is_kept i parted) there.origins;
      })

  answer_traced : (word : Token) (b : Bool) → In (answer_for word b) (file_tokens a) → Traced a (answer_for word b)
  answer_traced word true i = record { each = refl; chained = λ words. (begins_by a (answer_for word true) (pos 0 8) [] i refl, tt) }
  answer_traced word false i = record { each = refl; chained = λ words. (begins_by a (answer_for word false) (pos 0 0) [] i refl, tt) }

  pub rules_traced : UnitRules (Traced a) (IsIn notes) table
  rules_traced = record {
    spaced = λ t gap h. traced_as a t (record t { gap = gap }) refl refl h;
    moved = λ t h. traced_as a t (record t { direct = false }) refl refl h;
    placed = λ name t gap here h. traced_as a t (put_in name gap t) refl refl h;
    items = λ number k evaluated before file i is at told. from_files (Traced a) table kept_traced number k evaluated file i is at;
    lines = λ name run before more here spelled told.
        let e = line_event text notes toks name run before more is_text spelled told in
        record {
          each = digits_length (8 * name.line) (length (decimal name.line));
          chained = λ words. digits_begin a (line_number name) (8 * name.line) (length (decimal name.line)) (line_in e.0 name e.1.0 e.1.1) refl;
        };
    numbers = λ name n run before here low told. record {
      each = digits_length (8 * n) (length (decimal n));
      chained = λ words. digits_begin a (number_token name n) (8 * n) (length (decimal n)) (answer_in (number_token name n) (number_among text notes toks (number_token name n) run before is_text told)) refl;
    };
    answers = λ word b here told. answer_traced word b (answer_in (answer_for word b) (answer_among text notes toks (answer_for word b) is_text told));
    paths = λ path name here. record {
      each = length-replicate (length (path_text path)) None;
      chained = λ words. absurd (quoted (path_text path) _ refl words);
    };
    strings = λ name gap ts s here all is.
        let made = string_is ts s is in
        let each = toks_more (Traced a) IsEach ts all (λ t h. h.each) in
        traced_as a s (put_in name gap s) refl refl
        (subst (Traced a) (sym made) (record { each = string_long ts each; chained = λ words. absurd (quoted (string_text ts) _ refl words) }));
    pastes = λ name x y z run before here px py is told.
        let g = glue_is x y z is in
        let both : Traced a (record x { text = x.text ++ y.text; origins = x.origins ++ y.origins }) = record {
          each = length-append x.origins y.origins ∙ ap (λ (n : ℕ). n + length y.origins) px.each ∙ ap (λ (n : ℕ). length x.text + n) py.each ∙ sym (length-append x.text y.text);
          chained = λ words.
              let parts = and_parts (list_all is_word x.text) (list_all is_word y.text) (sym (list_all-append is_word x.text y.text) ∙ words) in
              chained_both a x.origins y.origins (px.chained parts.0) (py.chained parts.1);
        } in
        traced_as a (record x { text = x.text ++ y.text; origins = x.origins ++ y.origins }) (put_in name x.gap z)
        (ap (λ (t : Token). t.text) (sym g.2)) (ap (λ (t : Token). t.origins) (sym g.2)) both;
  }
