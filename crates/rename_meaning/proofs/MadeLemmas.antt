-- Strings and pasted tokens of a unit, made anew of renamed tokens.
use Rattle.std.proofs.Common.{◌≡◌, ℕ, zero, suc, ◌+◌, ◌==◌, Bool, true, false, List, ◌∷◌, ◌++◌, length, map, replicate, Option, Some, None, Ok, Err, inl, inr, refl, sym, ap, subst, ◌∙◌, arith, ◌*◌, length-append, []}
use Rattle.std.specs.Prelude.{cond, slice_get}
use Rattle.std.specs.List.{flat_map, list_all, list_any}
use Rattle.std.specs.Option.{option_map_or}
use Rattle.std.proofs.lemmas.Bool.{cases_Bool, and_parts, and_from, false_from_ne_true, both_ways}
use Rattle.std.proofs.lemmas.List.Folds.{list_all-append}
use Rattle.cs_base.specs.declared.positions.Part.{Part}
use Rattle.cs_base.specs.declared.positions.Pos.{Pos}
use Rattle.cs_base.specs.declared.tokens.Kind.{Kind}
use Rattle.cs_base.specs.declared.tokens.Kind.TheVariants.{Ident, Str}
use Rattle.cs_base.specs.Token.{Token, token}
use Rattle.lexer.specs.Characters.{double_quote, is_nondigit, is_word}
use Rattle.lexer.specs.OneToken.{one_token_of}
use Rattle.lexer.specs.Places.{pos}
use Rattle.lexer.specs.Spelling.{is_identifier_text, closes, is_plain_string_text}
use Rattle.line_shape.specs.Signs.{is_identifier, is_name}
use Rattle.macro_body.specs.Below.paste_origin.Pasting.{pasted_as, joined, glue_of}
use Rattle.macro_body.specs.Below.paste_origin.Strings.{NotAString, spellings_of, string_text, string_origins, string_token, stringize_of, all_origins}
use Rattle.macro_body.specs.Notes as expansion
use Rattle.unit_steps.specs.Below.macro_expand.Renaming.{Renaming, renamed, labelled_as}
use Rattle.source_files.specs.KeptFiles.{KeptValue}
use Rattle.unit_steps.specs.Notes.{Happened, pasted_of, Note}
use Rattle.unit_steps.specs.State.{Did}
use Rattle.unit_steps.specs.Texts.{UnitTextValue, unit_text}
use Rattle.expansion_laws.specs.Spelled.{is_spelled}
use Rattle.expansion_laws.specs.Telling.{IsPasted}
use Rattle.expansion_laws.proofs.ListLemmas.{AllToks, toks_at, each_tok, toks_more, toks_pass}
use Rattle.expansion_laws.proofs.PiecesLemmas.{glue_is}
use Rattle.expansion_laws.proofs.TellingLemmas.{string_is}
use Rattle.unit_laws.proofs.DoneLemmas.{HappenedSo, NotedSo, UnitRules}
use Rattle.unit_laws.proofs.NoteLemmas.{in_at, each_in, flat_in}
use Rattle.unit_laws.proofs.UnitLemmas.{unit_has}
use Rattle.part_respell.specs.Respelled.{member_over, put_at, put_for, spelled, spelled_from}
use Rattle.part_respell.proofs.PutLemmas.{first_put}
use Rattle.analysis.specs.Analysed.{Analysed}
use Rattle.analysis.specs.Analysis.{UnitAnalysis, AnalysisValue}
use Rattle.analysis.specs.FileTokens.{file_tokens, numbers_brought}
use Rattle.analysis.specs.Parts.{AreMembers}
use Rattle.analysis.proofs.NamingLemmas.{in_right, in_left}
use Rattle.rename_rules.specs.Offences.{header_places}
use Rattle.rename_rules.specs.Tokens.{holders, pasted_tokens, starts_in}
use Rattle.offences.specs.Tokens.{holds_member}
use Rattle.lexer.proofs.FitLemmas.{identifier-words}
use Rattle.lexer.proofs.NameLemmas.{identifier_on}
use Rattle.rename_meaning.specs.Allowed.{IsAllowed}
use Rattle.rename_meaning.specs.MadeTokens.{IsOutcome, IsMadeAnew, TokensAreMadeAnew, StringsAreOfRenamedTokens, HeadersStay}
use Rattle.rename_meaning.specs.Renamings.{renaming}
use Rattle.edited_unit_laws.proofs.ListLemmas.{In, all_at, flat_nil, in_flat}
use Rattle.rename_meaning.proofs.LinkLemmas.{IsWhole, pasted_whole, whole_chained}
use Rattle.unit_laws.proofs.NameLemmas.{kind_words}
use Rattle.rename_meaning.proofs.NoneLemmas.{NoneStand, none_stand, some_start, holder, holder_name}
use Rattle.rename_meaning.proofs.OneTokenLemmas.{one_identifier}
use Rattle.rename_meaning.proofs.PutLemmas.{put_words}
use Rattle.rename_meaning.proofs.RenamingLemmas.{spell-same}
use Rattle.rename_meaning.proofs.SpellLemmas.{spelled-kept, is_from}
use Rattle.rename_meaning.proofs.StringLemmas.{IsStringed, spell_append, trace_append, string_spelled, string_traced}
use Rattle.edited_unit_laws.proofs.TracedLemmas.{AreChained, Traced, spelled_fits, rules_traced, source_of_kept, line_in, answer_in, kept_traced}
use Rattle.edited_unit_laws.proofs.AnalysedUnitLemmas.{IsUnit, unit_is, unit_traced, no_lines, brought_in}
use Rattle.renamed.specs.Renamed.{spell_from, moved_in, move_to, trace_from}
use Rattle.std.specs.Fmt.{decimal}
use Rattle.std.proofs.lemmas.List.{length-replicate}
use Rattle.lexer.specs.Tokens.{tokens_of}
use Rattle.macro_body.specs.Substitution.{number_token, line_number, path_string, path_text}
use Rattle.macro_body.proofs.PredefinedLemmas.{length-digit_origins as digits_length}
use Rattle.source_files.specs.Files.{Table, SourceFile}
use Rattle.source_files.specs.Sources.{source_at}
use Rattle.source_files.specs.Tables.{IsGrown}
use Rattle.unit_steps.specs.Conditions.{answer_for}
use Rattle.include_tree.proofs.StayingLemmas.{source-grown}
use Rattle.expansion_laws.proofs.StringLemmas.{string_long}
use Rattle.expansion_laws.proofs.MadeLemmas.{fits_name}
use Rattle.unit_laws.proofs.PartLemmas.{from_files}
use Rattle.unit_laws.proofs.SpellingLemmas.{files_are_spelled}
use Rattle.unit_laws.proofs.TextLemmas.{line_event, number_among, answer_among}
use Rattle.rename_meaning.proofs.ApartLemmas.{file_told}
use Rattle.rename_meaning.proofs.PieceLemmas.{IsBuilt, fine_whole, whole_free, whole_both, whole_words, behind_whole, string_whole, each_built, closes_on, begins_there}
use Rattle.unit_laws.specs.UnitLinks.{IsIn as IsInList}

-- ---- tokens that stay

module _ (a : Analysed) (members : List Part) (name : List ℕ) (h : IsAllowed a members name) (u : UnitAnalysis) (i : In u a.value.units) where
  none : NoneStand a.value members name
  none = none_stand a.value members name h.first

  is_unit : IsUnit a.value.table u
  is_unit = unit_is h.source h.workspace a.value h.accepted u i

  free_by : (t : Token) → starts_in members t ≡ [] → holds_member members t ≡ false
  free_by t nothing = false_from_ne_true (holds_member members t) (λ held. some_start members t held nothing)

  header_free : (t : Token) → In t u.text.header → holds_member members t ≡ false
  unfolding header_places
  header_free t j =
      free_by t (flat_nil (starts_in members) u.text.header t (flat_nil (λ (v : UnitAnalysis). flat_map (starts_in members) v.text.header) a.value.units u none.header i) j)

  free_stays : (t : Token) → Traced a.value t → holds_member members t ≡ false → spelled members name t ≡ t.text
  free_stays t traced free = spelled-kept members name t.origins t.text traced.each free

pub headers_stay : HeadersStay
headers_stay = λ a members name h u i t j.
    let is = unit_is h.source h.workspace a.value h.accepted u i in
    free_stays a members name h u i t (toks_at (Traced a.value) u.text.header (unit_traced a.value u i is).header t j.0 j.1) (header_free a members name h u i t j)

-- ---- strings

-- the string that tokens make, if their text is one
string_if : (b : Bool) (x s : Token) → cond b (Ok x) (Err NotAString) ≡ Ok s → b ≡ true
string_if true x s e = refl
string_if false x s e = absurd (cc)

is_one_string : (toks : List Token) (s : Token) → stringize_of toks ≡ Ok s → is_plain_string_text (string_text toks) ≡ true
unfolding stringize_of
is_one_string toks s e = string_if (is_plain_string_text (string_text toks)) (string_token (string_text toks) (string_origins toks)) s e

makes_string : (toks : List Token) → is_plain_string_text (string_text toks) ≡ true → stringize_of toks ≡ Ok (string_token (string_text toks) (string_origins toks))
unfolding stringize_of
makes_string toks one = ap (λ (b : Bool). cond b (Ok (string_token (string_text toks) (string_origins toks))) (Err NotAString)) one

-- ---- pasted tokens

-- letters, digits and `_` stand for such characters
words_from : (members : List Part) (name : List ℕ) (os : List (Option Pos)) (text : List ℕ) → list_all is_word name ≡ true → list_all is_word text ≡ true
    → list_all is_word (spelled_from members name os text) ≡ true
unfolding spelled_from
words_from members name [] text words all = refl
words_from members name (o ∷ os) [] words all = refl
words_from members name (o ∷ os) (c ∷ text) words all =
    let both = and_parts (is_word c) (list_all is_word text) all in
    list_all-append is_word (put_for members name o c) (spelled_from members name os text)
    ∙ and_from (list_all is_word (put_for members name o c)) (list_all is_word (spelled_from members name os text)) (for_words o c both.0)
    (words_from members name os text words both.1)
  where
    for_words : (p : Option Pos) (d : ℕ) → is_word d ≡ true → list_all is_word (put_for members name p d) ≡ true
    for_words None d word = and_from (is_word d) true word refl
    for_words (Some p) d word = put_words name p d (member_over members p) words word

module _ (a : AnalysisValue) (members : List Part) (part : Part) (listed : AreMembers a part members) (name : List ℕ) (is : is_identifier_text name ≡ true) where
  -- the new spelling of an identifier is one
  identifier_from : (os : List (Option Pos)) (text : List ℕ) → AreChained a os → length os ≡ length text → is_identifier_text text ≡ true
      → is_identifier_text (spelled_from members name os text) ≡ true
  unfolding spelled_from
  identifier_from [] [] chained size identifier = absurd (cc)
  identifier_from [] (c ∷ text) chained size identifier = absurd (omega (arith, size))
  identifier_from (None ∷ os) text chained size identifier = absurd chained
  identifier_from (Some p ∷ os) [] chained size identifier = absurd (cc)
  identifier_from (Some p ∷ os) (c ∷ text) chained size identifier =
      let both = and_parts (is_nondigit c) (list_all is_word text) identifier in
      identifier_on (put_at members name p c) (spelled_from members name os text)
      (first_put name p c (member_over members p) is both.0 (begins_there a members part listed p chained.0))
      (words_from members name os text (identifier-words name is) both.1)

kind_name : (k : Kind) → is_identifier k ≡ true → k ≡ Ident
kind_name Ident h = refl
kind_name _ h = absurd (cc)

module _ (a : Analysed) (members : List Part) (name : List ℕ) (h : IsAllowed a members name) (u : UnitAnalysis) (i : In u a.value.units) where
  -- a pasted token stays of its kind
  pasted_kind : (z : Token) → In z u.text.pasted → Traced a.value z → one_token_of z.text ≡ Some z.kind → one_token_of (spelled members name z) ≡ Some z.kind
  unfolding pasted_tokens
  pasted_kind z j traced one = elim (cases_Bool (holds_member members z)) [
    | inr free ↦ ap one_token_of (free_stays a members name h u i z traced free) ∙ one
    | inl held ↦
        let among : In z (pasted_tokens a.value) = in_flat (λ (v : UnitAnalysis). v.text.pasted) a.value.units u z i j in
        let holder_z : In z (holders a.value members) =
        holder a.value members name (none a members name h u i) z (in_right z (file_tokens a.value) (pasted_tokens a.value) among) held in
        let named = holder_name a.value members name (none a members name h u i) z holder_z held in
        let whole = toks_whole_at z j in
        let fit = spelled_fits z whole.spelled in
        let new : is_identifier_text (spelled members name z) ≡ true =
        identifier_from a.value members h.class.part h.class.listed name h.identifier z.origins z.text (whole_chained a.value z whole named) traced.each
        (fits_name z.kind z.text named fit) in
        one_identifier (spelled members name z) new ∙ ap (λ (k : Kind). Some k) (sym (kind_name z.kind named))
  ]
    where
      toks_whole_at : (t : Token) → In t u.text.pasted → IsWhole a.value t
      toks_whole_at t k = all_at (IsWhole a.value) u.text.pasted (pasted_whole a.value u i (is_unit a members name h u i)) t k

  abbrev own : Renaming
  own = renaming a.value members name u.text

  pasted_anew : (x y z : Token) → In z u.text.pasted → Traced a.value x → Traced a.value y → Traced a.value z → IsPasted x y z
      → glue_of (renamed own x) (renamed own y) ≡ Ok (labelled_as (renamed own x) (renamed own z))
  unfolding glue_of
  pasted_anew x y z j tx ty tz pasted =
      let t = pasted.token in
      let g = glue_is x y t pasted.made in
      let same = pasted.same in
      let kind : z.kind ≡ g.0 = same.kind ∙ ap (λ (v : Token). v.kind) (sym g.2) in
      let text : z.text ≡ x.text ++ y.text = same.text ∙ ap (λ (v : Token). v.text) (sym g.2) in
      let origins : z.origins ≡ x.origins ++ y.origins = same.origins ∙ ap (λ (v : Token). v.origins) (sym g.2) in
      let one : one_token_of z.text ≡ Some z.kind = ap one_token_of text ∙ g.1 ∙ ap (λ (k : Kind). Some k) (sym kind) in
      let spell : spell_from members name z.origins z.text ≡ spell_from members name x.origins x.text ++ spell_from members name y.origins y.text =
      ap (λ (os : List (Option Pos)). spell_from members name os z.text) origins ∙ ap (λ (w : List ℕ). spell_from members name (x.origins ++ y.origins) w) text
      ∙ spell_append members name x.origins y.origins x.text y.text tx.each in
      let trace : trace_from a.value members name z.origins z.text ≡ trace_from a.value members name x.origins x.text ++ trace_from a.value members name y.origins y.text =
      ap (λ (os : List (Option Pos)). trace_from a.value members name os z.text) origins ∙ ap (λ (w : List ℕ). trace_from a.value members name (x.origins ++ y.origins) w) text
      ∙ trace_append a.value members name x.origins y.origins x.text y.text tx.each in
      let new : one_token_of (spell_from members name x.origins x.text ++ spell_from members name y.origins y.text) ≡ Some z.kind =
      ap one_token_of (sym spell ∙ spell-same members name z.origins z.text tz.each) ∙ pasted_kind z j tz one in
      let made : pasted_as (renamed own x) (renamed own y) (one_token_of (spell_from members name x.origins x.text ++ spell_from members name y.origins y.text)) ≡ Ok (joined (renamed own x) (renamed own y) z.kind) =
      ap (pasted_as (renamed own x) (renamed own y)) new in
      let label : List ℕ → List (Option Pos) → Token = λ w os. token z.kind w os x.gap (move_to a.value members name x.at) x.line x.direct in
      made ∙ ap (λ (v : Token). Ok v)
      (ap (λ (w : List ℕ). label w (trace_from a.value members name x.origins x.text ++ trace_from a.value members name y.origins y.text)) (sym spell)
      ∙ ap (λ (os : List (Option Pos)). label (spell_from members name z.origins z.text) os) (sym trace))

  -- ---- members stand whole in the tokens of the unit

  nothing_from : (n : ℕ) → list_any (is_from members) (replicate {A = Option Pos} n None) ≡ false
  nothing_from zero = refl
  nothing_from (suc n) = nothing_from n

  free_built : (t : Token) → length t.origins ≡ length t.text → holds_member members t ≡ false → IsBuilt members t
  free_built t each free = record { each = each; whole = whole_free members None t.origins t.text free }

  -- a number that the unit brought holds none
  number_built : (t : Token) → In t (file_tokens a.value) → length t.origins ≡ length t.text → is_name t ≡ false → IsBuilt members t
  number_built t j each other = free_built t each (false_from_ne_true (holds_member members t) (λ held.
      let no = none a members name h u i in
      both_ways (is_name t) other (holder_name a.value members name no t
      (holder a.value members name no t (in_left t (file_tokens a.value) (pasted_tokens a.value) j) held) held)))

  name_built : (t : Token) → IsWhole a.value t → is_name t ≡ true → IsBuilt members t
  name_built t w named =
      let traced = w.traced in
      record {
        each = traced.each;
        whole = whole_words a.value members h.class.part h.class.listed t.origins t.text (whole_chained a.value t w named)
            (kind_words t.kind t.text named (spelled_fits t w.spelled));
      }

  answer_built : (word : Token) (b : Bool) → In (answer_for word b) (file_tokens a.value) → IsBuilt members (answer_for word b)
  answer_built word true j = number_built (answer_for word true) j refl refl
  answer_built word false j = number_built (answer_for word false) j refl refl

  module _ (notes : List Note) (toks : List Token) (table : Table) (is_text : unit_text toks notes ≡ u.text) (grown : IsGrown table a.value.table) where
    brought : (t : Token) → In t (numbers_brought u.text) → In t (file_tokens a.value)
    brought = λ t k. brought_in a.value u i t k

    files_built : (number : ℕ) (file : SourceFile) → source_at table number ≡ Some file → AllToks (IsBuilt members) file.text.toks
    files_built number file is =
        let s = source_of_kept a.value.table number file (source-grown table a.value.table number file grown is) in
        let traced = kept_traced a.value u.text notes toks table is_text grown brought number file is in
        let spelled = toks_pass is_spelled file.text.toks (files_are_spelled table number file is) in
        each_tok (IsBuilt members) file.text.toks (λ t k at.
        let there : In t (tokens_of s.kept.number s.kept.bytes) = (k, ap (λ (ts : List Token). slice_get ts k) (sym s.toks) ∙ at) in
        let told = file_told a members name h number s.kept s.is_kept t there in
        elim (cases_Bool (holds_member members t)) [
          | inr free ↦ free_built t told.each free
          | inl held ↦
              let no = none a members name h u i in
              name_built t (record {
                traced = toks_at (Traced a.value) file.text.toks traced t k at;
                spelled = toks_at (λ v. is_spelled v ≡ true) file.text.toks spelled t k at;
              }) (holder_name a.value members name no t (holder a.value members name no t (told.parted held) held) held)
        ])

    rules_built : UnitRules (IsBuilt members) (IsInList notes) table
    rules_built = record {
      spaced = λ t gap k. record { each = k.each; whole = k.whole };
      moved = λ t k. record { each = k.each; whole = k.whole };
      placed = λ name2 t gap here k. record { each = k.each; whole = k.whole };
      items = λ number k evaluated before file item is at told. from_files (IsBuilt members) table files_built number k evaluated file item is at;
      lines = λ name2 run before more here word told.
          let e = line_event u.text notes toks name2 run before more is_text word told in
          number_built (line_number name2) (line_in a.value u.text notes toks table is_text grown brought e.0 name2 e.1.0 e.1.1)
          (digits_length (8 * name2.line) (length (decimal name2.line))) refl;
      numbers = λ name2 n run before here low told.
          number_built (number_token name2 n)
          (answer_in a.value u.text notes toks table is_text grown brought (number_token name2 n) (number_among u.text notes toks (number_token name2 n) run before is_text told))
          (digits_length (8 * n) (length (decimal n))) refl;
      answers = λ word b here told. answer_built word b (answer_in a.value u.text notes toks table is_text grown brought (answer_for word b) (answer_among u.text notes toks (answer_for word b) is_text told));
      paths = λ path name2 here. free_built (path_string path name2) (length-replicate (length (path_text path)) None) (nothing_from (length (path_text path)));
      strings = λ name2 gap ts s here all is.
          let made = string_is ts s is in
          let own : IsBuilt members (string_token (string_text ts) (string_origins ts)) = record { each = string_long ts (each_built members ts all); whole = string_whole members ts all } in
          let k : IsBuilt members s = subst (IsBuilt members) (sym made) own in
          record { each = k.each; whole = k.whole };
      pastes = λ name2 x y z run before here px py is told.
          let g = glue_is x y z is in
          let both : IsBuilt members (joined x y g.0) = record {
            each = length-append x.origins y.origins ∙ ap (λ (n : ℕ). n + length y.origins) px.each ∙ ap (λ (n : ℕ). length x.text + n) py.each ∙ sym (length-append x.text y.text);
            whole = whole_both members None x.origins y.origins x.text y.text px.each px.whole py.whole;
          } in
          let k : IsBuilt members z = subst (IsBuilt members) g.2 both in
          record { each = k.each; whole = k.whole };
    }

  -- ---- strings

  string_anew : (toks : List Token) (s : Token) → AllToks (IsBuilt members) toks → stringize_of toks ≡ Ok s
      → stringize_of (map (renamed (renaming a.value members name u.text)) toks) ≡ Ok (renamed (renaming a.value members name u.text) s)
  unfolding spell_from
  string_anew toks s built made =
      let q : Renaming = renaming a.value members name u.text in
      let new : List Token = map (renamed q) toks in
      let words = identifier-words name h.identifier in
      let stringed : AllToks (IsStringed a.value members name words) toks =
      toks_more (IsBuilt members) (IsStringed a.value members name words) toks built (λ t k. record { each = k.each; fine = fine_whole members None t.origins t.text k.whole }) in
      let is = string_is toks s made in
      let text = string_spelled a.value members name words u.text toks stringed in
      let origins = string_traced a.value members name words u.text toks stringed in
      let long = string_long toks (each_built members toks built) in
      let size : length (all_origins toks ++ None ∷ []) ≡ length (spellings_of toks ++ double_quote ∷ []) = omega (arith, long) in
      let old = (and_parts (double_quote == double_quote) (closes double_quote false (spellings_of toks ++ double_quote ∷ [])) (is_one_string toks s made)).1 in
      let closed : closes double_quote false (spell_from members name (all_origins toks ++ None ∷ []) (spellings_of toks ++ double_quote ∷ [])) ≡ true =
      closes_on members name h.identifier None false (all_origins toks ++ None ∷ []) (spellings_of toks ++ double_quote ∷ []) size (behind_whole members toks built) (λ e. absurd (cc)) old in
      let one : is_plain_string_text (string_text new) ≡ true = ap is_plain_string_text text ∙ closed in
      let still : move_to a.value members name (pos 0 0) ≡ pos 0 0 =
      ap (λ (o : Option KeptValue). option_map_or (moved_in members name (pos 0 0)) o (pos 0 0)) (no_lines h.source h.workspace a.value h.accepted) in
      makes_string new one
      ∙ ap (λ (w : List ℕ). Ok (string_token w (string_origins new))) text
      ∙ ap (λ (os : List (Option Pos)). Ok (string_token (spell_from members name (string_origins toks) (string_text toks)) os)) origins
      ∙ ap (λ (p : Pos). Ok (token Str (spell_from members name (string_origins toks) (string_text toks)) (trace_from a.value members name (string_origins toks) (string_text toks)) false p 0 false)) (sym still)
      ∙ ap (λ (v : Token). Ok (renamed q v)) (sym is)

  note_anew : (d : Did (List Token)) → IsOutcome a.value u d → (run : Bool) (before : ℕ) (note : expansion.Note) → In (Happened run before note) d.notes
      → HappenedSo (Traced a.value) note → HappenedSo (IsBuilt members) note → IsMadeAnew (renaming a.value members name u.text) note
  note_anew d o run before (expansion.Replaced name2 m more) j so built = tt
  note_anew d o run before (expansion.Linked x y) j so built = tt
  note_anew d o run before (expansion.Counted z) j so built = tt
  note_anew d o run before (expansion.Stringized toks s) j so built = string_anew toks s built.0 so.1
  note_anew d o run before (expansion.Pasted x y z) j so built =
      let there : IsInList (flat_map pasted_of d.notes) z = flat_in pasted_of d.notes (Happened run before (expansion.Pasted x y z)) z j.0 j.1 (0, refl) in
      let P : UnitTextValue → Type 0 = λ v. In z v.pasted in
      pasted_anew x y z (subst P o.text there) so.0 so.1 so.2 so.3

module _ (a : Analysed) (members : List Part) (name : List ℕ) (h : IsAllowed a members name) (u : UnitAnalysis) (d : Did (List Token))
    (i : In u a.value.units) (o : IsOutcome a.value u d) (run : Bool) (before : ℕ) where
  -- what is noted is made of tokens in which members stand whole
  happened_built : (note : expansion.Note) → In (Happened run before note) d.notes → HappenedSo (IsBuilt members) note
  happened_built note j =
      let each = each_in (IsInList d.notes) d.notes (λ n k at. (k, at)) in
      let whole = rules_built a members name h u i d.notes d.value d.state.table o.text o.grown in
      let built = unit_has (IsBuilt members) (IsInList d.notes) o.source o.number o.unit o.before d o.outcome whole each in
      in_at (NotedSo (IsBuilt members)) d.notes built.1 (Happened run before note) j.0 j.1

  happened_anew : (note : expansion.Note) → In (Happened run before note) d.notes → IsMadeAnew (renaming a.value members name u.text) note
  happened_anew note j =
      let each = each_in (IsInList d.notes) d.notes (λ n k at. (k, at)) in
      let rules = rules_traced a.value u.text d.notes d.value d.state.table o.text o.grown (λ t k. brought_in a.value u i t k) in
      let has = unit_has (Traced a.value) (IsInList d.notes) o.source o.number o.unit o.before d o.outcome rules each in
      let so : NotedSo (Traced a.value) (Happened run before note) = in_at (NotedSo (Traced a.value)) d.notes has.1 (Happened run before note) j.0 j.1 in
      note_anew a members name h u i d o run before note j so (happened_built note j)

  string_of_renamed : (toks : List Token) (s : Token) → In (Happened run before (expansion.Stringized toks s)) d.notes
      → spelled members name s ≡ string_text (map (renamed (renaming a.value members name u.text)) toks)
  string_of_renamed toks s j =
      let q : Renaming = renaming a.value members name u.text in
      let new : List Token = map (renamed q) toks in
      let built = happened_built (expansion.Stringized toks s) j in
      let each : length s.origins ≡ length s.text =
      subst (λ (t : Token). length t.origins ≡ length t.text) (sym (string_is toks s built.1)) (string_long toks (each_built members toks built.0)) in
      let is : renamed q s ≡ string_token (string_text new) (string_origins new) = string_is new (renamed q s) (happened_anew (expansion.Stringized toks s) j) in
      sym (spell-same members name s.origins s.text each) ∙ ap (λ (t : Token). t.text) is

pub tokens_are_made_anew : TokensAreMadeAnew
tokens_are_made_anew = λ a members name h u d i o run before note j. happened_anew a members name h u d i o run before note j

pub strings_are_made_of_renamed_tokens : StringsAreOfRenamedTokens
strings_are_made_of_renamed_tokens = λ a members name h u d i o run before toks s j. string_of_renamed a members name h u d i o run before toks s j
