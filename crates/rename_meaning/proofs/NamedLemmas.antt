-- New and old spellings of the tokens of a unit, by their places.
use Rattle.std.proofs.Common.{◌≡◌, ℕ, true, false, List, [], ◌∷◌, length, map, Option, None, Some, ◌⊎◌, inl, inr, refl, sym, ap, ◌∙◌}
use Rattle.std.specs.Prelude.{slice_get, option_map}
use Rattle.std.specs.Option.{option_map_or}
use Rattle.std.specs.Str.{bytes_eq}
use Rattle.std.proofs.lemmas.Bool.{cases_Bool, both_ways}
use Rattle.std.proofs.lemmas.List.{length-map}
use Rattle.std.proofs.lemmas.Option.{slice_get-map}
use Rattle.expansion_laws.proofs.MadeLemmas.{fits_name}
use Rattle.cs_base.proofs.FileMapLemmas.{bytes_eq-equal}
use Rattle.cs_base.proofs.ListLemmas.{spelled_same as alike_from}
use Rattle.cs_base.specs.declared.positions.Part.{Part}
use Rattle.cs_base.specs.declared.positions.Pos.{Pos}
use Rattle.cs_base.specs.Reserved.{is_reserved_text}
use Rattle.cs_base.specs.Token.{Token}
use Rattle.lexer.specs.Characters.{double_quote}
use Rattle.lexer.specs.Spelling.{is_identifier_text}
use Rattle.line_shape.specs.Signs.{is_name}
use Rattle.unit_steps.specs.Below.macro_expand.Renaming.{Renaming, renamed}
use Rattle.unit_steps.specs.Below.macro_expand.Renaming as macros
use Rattle.analysis.specs.Below.c_types.Declarations.{spelling_at}
use Rattle.tree_laws.specs.RenamedNames.{is_own_word, StaysApart}
use Rattle.part_respell.specs.Respelled.{spelled}
use Rattle.offences.specs.Tokens.{holds_member}
use Rattle.analysis.specs.Analysed.{Analysed}
use Rattle.analysis.specs.Analysis.{UnitAnalysis}
use Rattle.rename_meaning.specs.Allowed.{IsAllowed}
use Rattle.rename_meaning.specs.KeptTokens.{Spells}
use Rattle.rename_meaning.specs.Renamings.{KeepsUnedited}
use Rattle.rename_meaning.proofs.ApartLemmas.{IsParted}
use Rattle.rename_meaning.proofs.KeptTokenLemmas.{free_same, other_word}
use Rattle.rename_meaning.proofs.LinkLemmas.{IsWhole, toks_whole, whole_chained}
use Rattle.edited_unit_laws.proofs.ListLemmas.{In, all_at}
use Rattle.rename_meaning.proofs.NoneLemmas.{NoneStand, none_stand, holder, holder_free}
use Rattle.rename_meaning.proofs.OccurringLemmas.{occurring_are_kept, name_like, parted_one}
use Rattle.edited_unit_laws.proofs.TracedLemmas.{spelled_fits}
use Rattle.edited_unit_laws.proofs.AnalysedUnitLemmas.{unit_is}
use Rattle.rename_meaning.proofs.IdentifierLemmas.{identifier_from}
use Rattle.rename_meaning.proofs.SpelledLemmas.{kind_plain, plain_apart, own_word_fixed, fixed_plain, unquoted_word}
use Rattle.rename_meaning.proofs.UnitTokenLemmas.{tokens_kept}

module _ (a : Analysed) (members : List Part) (name : List ℕ) (r : Renaming) (h : IsAllowed a members name) (spells : Spells members name r)
    (keeps : KeepsUnedited r) (u : UnitAnalysis) (i : In u a.value.units) where
  abbrev pub old : List Token
  old = u.text.toks

  abbrev pub new : List Token
  new = map (renamed r) u.text.toks

  pub whole : (t : Token) → In t old → IsWhole a.value t
  whole t j = all_at (IsWhole a.value) old (toks_whole a.value u i (unit_is h.source h.workspace a.value h.accepted u i)) t j

  -- each token is spelled with the name for each member
  pub each_spelled : (t : Token) → In t old → macros.spelled r t ≡ spelled members name t
  each_spelled t j =
      let w = whole t j in
      let traced = w.traced in
      spells t traced.each

  -- identifiers are spelled as such, before and anew, and what is none is not
  pub old_identifier : (t : Token) → In t old → is_name t ≡ true → is_identifier_text t.text ≡ true
  old_identifier t j named =
      let w = whole t j in
      fits_name t.kind t.text named (spelled_fits t w.spelled)

  new_identifier : (t : Token) → In t old → is_name t ≡ true → is_identifier_text (macros.spelled r t) ≡ true
  new_identifier t j named =
      let w = whole t j in
      let traced = w.traced in
      ap is_identifier_text (each_spelled t j)
      ∙ identifier_from a.value members h.class.part h.class.listed name h.identifier t.origins t.text (whole_chained a.value t w named) traced.each
      (old_identifier t j named)

  other_plain : (t : Token) → In t old → is_name t ≡ false → is_identifier_text t.text ≡ false
  other_plain t j other =
      let w = whole t j in
      kind_plain t.kind t.text other (spelled_fits t w.spelled)

  -- ---- places

  -- an identifier stands there
  pub record NameAt (k : ℕ) : Type 0 where
    pub token : Token
    pub there : slice_get old k ≡ Some token
    pub named : is_name token ≡ true

  -- what is no identifier, before and anew, and none of the words that binding asks for, unless it was that word
  pub record OtherAt (k : ℕ) : Type 0 where
    pub was : is_identifier_text (spelling_at old k) ≡ false
    pub is : is_identifier_text (spelling_at new k) ≡ false
    pub words : (word : List ℕ) → is_own_word word ≡ true → bytes_eq (spelling_at new k) word ≡ bytes_eq (spelling_at old k) word

  abbrev text_of : Option Token → List ℕ
  text_of o = option_map_or (λ (t : Token). t.text) o []

  pub old_at : (k : ℕ) (t : Token) → slice_get old k ≡ Some t → spelling_at old k ≡ t.text
  old_at k t e = ap text_of e

  pub new_at : (k : ℕ) (t : Token) → slice_get old k ≡ Some t → spelling_at new k ≡ macros.spelled r t
  new_at k t e = ap text_of (slice_get-map (renamed r) old k ∙ ap (λ (o : Option Token). option_map (renamed r) o) e)

  new_none : (k : ℕ) → slice_get old k ≡ None → spelling_at new k ≡ []
  new_none k e = ap text_of (slice_get-map (renamed r) old k ∙ ap (λ (o : Option Token). option_map (renamed r) o) e)

  -- where it stays
  still_at : (k : ℕ) → is_identifier_text (spelling_at old k) ≡ false → spelling_at new k ≡ spelling_at old k → OtherAt k
  still_at k was same = record {
    was = was;
    is = ap is_identifier_text same ∙ was;
    words = λ word own. ap (λ (w : List ℕ). bytes_eq w word) same;
  }

  -- where it is a string
  quoted_at : (k : ℕ) (before behind : List ℕ) → spelling_at old k ≡ double_quote ∷ before → spelling_at new k ≡ double_quote ∷ behind → OtherAt k
  quoted_at k before behind was is = record {
    was = ap is_identifier_text was;
    is = ap is_identifier_text is;
    words = λ word own.
        ap (λ (w : List ℕ). bytes_eq w word) is ∙ unquoted_word behind word own ∙ sym (unquoted_word before word own)
        ∙ sym (ap (λ (w : List ℕ). bytes_eq w word) was);
  }

  other_at : (k : ℕ) (t : Token) → slice_get old k ≡ Some t → is_name t ≡ false → OtherAt k
  other_at k t e other =
      let kept = tokens_kept a members name r h spells keeps u i t (k, e) in
      elim (kept.stays other) [
        | inl same ↦ still_at k (ap is_identifier_text (old_at k t e) ∙ other_plain t (k, e) other) (new_at k t e ∙ same ∙ sym (old_at k t e))
        | inr q ↦ quoted_at k q.before q.behind (old_at k t e ∙ q.was) (new_at k t e ∙ q.is)
      ]

  pub look : (k : ℕ) → NameAt k ⊎ OtherAt k
  look k = by (slice_get old k) refl
    where
      by : (o : Option Token) → slice_get old k ≡ o → NameAt k ⊎ OtherAt k
      by None e = inr (still_at k (ap is_identifier_text (ap text_of e)) (new_none k e ∙ sym (ap text_of e)))
      by (Some t) e = elim (cases_Bool (is_name t)) [
        | inl named ↦ inl (record { token = t; there = e; named = named })
        | inr other ↦ inr (other_at k t e other)
      ]

  -- ---- the words that binding asks for

  -- a reserved word stays, and none is made: of a token of a file or a pasted one
  reserved_kept : (word : List ℕ) (t : Token) → is_reserved_text word ≡ true → IsParted a.value members t
      → bytes_eq (macros.spelled r t) word ≡ bytes_eq t.text word
  reserved_kept word t reserved told = elim (cases_Bool (holds_member members t)) [
    | inl held ↦
        let none : NoneStand a.value members name = none_stand a.value members name h.first in
        let free = holder_free a.value members name none t (holder a.value members name none t (told.parted held) held) held in
        ap (λ (w : List ℕ). bytes_eq w word) (spells t told.each) ∙ other_word word (spelled members name t) reserved free.1
        ∙ sym (other_word word t.text reserved free.0)
    | inr free ↦ ap (λ (w : List ℕ). bytes_eq w word) (free_same a members name r h spells t told free)
  ]

  -- .. and of one of the unit
  pub reserved_same : (t : Token) → In t old → is_name t ≡ true → (word : List ℕ) → is_reserved_text word ≡ true
      → bytes_eq (macros.spelled r t) word ≡ bytes_eq t.text word
  reserved_same t j named word reserved =
      let kept = tokens_kept a members name r h spells keeps u i t j in
      let v = name_like a members name r h spells t kept.occurring named in
      let like = v.1 in
      let same : macros.spelled r v.0 ≡ macros.spelled r t =
      ap (λ (os : List (Option Pos)). r.spell os v.0.text) like.origins ∙ ap (λ (w : List ℕ). r.spell t.origins w) like.text in
      ap (λ (w : List ℕ). bytes_eq w word) (sym same)
      ∙ reserved_kept word v.0 reserved (parted_one a members name r h spells v.0 like.told)
      ∙ ap (λ (w : List ℕ). bytes_eq w word) like.text

  word_same : (t : Token) → In t old → is_name t ≡ true → (word : List ℕ) → is_own_word word ≡ true → bytes_eq (macros.spelled r t) word ≡ bytes_eq t.text word
  word_same t j named word own = elim (cases_Bool (is_reserved_text word)) [
    | inl reserved ↦ reserved_same t j named word reserved
    | inr free ↦
        let plain = fixed_plain word (own_word_fixed word own) free in
        plain_apart (macros.spelled r t) word (new_identifier t j named) plain ∙ sym (plain_apart t.text word (old_identifier t j named) plain)
  ]

  pub words_kept : (word : List ℕ) (k : ℕ) → is_own_word word ≡ true → bytes_eq (spelling_at new k) word ≡ bytes_eq (spelling_at old k) word
  words_kept word k own = elim (look k) [
    | inl n ↦
        ap (λ (w : List ℕ). bytes_eq w word) (new_at k n.token n.there)
        ∙ word_same n.token (k, n.there) n.named word own
        ∙ sym (ap (λ (w : List ℕ). bytes_eq w word) (old_at k n.token n.there))
    | inr s ↦ s.words word own
  ]

  -- ---- what is apart

  -- an identifier is not spelled as what is none
  never : (j k : ℕ) → NameAt j → OtherAt k → spelling_at new j ≡ spelling_at new k → ⊥
  never j k n s e =
      both_ways (is_identifier_text (spelling_at new k)) s.is
      (ap is_identifier_text (sym e ∙ new_at j n.token n.there) ∙ new_identifier n.token (j, n.there) n.named)

  same_before : (j k : ℕ) → NameAt k → spelling_at new j ≡ spelling_at new k → spelling_at old j ≡ spelling_at old k
  same_before j k m e = elim (look j) [
    | inl n ↦
        let first = tokens_kept a members name r h spells keeps u i n.token (j, n.there) in
        let second = tokens_kept a members name r h spells keeps u i m.token (k, m.there) in
        let kept = occurring_are_kept a members name r h spells in
        old_at j n.token n.there
        ∙ kept.apart n.token m.token first.occurring second.occurring n.named m.named (sym (new_at j n.token n.there) ∙ e ∙ new_at k m.token m.there)
        ∙ sym (old_at k m.token m.there)
    | inr s ↦ absurd (never k j m s (sym e))
  ]

  -- no token gets the spelling of an identifier that it had not
  pub apart_kept : (k : ℕ) → NameAt k → StaysApart old new k
  apart_kept k m = λ j same. alike_from (spelling_at old j) (spelling_at old k) (same_before j k m (bytes_eq-equal (spelling_at new j) (spelling_at new k) same))

  pub as_long : length new ≡ length old
  as_long = length-map old (renamed r)
