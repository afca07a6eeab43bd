-- A bare name that stands in the range of a typedef name of its spelling stays, and so do all tokens that are spelled so.
use Rattle.std.proofs.Common.{◌≡◌, ℕ, ◌&&◌, Bool, true, false, not, List, [], ◌∷◌, map, Option, Some, inl, inr, sym, ap, ◌∙◌, arith}
use Rattle.std.specs.Prelude.{slice_get, nat_le, nat_lt}
use Rattle.std.specs.List.{flat_map, list_any}
use Rattle.std.specs.Option.{option_map_or}
use Rattle.std.specs.Str.{bytes_eq}
use Rattle.std.proofs.lemmas.Bool.{cases_Bool, both_ways, false≢true, and_parts, and_from, or_cases, or_left, or_right, ltb-false, le-leb}
use Rattle.cs_base.proofs.FileMapLemmas.{bytes_eq-equal}
use Rattle.cs_base.proofs.ListLemmas.{spelled_same as alike_from, any_at}
use Rattle.cs_base.proofs.BoolLemmas.{and_right as second}
use Rattle.cs_base.proofs.PlaceLemmas.{if_nil}
use Rattle.cs_base.specs.declared.positions.Part.{Part}
use Rattle.cs_base.specs.Token.{Token}
use Rattle.lexer.specs.Spelling.{is_identifier_text}
use Rattle.lexer.proofs.NameLemmas.{some_text}
use Rattle.line_shape.specs.Signs.{is_name}
use Rattle.unit_steps.specs.Below.macro_expand.Renaming.{Renaming, renamed}
use Rattle.unit_steps.specs.Below.macro_expand.Renaming as macros
use Rattle.analysis.specs.Below.c_types.declared.lists.Range.{Range}
use Rattle.analysis.specs.Below.c_types.Declarations.{spelling_at, alike}
use Rattle.renamed_tree_laws.specs.Loose.{is_hidden, StaysWhole}
use Rattle.analysis.specs.Analysed.{Analysed}
use Rattle.analysis.specs.Analysis.{UnitAnalysis}
use Rattle.rename_rules.specs.Offences.{is_shadow, hides_typedef, bare_place, bare_places, shadowed_places}
use Rattle.rename_rules.specs.Tokens.{holders, is_old_spelling}
use Rattle.offences.specs.Tokens.{holds_member, first_place}
use Rattle.rename_meaning.specs.Allowed.{IsAllowed}
use Rattle.rename_meaning.specs.KeptTokens.{Spells}
use Rattle.rename_meaning.specs.Renamings.{KeepsUnedited}
use Rattle.rename_meaning.proofs.ApartLemmas.{parted_stays}
use Rattle.rename_meaning.proofs.LinkLemmas.{whole_chained}
use Rattle.edited_unit_laws.proofs.ListLemmas.{In, flat_nil}
use Rattle.edited_unit_laws.proofs.ApartLemmas.{first_some}
use Rattle.rename_meaning.proofs.NoneLemmas.{NoneStand, none_stand, holder}
use Rattle.rename_meaning.proofs.OccurringLemmas.{name_like, parted_one, like_spelled}
use Rattle.analysis.specs.Below.c99_grammar.Dialects.{edition}
use Rattle.analysis.specs.Below.c99_grammar.Standard.{iso}
use Rattle.analysis.specs.Below.c99_read.State.{base_at, is_identifier}
use Rattle.rename_meaning.proofs.LinkedNameLemmas.{named_token}
use Rattle.rename_meaning.proofs.NamedLemmas.{NameAt, OtherAt, whole, old_identifier, old_at, new_at, look}
use Rattle.rename_meaning.proofs.UnitTokenLemmas.{tokens_kept}

-- ---- ranges, as the tree's law and the offence speak of them

begun : (k begin : ℕ) → not (nat_lt k begin) ≡ true → nat_le begin k ≡ true
begun k begin h = elim (cases_Bool (nat_lt k begin)) [
  | inl before ↦ absurd (false≢true (sym (ap not before) ∙ h))
  | inr behind ↦ le-leb begin k (ltb-false k begin behind)
]

module _ (toks : List Token) (text : List ℕ) (k : ℕ) (own : spelling_at toks k ≡ text) where
  shadow_of : (s : Range) → is_hidden toks k s ≡ true → is_shadow toks text k s ≡ true
  shadow_of s h =
      let both = and_parts (alike toks k s.name) (not (nat_lt k s.from) && nat_lt k s.to) h in
      let within = and_parts (not (nat_lt k s.from)) (nat_lt k s.to) both.1 in
      let same : spelling_at toks k ≡ spelling_at toks s.name = bytes_eq-equal (spelling_at toks k) (spelling_at toks s.name) both.0 in
      and_from (bytes_eq (spelling_at toks s.name) text && nat_le s.from k) (nat_lt k s.to)
      (and_from (bytes_eq (spelling_at toks s.name) text) (nat_le s.from k) (alike_from (spelling_at toks s.name) text (sym same ∙ own)) (begun k s.from within.0))
      within.1

  shadows : (ranges : List Range) → list_any (is_hidden toks k) ranges ≡ true → list_any (is_shadow toks text k) ranges ≡ true
  shadows [] h = absurd (cc)
  shadows (s ∷ ranges) h = elim (or_cases (is_hidden toks k s) (list_any (is_hidden toks k) ranges) h) [
    | inl first ↦ or_left (is_shadow toks text k s) (list_any (is_shadow toks text k) ranges) (shadow_of s first)
    | inr later ↦ or_right (is_shadow toks text k s) (list_any (is_shadow toks text k) ranges) (shadows ranges later)
  ]

-- ---- places of offences

module _ (a : Analysed) (members : List Part) (name : List ℕ) (r : Renaming) (h : IsAllowed a members name) (spells : Spells members name r)
    (keeps : KeepsUnedited r) (u : UnitAnalysis) (i : In u a.value.units) where
  abbrev old : List Token
  old = u.text.toks

  abbrev new : List Token
  new = map (renamed r) u.text.toks

  -- some token that holds a member is spelled so
  abbrev is_old : List ℕ → Bool
  is_old text = is_old_spelling (holders a.value members) text

  none : NoneStand a.value members name
  none = none_stand a.value members name h.first

  -- an identifier of a unit begins in a file
  placed : (t : Token) → In t old → is_name t ≡ true → first_place t ≡ [] → ⊥
  placed t j named =
      let w = whole a members name r h spells keeps u i t j in
      let traced = w.traced in
      let some = some_text t.text (old_identifier a members name r h spells keeps u i t j named) in
      let each = traced.each in
      first_some a.value t.origins (whole_chained a.value t w named) (omega (arith, each, some))

  -- no token that holds a member is spelled as a bare name in the range of a typedef name of this spelling
  not_old : (k : ℕ) (t : Token) → In k u.bound.bare → slice_get old k ≡ Some t → is_name t ≡ true → list_any (is_hidden old k) u.bound.typedefs ≡ true
      → is_old t.text ≡ false
  unfolding shadowed_places
  not_old k t bare at named hidden =
      let no = none in
      let unit : flat_map (bare_places a.value members u) u.bound.bare ≡ [] =
      flat_nil (λ (v : UnitAnalysis). flat_map (bare_places a.value members v) v.bound.bare) a.value.units u no.shadowed i in
      let places : bare_places a.value members u k ≡ [] = flat_nil (bare_places a.value members u) u.bound.bare k unit bare in
      let place : bare_place a.value members u k t ≡ [] = sym (ap (λ (o : Option Token). option_map_or (bare_place a.value members u k) o []) at) ∙ places in
      let shadow : hides_typedef u k t ≡ true = shadows old t.text k (old_at a members name r h spells keeps u i k t at) u.bound.typedefs hidden in
      second (hides_typedef u k t) (is_old t.text) shadow (if_nil (hides_typedef u k t && is_old t.text) (first_place t) (placed t (k, at) named) place)

  -- what is spelled as no token that holds a member stays
  stays : (t : Token) → In t old → is_name t ≡ true → is_old t.text ≡ false → macros.spelled r t ≡ t.text
  stays t j named free =
      let kept = tokens_kept a members name r h spells keeps u i t j in
      let v = name_like a members name r h spells t kept.occurring named in
      let like = v.1 in
      let told = parted_one a members name r h spells v.0 like.told in
      elim (cases_Bool (holds_member members v.0)) [
        | inl held ↦
            let m = holder a.value members name none v.0 (told.parted held) held in
            absurd (both_ways (is_old t.text) free
            (any_at (λ (x : Token). bytes_eq x.text t.text) (holders a.value members) m.0 v.0 m.1 (alike_from v.0.text t.text like.text)))
        | inr other ↦ like_spelled a members name r h spells t v.0 like ∙ parted_stays a.value members name none v.0 told other ∙ like.text
      ]

  -- ---- tokens of one spelling

  abbrev Named : ℕ → Type 0
  Named k = NameAt a members name r h spells keeps u i k

  abbrev Other : ℕ → Type 0
  Other k = OtherAt a members name r h spells keeps u i k

  -- an identifier, spelled as no token that holds a member
  name_stays : (k : ℕ) (n : Named k) (text : List ℕ) → spelling_at old k ≡ text → is_old text ≡ false → spelling_at new k ≡ text
  name_stays k n text own free =
      let same : n.token.text ≡ text = sym (old_at a members name r h spells keeps u i k n.token n.there) ∙ own in
      new_at a members name r h spells keeps u i k n.token n.there
      ∙ stays n.token (k, n.there) n.named (ap is_old same ∙ free) ∙ same

  name_plain : (k : ℕ) (n : Named k) → is_identifier_text (spelling_at old k) ≡ true
  name_plain k n =
      ap is_identifier_text (old_at a members name r h spells keeps u i k n.token n.there)
      ∙ old_identifier a members name r h spells keeps u i n.token (k, n.there) n.named

  -- what is spelled as an identifier is one
  never : (k j : ℕ) → Named k → Other j → spelling_at old k ≡ spelling_at old j → ⊥
  never k j n s same = both_ways (is_identifier_text (spelling_at old j)) s.was (sym (ap is_identifier_text same) ∙ name_plain k n)

  whole_name : (k j : ℕ) (n : Named k) → In k u.bound.bare → list_any (is_hidden old k) u.bound.typedefs ≡ true → spelling_at old k ≡ spelling_at old j
      → spelling_at new k ≡ spelling_at new j
  whole_name k j n bare hidden same =
      let own : spelling_at old k ≡ n.token.text = old_at a members name r h spells keeps u i k n.token n.there in
      let free = not_old k n.token bare n.there n.named hidden in
      let there : spelling_at new j ≡ n.token.text = elim (look a members name r h spells keeps u i j) [
        | inl m ↦ name_stays j m n.token.text (sym same ∙ own) free
        | inr s ↦ absurd (never k j n s same)
      ] in
      name_stays k n n.token.text own free ∙ sym there

  -- a bare name stays with all tokens of its spelling, where a typedef name of this spelling is hidden
  pub bare_stays : (k : ℕ) → In k u.bound.bare → is_identifier (base_at (iso (edition u.standard)) old k) ≡ true → StaysWhole old new u.bound.typedefs k
  bare_stays k bare named = λ hidden j both.
      let t = named_token (edition u.standard) old k named in
      let same : spelling_at old k ≡ spelling_at old j = bytes_eq-equal (spelling_at old k) (spelling_at old j) both in
      alike_from (spelling_at new k) (spelling_at new j) (whole_name k j (record { token = t.0; there = t.1; named = t.2 }) bare hidden same)
