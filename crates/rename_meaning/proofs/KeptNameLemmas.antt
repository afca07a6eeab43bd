-- Names of which a unit tells get one new spelling each.
use Rattle.std.proofs.Common.{◌≡◌, ℕ, zero, suc, ◌&&◌, ◌||◌, Bool, true, codes, List, [], ◌∷◌, ◌++◌, Option, Some, None, inl, inr, refl, sym, ap, subst, ◌∙◌}
use Rattle.std.specs.Prelude.{find}
use Rattle.std.specs.List.{flat_map}
use Rattle.std.specs.Option.{option_map_or}
use Rattle.std.specs.Str.{bytes_eq}
use Rattle.std.proofs.lemmas.Bool.{cases_Bool, both_ways, and_from, or_cases}
use Rattle.std.proofs.lemmas.Option.{none-some}
use Rattle.cs_base.proofs.FileMapLemmas.{bytes_eq-equal, bytes_eq-same}
use Rattle.cs_base.proofs.ListLemmas.{none_at as not_found}
use Rattle.cs_base.specs.declared.positions.Part.{Part}
use Rattle.cs_base.specs.declared.tokens.Kind.{Kind}
use Rattle.cs_base.specs.declared.tokens.Kind.TheVariants.{Ident, Number, Char, Str, Punct, Header, Other}
use Rattle.cs_base.specs.declared.tokens.Link.{Link}
use Rattle.cs_base.specs.Reserved.{is_reserved_text}
use Rattle.cs_base.specs.Token.{Token}
use Rattle.lexer.specs.Spelling.{is_punctuator_text}
use Rattle.line_shape.specs.Signs.{is_identifier, is_name}
use Rattle.analysis.specs.Below.linkage_join.Linkage.{links_of as external_links}
use Rattle.unit_steps.specs.Below.macro_expand.Renaming.{Renaming}
use Rattle.unit_steps.specs.Texts.{UnitTextValue}
use Rattle.part_respell.specs.Respelled.{spelled}
use Rattle.expansion_laws.specs.Spelled.{fits, is_spelled}
use Rattle.unit_laws.proofs.NoteLemmas.{EventHas, in_at}
use Rattle.unit_laws.proofs.TokenLemmas.{unit_links_are_alike}
use Rattle.unit_laws.specs.ToldNames.{is_first_name, IsTold, LinksAgree}
use Rattle.unit_laws.proofs.ToldLemmas.{told_names_are_linked}
use Rattle.analysis.specs.Analysed.{Analysed}
use Rattle.analysis.specs.Analysis.{UnitAnalysis}
use Rattle.analysis.specs.Links.{are_alike, unit_links, names_of_units, links_of, occurrence_links}
use Rattle.analysis.proofs.NamingLemmas.{in_left, in_filter}
use Rattle.offences.specs.Tokens.{holds_member}
use Rattle.rename_meaning.specs.Allowed.{IsAllowed}
use Rattle.rename_meaning.specs.KeptTokens.{Spells}
use Rattle.rename_meaning.specs.Renamings.{name_in, names_told, renaming}
use Rattle.edited_unit_laws.proofs.ListLemmas.{In, found, in_flat}
use Rattle.rename_meaning.proofs.ApartLemmas.{parted_stays}
use Rattle.rename_meaning.proofs.LinkLemmas.{linked_stay_alike}
use Rattle.rename_meaning.proofs.NoneLemmas.{none_stand, holder, holder_free}
use Rattle.rename_meaning.proofs.OccurringLemmas.{IsLike, name_like, like_spelled, parted_one}
use Rattle.rename_meaning.proofs.ProcessedLemmas.{flat_element}
use Rattle.rename_meaning.proofs.RenamingLemmas.{renamings_spell}
use Rattle.edited_unit_laws.proofs.TracedLemmas.{Traced, spelled_fits}
use Rattle.edited_unit_laws.proofs.AnalysedUnitLemmas.{IsUnit, unit_is, unit_traced, unit_spelled}
use Rattle.rename_meaning.specs.ToldNames.{ToldNamesAreKept}
use Rattle.rename_meaning.proofs.OccurLemmas.{Occurs, unit_occurs}

-- ---- the first names

pub line_reserved : is_reserved_text (codes "__LINE__") ≡ true
unfolding is_reserved_text
line_reserved = refl

pub file_reserved : is_reserved_text (codes "__FILE__") ≡ true
unfolding is_reserved_text
file_reserved = refl

pub counter_reserved : is_reserved_text (codes "__COUNTER__") ≡ true
unfolding is_reserved_text
counter_reserved = refl

first_text : (P : List ℕ → Type 0) (word : List ℕ) → is_first_name word ≡ true → P (codes "__LINE__") → P (codes "__FILE__") → P (codes "__COUNTER__") → P word
first_text P word is line file counter =
    elim (or_cases (bytes_eq word (codes "__LINE__")) (bytes_eq word (codes "__FILE__") || bytes_eq word (codes "__COUNTER__")) is) [
      | inl same ↦ subst P (sym (bytes_eq-equal word (codes "__LINE__") same)) line
      | inr more ↦ elim (or_cases (bytes_eq word (codes "__FILE__")) (bytes_eq word (codes "__COUNTER__")) more) [
        | inl same ↦ subst P (sym (bytes_eq-equal word (codes "__FILE__") same)) file
        | inr same ↦ subst P (sym (bytes_eq-equal word (codes "__COUNTER__") same)) counter
      ]
    ]

pub first_reserved : (word : List ℕ) → is_first_name word ≡ true → is_reserved_text word ≡ true
first_reserved word is = first_text (λ w. is_reserved_text w ≡ true) word is line_reserved file_reserved counter_reserved

line_kind : (k : Kind) → fits k (codes "__LINE__") ≡ true → is_identifier k ≡ true
unfolding is_punctuator_text
line_kind Ident h = refl
line_kind Number h = absurd (cc)
line_kind Char h = absurd (cc)
line_kind Str h = absurd (cc)
line_kind Punct h = absurd (cc)
line_kind Header h = absurd (cc)
line_kind Other h = absurd (cc)

file_kind : (k : Kind) → fits k (codes "__FILE__") ≡ true → is_identifier k ≡ true
unfolding is_punctuator_text
file_kind Ident h = refl
file_kind Number h = absurd (cc)
file_kind Char h = absurd (cc)
file_kind Str h = absurd (cc)
file_kind Punct h = absurd (cc)
file_kind Header h = absurd (cc)
file_kind Other h = absurd (cc)

counter_kind : (k : Kind) → fits k (codes "__COUNTER__") ≡ true → is_identifier k ≡ true
unfolding is_punctuator_text
counter_kind Ident h = refl
counter_kind Number h = absurd (cc)
counter_kind Char h = absurd (cc)
counter_kind Str h = absurd (cc)
counter_kind Punct h = absurd (cc)
counter_kind Header h = absurd (cc)
counter_kind Other h = absurd (cc)

first_named : (t : Token) → is_spelled t ≡ true → is_first_name t.text ≡ true → is_name t ≡ true
first_named t spelled is =
    let fit = spelled_fits t spelled in
    first_text (λ w. fits t.kind w ≡ true → is_identifier t.kind ≡ true) t.text is (line_kind t.kind) (file_kind t.kind) (counter_kind t.kind) fit

-- ---- one unit

told_in : (text : UnitTextValue) (t : Token) → IsTold text t → In t (names_told text)
told_in text t h =
    let one : name_in h.event ≡ t ∷ [] = ap (λ (o : Option Token). option_map_or (λ (x : Token). x ∷ []) o []) h.named in
    in_flat name_in text.events h.event t h.among (subst (λ (ts : List Token). In t ts) (sym one) (0, refl))

name_one : (o : Option Token) (t : Token) → In t (option_map_or (λ (x : Token). x ∷ []) o []) → o ≡ Some t
name_one None t (k, e) = absurd (none-some t e)
name_one (Some x) t (zero, e) = e
name_one (Some x) t (suc k, e) = absurd (none-some t e)

in_told : (text : UnitTextValue) (t : Token) → In t (names_told text) → IsTold text t
in_told text t i =
    let e = flat_element name_in t text.events i in
    record { event = e.0; among = e.1; named = name_one e.0.name t e.2 }

module _ (a : Analysed) (members : List Part) (name : List ℕ) (h : IsAllowed a members name) (u : UnitAnalysis) (i : In u a.value.units) where
  pub is_unit : IsUnit a.value.table u
  is_unit = unit_is h.source h.workspace a.value h.accepted u i

  -- both tokens of each link of the unit get one new spelling
  pub links_agree : LinksAgree (spelled members name) u.text
  unfolding links_of
  links_agree = λ l j.
      let text = is_unit.text in
      let P : UnitTextValue → Type 0 = λ v. In l v.links in
      let alike = unit_links_are_alike is_unit.source is_unit.number is_unit.unit is_unit.before text is_unit.is_text l (subst P (sym is_unit.own) j) in
      let same : bytes_eq l.x.text l.y.text ≡ true = ap (λ (w : List ℕ). bytes_eq w l.y.text) alike.text ∙ bytes_eq-same l.y.text in
      let names : (is_name l.x && is_name l.y) ≡ true = and_from (is_name l.x) (is_name l.y) alike.first alike.second in
      let is : are_alike l ≡ true = and_from (is_name l.x && is_name l.y) (bytes_eq l.x.text l.y.text) names same in
      let own : List Link = flat_map unit_links a.value.units in
      let outside : List Link = external_links (names_of_units a.value.workspace.units a.value.units) in
      let here : In l (unit_links u) = in_left l u.text.links (occurrence_links u.bound.names u.text.toks 0 u.text.toks) j in
      linked_stay_alike a members name h l (in_filter are_alike l (own ++ outside) is (in_left l own outside (in_flat unit_links a.value.units u l i here)))

  told_occurs : (t : Token) → IsTold u.text t → Occurs a.value t
  told_occurs t told =
      let has = unit_occurs a.value u i is_unit in
      let among = told.among in
      (in_at (EventHas (Occurs a.value)) u.text.events has.events told.event among.0 among.1).name t told.named

  pub told_traced : (t : Token) → IsTold u.text t → Traced a.value t
  told_traced t told =
      let has = unit_traced a.value u i is_unit in
      let among = told.among in
      (in_at (EventHas (Traced a.value)) u.text.events has.events told.event among.0 among.1).name t told.named

  told_spelled : (t : Token) → IsTold u.text t → is_spelled t ≡ true
  told_spelled t told = (unit_spelled a.value u i is_unit).names told.event t told.among told.named

  abbrev own_renaming : Renaming
  own_renaming = renaming a.value members name u.text

  own_spells : Spells members name own_renaming
  own_spells = renamings_spell a.value members name u.text

  -- a reserved name of which the unit tells stays
  reserved_stays : (t : Token) → IsTold u.text t → is_first_name t.text ≡ true → spelled members name t ≡ t.text
  reserved_stays t told first =
      let reserved = first_reserved t.text first in
      let named = first_named t (told_spelled t told) first in
      let like = name_like a members name own_renaming h own_spells t (told_occurs t told) named in
      let w : Token = like.0 in
      let is : IsLike a.value t w = like.1 in
      let parted = parted_one a members name own_renaming h own_spells w is.told in
      let none = none_stand a.value members name h.first in
      let each = told_traced t told in
      let new : spelled members name t ≡ spelled members name w = sym (own_spells t each.each) ∙ like_spelled a members name own_renaming h own_spells t w is in
      elim (cases_Bool (holds_member members w)) [
        | inr free ↦ new ∙ parted_stays a.value members name none w parted free ∙ is.text
        | inl held ↦
            let not_reserved = (holder_free a.value members name none w (holder a.value members name none w (parted.parted held) held) held).0 in
            absurd (both_ways (is_reserved_text w.text) not_reserved (ap is_reserved_text is.text ∙ reserved))
      ]

  told_alike : (t v : Token) → IsTold u.text t → IsTold u.text v → t.text ≡ v.text → spelled members name t ≡ spelled members name v
  told_alike t v told also same = elim (cases_Bool (is_first_name t.text)) [
    | inl first ↦ reserved_stays t told first ∙ same ∙ sym (reserved_stays v also (ap is_first_name (sym same) ∙ first))
    | inr other ↦
        let text = is_unit.text in
        let P : UnitTextValue → Type 0 = λ x. IsTold x t in
        let Q : UnitTextValue → Type 0 = λ x. IsTold x v in
        let R : UnitTextValue → Type 0 = λ x. LinksAgree (spelled members name) x in
        told_names_are_linked (spelled members name) is_unit.source is_unit.number is_unit.unit is_unit.before text is_unit.is_text (subst R (sym is_unit.own) links_agree) t v
        (subst P (sym is_unit.own) told) (subst Q (sym is_unit.own) also) same other
  ]

  abbrev is_word_of : List ℕ → Token → Bool
  is_word_of word x = bytes_eq x.text word

  told_by : (t : Token) → IsTold u.text t → (o : Option Token) → find (is_word_of t.text) (names_told u.text) ≡ o
      → spelled members name t ≡ option_map_or (spelled members name) o t.text
  told_by t told None e =
      let there = told_in u.text t told in
      absurd (not_found (is_word_of t.text) (names_told u.text) t there.0 e there.1 (bytes_eq-same t.text))
  told_by t told (Some v) e =
      let is = found (is_word_of t.text) (names_told u.text) v e in
      told_alike t v told (in_told u.text v is.0) (sym (bytes_eq-equal v.text t.text is.1))

  first_by : (word : List ℕ) → is_first_name word ≡ true → (o : Option Token) → find (is_word_of word) (names_told u.text) ≡ o → option_map_or (spelled members name) o word ≡ word
  first_by word first None e = refl
  first_by word first (Some v) e =
      let is = found (is_word_of word) (names_told u.text) v e in
      let same = bytes_eq-equal v.text word is.1 in
      reserved_stays v (in_told u.text v is.0) (ap is_first_name same ∙ first) ∙ same

pub told_names_are_kept : ToldNamesAreKept
told_names_are_kept = λ a members name h u i. record {
  told = λ t told. told_by a members name h u i t told (find (λ (x : Token). bytes_eq x.text t.text) (names_told u.text)) refl;
  first = λ word first. first_by a members name h u i word first (find (λ (x : Token). bytes_eq x.text word) (names_told u.text)) refl;
}
