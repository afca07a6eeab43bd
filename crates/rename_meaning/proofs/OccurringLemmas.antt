-- Tokens that occur in an analysis, under a renaming.
use Rattle.std.proofs.Common.{◌≡◌, ℕ, suc, ◌+◌, ◌==◌, ◌&&◌, ◌||◌, true, false, List, [], ◌∷◌, ◌++◌, Option, Some, None, inl, inr, refl, sym, ap, ◌∙◌, subst, arith}
use Rattle.std.specs.Prelude.{◌⊎◌, slice_get}
use Rattle.std.specs.List.{flat_map, list_any}
use Rattle.std.specs.Option.{option_map_or, option_and_then}
use Rattle.std.specs.Str.{bytes_eq}
use Rattle.std.proofs.lemmas.Bool.{cases_Bool, both_ways, and_parts, and_from, or_left, or_right, or_cases, eqb-true, eq-eqb}
use Rattle.cs_base.proofs.FileMapLemmas.{bytes_eq-equal, bytes_eq-same}
use Rattle.cs_base.proofs.ListLemmas.{any_at}
use Rattle.cs_base.specs.declared.positions.Part.{Part}
use Rattle.cs_base.specs.declared.positions.Pos.{Pos}
use Rattle.cs_base.specs.Reserved.{is_reserved_text}
use Rattle.cs_base.specs.Token.{Token}
use Rattle.line_shape.specs.Signs.{is_identifier, is_punctuator, is_name}
use Rattle.line_shape.proofs.SignLemmas.{kinds-apart as neither_name, name_no_sign as not_both}
use Rattle.unit_steps.specs.Below.macro_expand.Renaming.{Renaming}
use Rattle.unit_steps.specs.Below.macro_expand.Renaming as macros
use Rattle.source_files.specs.Files.{Table}
use Rattle.source_files.specs.KeptFiles.{KeptValue, kept_in}
use Rattle.part_respell.specs.Respelled.{spelled}
use Rattle.analysis.specs.Analysed.{Analysed}
use Rattle.analysis.specs.Analysis.{UnitAnalysis, AnalysisValue}
use Rattle.analysis.proofs.NamingLemmas.{split_at, in_left, in_right, any_in}
use Rattle.rename_rules.specs.Tokens.{pasted_tokens}
use Rattle.offences.specs.Tokens.{file_toks, entry_tokens, kept_tokens, holds_member}
use Rattle.rename_meaning.specs.Allowed.{IsAllowed}
use Rattle.rename_meaning.specs.KeptTokens.{Spells}
use Rattle.rename_meaning.specs.Occurring.{same_origin, same_origins, is_alike, occurring_in, OccurringAreKept, FileTokensOccur, PastedTokensOccur}
use Rattle.rename_meaning.specs.Spellings.{IsOfFile, IsPasted, IsOfFileOrName}
use Rattle.rename_meaning.proofs.ApartLemmas.{IsParted, parted_of, file_told, pasted_parted, parted_stays, others_stay_apart}
use Rattle.rename_meaning.proofs.KeptTokenLemmas.{other_same}
use Rattle.edited_unit_laws.proofs.ListLemmas.{In, in_flat}
use Rattle.rename_meaning.proofs.MemberLemmas.{toks_in}
use Rattle.rename_meaning.proofs.NoneLemmas.{none_stand, holder, holder_free}

-- ---- origins

pub origin_is : (o p : Option Pos) → same_origin o p ≡ true → o ≡ p
origin_is None None h = refl
origin_is None (Some q) h = absurd (cc)
origin_is (Some p) None h = absurd (cc)
origin_is (Some p) (Some q) h =
    let both = and_parts (p.file == q.file) (p.at == q.at) h in
    let file = eqb-true p.file q.file both.0 in
    let at = eqb-true p.at q.at both.1 in
    λ i. Some (record { file = file i; at = at i })

origins_are : (os ps : List (Option Pos)) → same_origins os ps ≡ true → os ≡ ps
origins_are [] [] h = refl
origins_are [] (p ∷ ps) h = absurd (cc)
origins_are (o ∷ os) [] h = absurd (cc)
origins_are (o ∷ os) (p ∷ ps) h =
    let both = and_parts (same_origin o p) (same_origins os ps) h in
    let first = origin_is o p both.0 in
    let rest = origins_are os ps both.1 in
    ap (λ (x : Option Pos). x ∷ os) first ∙ ap (λ (xs : List (Option Pos)). p ∷ xs) rest

pub origin_same : (o : Option Pos) → same_origin o o ≡ true
origin_same None = refl
origin_same (Some p) = and_from (p.file == p.file) (p.at == p.at) (eq-eqb p.file p.file refl) (eq-eqb p.at p.at refl)

origins_same : (os : List (Option Pos)) → same_origins os os ≡ true
origins_same [] = refl
origins_same (o ∷ os) = and_from (same_origin o o) (same_origins os os) (origin_same o) (origins_same os)

-- ---- tokens of files, and pasted ones

in_entry : (n : ℕ) (o : Option KeptValue) (t : Token) → In t (option_map_or file_toks o []) → (f : KeptValue) × (o ≡ Some f) × In t (file_toks f)
in_entry n None t i = absurd (let e = i.1 in cc)
in_entry n (Some f) t i = (f, refl, i)

in_kept : (table : Table) (n : ℕ) (t : Token) → In t (kept_tokens n table)
    → (k : ℕ) × (f : KeptValue) × (option_and_then (kept_in (n + k)) (slice_get table k) ≡ Some f) × In t (file_toks f)
unfolding kept_tokens
in_kept [] n t i = absurd (let e = i.1 in cc)
in_kept (e ∷ table) n t i = split_at _ t (entry_tokens n e) (kept_tokens (n + 1) table) i.0 i.1
    (λ j. let r = in_entry n (kept_in n e) t j in let same : n ≡ n + 0 = omega arith in
    (0, r.0, subst (λ (m : ℕ). kept_in m e ≡ Some r.0) same r.1, r.2))
    (λ j. let r = in_kept table (n + 1) t j in let on : (n + 1) + r.0 ≡ n + suc r.0 = omega arith in
    (suc r.0, r.1, subst (λ (m : ℕ). option_and_then (kept_in m) (slice_get table r.0) ≡ Some r.1) on r.2, r.3))

kept_of_file : (a : AnalysisValue) (t : Token) → In t (kept_tokens 0 a.table) → IsOfFile a t
kept_of_file a t i =
    let r = in_kept a.table 0 t i in
    let same : 0 + r.0 ≡ r.0 = omega arith in
    record {
      number = r.0;
      file = r.1;
      is_kept = subst (λ (m : ℕ). option_and_then (kept_in m) (slice_get a.table r.0) ≡ Some r.1) same r.2;
      there = r.3;
    }

pasted_by : (units all : List UnitAnalysis) (t : Token) → ((u : UnitAnalysis) → In u units → In u all)
    → In t (flat_map (λ (u : UnitAnalysis). u.text.pasted) units) → (u : UnitAnalysis) × In u all × In t u.text.pasted
pasted_by [] all t each i = absurd (let e = i.1 in cc)
pasted_by (u ∷ units) all t each i =
    split_at _ t u.text.pasted (flat_map (λ (v : UnitAnalysis). v.text.pasted) units) i.0 i.1 (λ j. (u, each u (0, refl), j))
    (λ j. pasted_by units all t (λ v k. each v (suc k.0, k.1)) j)

pasted_is : (a : AnalysisValue) (t : Token) → In t (pasted_tokens a) → IsPasted a t
unfolding pasted_tokens
pasted_is a t i = let r = pasted_by a.units a.units t (λ u j. j) i in record { unit = r.0; there = r.1; pasted = r.2 }

-- ---- what occurs

-- The token is alike one of a file, or a pasted one.
pub record IsLike (a : AnalysisValue) (t u : Token) : Type 0 where
  pub told : IsOfFile a u ⊎ IsPasted a u
  pub kind : (is_identifier t.kind && is_name u || is_punctuator t.kind && is_punctuator u.kind) ≡ true
  pub text : u.text ≡ t.text
  pub origins : u.origins ≡ t.origins

occurs_like : (a : AnalysisValue) (t : Token) → (is_identifier t.kind || is_punctuator t.kind) ≡ true → macros.occurs (occurring_in a) t ≡ true
    → (u : Token) × IsLike a t u
unfolding occurring_in
occurs_like a t kind h =
    let any : list_any (is_alike t.kind t.origins t.text) (kept_tokens 0 a.table ++ pasted_tokens a) ≡ true = rw kind at h in
    let u = any_in (is_alike t.kind t.origins t.text) (kept_tokens 0 a.table ++ pasted_tokens a) any in
    let v : Token = u.0 in
    let both = and_parts (is_identifier t.kind && is_name v || is_punctuator t.kind && is_punctuator v.kind) (bytes_eq v.text t.text && same_origins v.origins t.origins) u.2 in
    let same = and_parts (bytes_eq v.text t.text) (same_origins v.origins t.origins) both.1 in
    let told : IsOfFile a v ⊎ IsPasted a v =
    split_at (IsOfFile a v ⊎ IsPasted a v) v (kept_tokens 0 a.table) (pasted_tokens a) u.1.0 u.1.1 (λ j. inl (kept_of_file a v j)) (λ j. inr (pasted_is a v j)) in
    (v, record { told = told; kind = both.0; text = bytes_eq-equal v.text t.text same.0; origins = origins_are v.origins t.origins same.1 })

module _ (a : Analysed) (members : List Part) (name : List ℕ) (r : Renaming) (h : IsAllowed a members name) (spells : Spells members name r) where
  pub parted_one : (u : Token) → IsOfFile a.value u ⊎ IsPasted a.value u → IsParted a.value members u
  parted_one u (inl f) = parted_of a.value members u (file_told a members name h f.number f.file f.is_kept u f.there)
  parted_one u (inr p) = pasted_parted a members name h u p

  named_one : (u : Token) → is_name u ≡ true → IsOfFile a.value u ⊎ IsPasted a.value u → IsOfFileOrName a.value u
  named_one u named (inl f) = inl f
  named_one u named (inr p) = inr (p, named)

  -- it is spelled as the other one
  pub like_spelled : (t u : Token) → IsLike a.value t u → macros.spelled r t ≡ spelled members name u
  like_spelled t u like =
      ap (λ (os : List (Option Pos)). r.spell os t.text) (sym like.origins) ∙ ap (λ (w : List ℕ). r.spell u.origins w) (sym like.text)
      ∙ spells u (let p = parted_one u like.told in p.each)

  like_named : (t u : Token) → IsLike a.value t u → is_name t ≡ true → is_name u ≡ true
  like_named t u like named = elim (or_cases (is_identifier t.kind && is_name u) (is_punctuator t.kind && is_punctuator u.kind) like.kind) [
    | inl name2 ↦ (and_parts (is_identifier t.kind) (is_name u) name2).1
    | inr sign ↦ absurd (both_ways (is_punctuator t.kind) (not_both t.kind named) (and_parts (is_punctuator t.kind) (is_punctuator u.kind) sign).0)
  ]

  like_sign : (t u : Token) → IsLike a.value t u → is_punctuator t.kind ≡ true → is_name u ≡ false
  like_sign t u like sign = elim (or_cases (is_identifier t.kind && is_name u) (is_punctuator t.kind && is_punctuator u.kind) like.kind) [
    | inl name2 ↦ absurd (both_ways (is_identifier t.kind) (neither_name t.kind sign) (and_parts (is_identifier t.kind) (is_name u) name2).0)
    | inr both ↦ neither_name u.kind (and_parts (is_punctuator t.kind) (is_punctuator u.kind) both).1
  ]

  pub name_like : (t : Token) → macros.occurs (occurring_in a.value) t ≡ true → is_name t ≡ true → (u : Token) × IsLike a.value t u
  name_like t occurs named = occurs_like a.value t (or_left (is_identifier t.kind) (is_punctuator t.kind) named) occurs

  never_reserved : (t : Token) (word : List ℕ) → is_reserved_text word ≡ true → macros.occurs (occurring_in a.value) t ≡ true → is_name t ≡ true
      → macros.spelled r t ≡ word → t.text ≡ word
  never_reserved t word reserved occurs named same =
      let u = name_like t occurs named in
      let like = u.1 in
      let parted = parted_one u.0 like.told in
      let new : spelled members name u.0 ≡ word = sym (like_spelled t u.0 like) ∙ same in
      elim (cases_Bool (holds_member members u.0)) [
        | inr free ↦ sym like.text ∙ sym (parted_stays a.value members name (none_stand a.value members name h.first) u.0 parted free) ∙ new
        | inl held ↦
            let free = holder_free a.value members name (none_stand a.value members name h.first) u.0
            (holder a.value members name (none_stand a.value members name h.first) u.0 (parted.parted held) held) held in
            absurd (both_ways (is_reserved_text (spelled members name u.0)) free.1 (ap is_reserved_text new ∙ reserved))
      ]

pub occurring_are_kept : OccurringAreKept
unfolding occurring_in
occurring_are_kept = λ a members name r h spells. record {
  apart = λ t u occurs_t occurs_u named also same.
      let v = name_like a members name r h spells t occurs_t named in
      let w = name_like a members name r h spells u occurs_u also in
      let first = v.1 in
      let second = w.1 in
      sym first.text
      ∙ others_stay_apart a members name h v.0 w.0
      (named_one a members name r h spells v.0 (like_named a members name r h spells t v.0 first named) first.told)
      (named_one a members name r h spells w.0 (like_named a members name r h spells u w.0 second also) second.told)
      (sym (like_spelled a members name r h spells t v.0 first) ∙ same ∙ like_spelled a members name r h spells u w.0 second)
      ∙ second.text;
  alone = λ t word reserved occurs named same. never_reserved a members name r h spells t word reserved occurs named same;
  signs = λ t occurs sign.
      let u = occurs_like a.value t (or_right (is_identifier t.kind) (is_punctuator t.kind) sign) occurs in
      let like = u.1 in
      let parted = parted_one a members name r h spells u.0 like.told in
      let stays = other_same a members name r h spells u.0 parted (like_sign a members name r h spells t u.0 like sign) in
      like_spelled a members name r h spells t u.0 like ∙ sym (spells u.0 parted.each) ∙ stays ∙ like.text;
  others = λ kind origins text no_name no_sign. rw (no_name, no_sign) refl;
}

alike_itself : (t : Token) → (is_identifier t.kind || is_punctuator t.kind) ≡ true → is_alike t.kind t.origins t.text t ≡ true
alike_itself t kind =
    let same : (bytes_eq t.text t.text && same_origins t.origins t.origins) ≡ true =
    and_from (bytes_eq t.text t.text) (same_origins t.origins t.origins) (bytes_eq-same t.text) (origins_same t.origins) in
    and_from (is_identifier t.kind && is_name t || is_punctuator t.kind && is_punctuator t.kind) (bytes_eq t.text t.text && same_origins t.origins t.origins)
    (elim (or_cases (is_identifier t.kind) (is_punctuator t.kind) kind) [
      | inl named ↦ or_left (is_identifier t.kind && is_name t) (is_punctuator t.kind && is_punctuator t.kind) (and_from (is_identifier t.kind) (is_name t) named named)
      | inr sign ↦ or_right (is_identifier t.kind && is_name t) (is_punctuator t.kind && is_punctuator t.kind) (and_from (is_punctuator t.kind) (is_punctuator t.kind) sign sign)
    ])
    same

in_occurs : (a : AnalysisValue) (t : Token) → In t (kept_tokens 0 a.table ++ pasted_tokens a) → macros.occurs (occurring_in a) t ≡ true
unfolding occurring_in
in_occurs a t i = elim (cases_Bool (is_identifier t.kind || is_punctuator t.kind)) [
  | inl kind ↦ rw kind (any_at (is_alike t.kind t.origins t.text) (kept_tokens 0 a.table ++ pasted_tokens a) i.0 t i.1 (alike_itself t kind))
  | inr other ↦ rw other refl
]

pub file_tokens_occur : FileTokensOccur
file_tokens_occur = λ a t f.
    let same : f.number ≡ 0 + f.number = omega arith in
    let kept = f.is_kept in
    in_occurs a t (in_left t (kept_tokens 0 a.table) (pasted_tokens a)
    (toks_in a.table 0 f.number f.file t (subst (λ (m : ℕ). option_and_then (kept_in m) (slice_get a.table f.number) ≡ Some f.file) same kept) f.there))

pub pasted_tokens_occur : PastedTokensOccur
unfolding pasted_tokens
pasted_tokens_occur = λ a t p.
    in_occurs a t (in_right t (kept_tokens 0 a.table) (pasted_tokens a) (in_flat (λ (u : UnitAnalysis). u.text.pasted) a.units p.unit t p.there p.pasted))
