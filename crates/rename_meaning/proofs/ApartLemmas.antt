-- Tokens that get one new spelling had one old spelling.
use Rattle.std.proofs.Common.{◌≡◌, ℕ, zero, suc, ◌+◌, ◌<◌, ◌≤◌, true, false, List, [], ◌∷◌, ◌++◌, length, Option, None, Some, inl, inr, refl, sym, ap, subst, ◌∙◌, arith}
use Rattle.std.specs.Prelude.{slice_get}
use Rattle.std.specs.List.{list_any}
use Rattle.std.specs.Option.{option_map_or, option_and_then}
use Rattle.std.proofs.lemmas.Bool.{cases_Bool}
use Rattle.cs_base.specs.declared.positions.Part.{Part}
use Rattle.cs_base.specs.declared.positions.Pos.{Pos}
use Rattle.cs_base.specs.Token.{Token, has_origins}
use Rattle.cs_base.specs.declared.tokens.Kind.{Kind}
use Rattle.cs_base.specs.declared.tokens.Kind.TheVariants.{Ident}
use Rattle.line_shape.specs.Signs.{is_identifier, is_name}
use Rattle.expansion_laws.specs.Spelled.{fits}
use Rattle.lexer.specs.Places.{pos, origins_from}
use Rattle.lexer.specs.Tokens.{tokens_of}
use Rattle.lexer.proofs.OriginLemmas.{length-origins}
use Rattle.source_files.specs.KeptFiles.{KeptValue, kept_at}
use Rattle.part_respell.specs.Respelled.{member_over, spelled}
use Rattle.analysis.specs.Analysed.{Analysed}
use Rattle.analysis.specs.Analysis.{UnitAnalysis, AnalysisValue}
use Rattle.analysis.specs.FileTokens.{file_tokens}
use Rattle.analysis.proofs.NamingLemmas.{in_left, in_right}
use Rattle.analysis.proofs.TokenPlaceLemmas.{token_placed}
use Rattle.rename_rules.specs.Tokens.{all_file_tokens, pasted_tokens}
use Rattle.offences.specs.Tokens.{first_place, holds_member}
use Rattle.rename_meaning.specs.Allowed.{IsAllowed}
use Rattle.rename_meaning.specs.Spellings.{IsPasted, IsOfFileOrName, OthersStayApart}
use Rattle.edited_unit_laws.proofs.ListLemmas.{In, all_at, cons_nil, in_flat}
use Rattle.rename_meaning.proofs.LinkLemmas.{IsWhole, pasted_whole, whole_chained}
use Rattle.edited_unit_laws.proofs.TracedLemmas.{spelled_fits}
use Rattle.edited_unit_laws.proofs.AnalysedUnitLemmas.{unit_is}
use Rattle.edited_unit_laws.proofs.FileLemmas.{token_stands}
use Rattle.rename_meaning.proofs.SpellLemmas.{is_from, spelled-kept}
use Rattle.rename_meaning.proofs.NoneLemmas.{NoneStand, none_stand, holder, holders_alike, never_occurs}
use Rattle.rename_meaning.proofs.MemberLemmas.{any_file_token}
use Rattle.edited_unit_laws.proofs.TableTokenLemmas.{file_token}
use Rattle.edited_unit_laws.proofs.ApartLemmas.{first_some}
use Rattle.rename_meaning.proofs.KeptLemmas.{touched}

-- ---- tokens that offences speak of

-- A token among all, with an origin for each character and a place; if it holds a member, it is among those that have parts.
pub record IsTold (a : AnalysisValue) (members : List Part) (t : Token) : Type 0 where
  pub all : In t (all_file_tokens a ++ pasted_tokens a)
  pub each : length t.origins ≡ length t.text
  pub placed : first_place t ≡ [] → ⊥
  pub parted : holds_member members t ≡ true → In t (file_tokens a ++ pasted_tokens a)

-- The same without a place.
pub record IsParted (a : AnalysisValue) (members : List Part) (t : Token) : Type 0 where
  pub each : length t.origins ≡ length t.text
  pub parted : holds_member members t ≡ true → In t (file_tokens a ++ pasted_tokens a)

pub parted_of : (a : AnalysisValue) (members : List Part) (t : Token) → IsTold a members t → IsParted a members t
parted_of a members t h = record { each = h.each; parted = h.parted }

module _ (a : AnalysisValue) (members : List Part) (name : List ℕ) (none : NoneStand a members name) where
  pub parted_stays : (t : Token) → IsParted a members t → holds_member members t ≡ false → spelled members name t ≡ t.text
  parted_stays t h free = spelled-kept members name t.origins t.text h.each free

  pub free-stays : (t : Token) → IsTold a members t → holds_member members t ≡ false → spelled members name t ≡ t.text
  free-stays t h free = spelled-kept members name t.origins t.text h.each free

  -- one holds a member, and the other does not
  never : (t u : Token) → IsTold a members t → IsTold a members u → holds_member members t ≡ true → holds_member members u ≡ false
      → spelled members name t ≡ spelled members name u → ⊥
  never t u h k held free same =
      never_occurs a members name none u t k.all k.placed (holder a members name none t (h.parted held) held)
      (same ∙ free-stays u k free)

  pub apart : (t u : Token) → IsTold a members t → IsTold a members u → spelled members name t ≡ spelled members name u → t.text ≡ u.text
  apart t u h k same = elim (cases_Bool (holds_member members t)) [
    | inl held ↦ elim (cases_Bool (holds_member members u)) [
      | inl also ↦
          sym (holders_alike a members name none t u (holder a members name none t (h.parted held) held) held
          (holder a members name none u (k.parted also) also) (sym same))
      | inr free ↦ absurd (never t u h k held free same)
    ]
    | inr free ↦ elim (cases_Bool (holds_member members u)) [
      | inl held ↦ absurd (never u t k h held free (sym same))
      | inr also ↦ sym (free-stays t h free) ∙ same ∙ free-stays u k also
    ]
  ]

-- ---- tokens of kept files

-- a member that a text of a file holds
member_by : (members : List Part) (file at n : ℕ) (o : Option Part) → member_over members (pos file at) ≡ o
    → (list_any (is_from members) (origins_from file (at + 1) n) ≡ true → (k : ℕ) × (m : Part) × (k < n) × (member_over members (pos file (at + 1 + k)) ≡ Some m))
    → list_any (is_from members) (origins_from file at (suc n)) ≡ true → (k : ℕ) × (m : Part) × (k < suc n) × (member_over members (pos file (at + k)) ≡ Some m)
member_by members file at n None e later h =
    let behind : list_any (is_from members) (origins_from file (at + 1) n) ≡ true = rw e at h in
    let r = later behind in
    let same : at + 1 + r.0 ≡ at + suc r.0 = omega arith in
    let less = r.2 in
    (suc r.0, r.1, omega arith, subst (λ (j : ℕ). member_over members (pos file j) ≡ Some r.1) same r.3)
member_by members file at n (Some m) e later h =
    let same : at ≡ at + 0 = omega arith in
    (0, m, omega arith, subst (λ (j : ℕ). member_over members (pos file j) ≡ Some m) same e)

pub any_member : (members : List Part) (file at n : ℕ) → list_any (is_from members) (origins_from file at n) ≡ true
    → (k : ℕ) × (m : Part) × (k < n) × (member_over members (pos file (at + k)) ≡ Some m)
any_member members file at zero h = absurd (cc)
any_member members file at (suc n) h =
    member_by members file at n (member_over members (pos file at)) refl (λ later. any_member members file (at + 1) n later) h

first_of : (file at n : ℕ) (t : Token) → 1 ≤ n → t.origins ≡ origins_from file at n → first_place t ≡ [] → ⊥
first_of file at zero t some e none = absurd (omega arith)
first_of file at (suc n) t some e none =
    let here : first_place t ≡ pos file at ∷ [] =
    ap (λ (os : List (Option Pos)). option_map_or (λ p. p ∷ []) (option_and_then (λ (o : Option Pos). o) (slice_get os 0)) []) e in
    cons_nil (pos file at) [] (sym here ∙ none)

module _ (a : Analysed) (members : List Part) (name : List ℕ) (h : IsAllowed a members name) (n : ℕ) (f : KeptValue) (is : kept_at a.value.table n ≡ Some f) where
  -- what holds a member is an identifier or a pp-number
  pub held_parted : (t : Token) → In t (tokens_of f.number f.bytes) → holds_member members t ≡ true → has_origins t.kind ≡ true
  held_parted t i held =
      let stands = token_stands f.number f.bytes t i in
      let m = any_member members f.number t.at.at (length t.text) (ap (λ (os : List (Option Pos)). list_any (is_from members) os) (sym stands.origins) ∙ held) in
      (touched a members name h n f is t m.0 m.1 i m.2 m.3).0

  pub file_told : (t : Token) → In t (tokens_of f.number f.bytes) → IsTold a.value members t
  file_told t i =
      let stands = token_stands f.number f.bytes t i in
      let placed = token_placed f.number f.bytes i.0 t i.1 in
      record {
        all = in_left t (all_file_tokens a.value) (pasted_tokens a.value) (any_file_token a.value n f t is i);
        each = ap length stands.origins ∙ length-origins f.number t.at.at (length t.text);
        placed = first_of f.number t.at.at (length t.text) t placed.some stands.origins;
        parted = λ held. in_left t (file_tokens a.value) (pasted_tokens a.value) (file_token a.value n f t is i (held_parted t i held));
      }

-- ---- pasted tokens

fits_some : (k : Kind) (text : List ℕ) → is_identifier k ≡ true → fits k text ≡ true → 1 ≤ length text
fits_some Ident [] h fit = absurd (cc)
fits_some Ident (c ∷ cs) h fit = omega arith
fits_some _ text h fit = absurd (cc)

module _ (a : Analysed) (members : List Part) (name : List ℕ) (h : IsAllowed a members name) (t : Token) (p : IsPasted a.value t) where
  whole : IsWhole a.value t
  whole =
      let is = unit_is h.source h.workspace a.value h.accepted p.unit p.there in
      all_at (IsWhole a.value) p.unit.text.pasted (pasted_whole a.value p.unit p.there is) t p.pasted

  among : In t (pasted_tokens a.value)
  unfolding pasted_tokens
  among = in_flat (λ (u : UnitAnalysis). u.text.pasted) a.value.units p.unit t p.there p.pasted

  pub pasted_parted : IsParted a.value members t
  pasted_parted = record {
    each = (let w = whole in let traced = w.traced in traced.each);
    parted = λ held. in_right t (file_tokens a.value) (pasted_tokens a.value) among;
  }

  pasted_told : is_name t ≡ true → IsTold a.value members t
  pasted_told named =
      let w = whole in
      let parted = pasted_parted in
      let size = parted.each in
      let some = fits_some t.kind t.text named (spelled_fits t w.spelled) in
      record {
        all = in_right t (all_file_tokens a.value) (pasted_tokens a.value) among;
        each = size;
        placed = first_some a.value t.origins (whole_chained a.value t w named) (omega (arith, size, some));
        parted = parted.parted;
      }

told_one : (a : Analysed) (members : List Part) (name : List ℕ) → IsAllowed a members name → (t : Token) → IsOfFileOrName a.value t → IsTold a.value members t
told_one a members name h t (inl f) = file_told a members name h f.number f.file f.is_kept t f.there
told_one a members name h t (inr p) = pasted_told a members name h t p.0 p.1

pub others_stay_apart : OthersStayApart
others_stay_apart = λ a members name h t u i j same.
    apart a.value members name (none_stand a.value members name h.first) t u (told_one a members name h t i) (told_one a members name h u j) same
