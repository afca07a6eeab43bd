-- First occurrences whose characters are known to be those of whole tokens.
use Rattle.std.proofs.Common.{◌≡◌, ℕ, ◌<◌, ◌&&◌, Bool, true, false, List, length, get_or, set, refl, sym, ap, ◌∙◌, subst, inl, inr, Option, Some, None}
use Rattle.std.specs.Prelude.{slice_get, unwrap_or, MatchBool}
use Rattle.std.specs.Str.{bytes_eq}
use Rattle.std.proofs.lemmas.Bool.{false≢true, and_parts, and_from, cases_eq}
use Rattle.std.proofs.lemmas.List.{get_or-set_same, get_or-set_other}
use Rattle.std.proofs.lemmas.Option.{same_Some}
use Rattle.cs_base.proofs.FileMapLemmas.{bytes_eq-same}
use Rattle.cs_base.specs.Token.{Token}
use Rattle.cs_base.specs.declared.positions.Part.{Part}
use Rattle.cs_base.specs.declared.positions.Pos.{Pos}
use Rattle.eclass_map.specs.ClassTable.{Table, AreWhole, added_tokens}
use Rattle.include_tree.specs.Below.line_shape.Signs.{is_name}
use Rattle.analysis.specs.Joins.{IsKnown, AreKnown, JoinsPair, link_of}
use Rattle.analysis.specs.Links.{are_alike}

-- ---- what joins leave as it was

whole_kept : (origins : List (Option Pos)) (old new : Table) → added_tokens new ≡ added_tokens old → AreWhole old origins → AreWhole new origins
whole_kept origins old new same h =
    record {
      tokens = h.tokens;
      added = λ k token at. let P : List Part → Type 0 = λ v. (i : ℕ) × (slice_get v i ≡ Some token) in subst P (sym same) (h.added k token at);
      each = h.each;
    }

pub known_kept : (t : Token) (old new : Table) → added_tokens new ≡ added_tokens old → IsKnown t old → IsKnown t new
known_kept t old new same h = λ name. whole_kept t.origins old new same (h name)

-- ---- a token and the first one of its entity

pub alike_names : (x y : Token) → are_alike (link_of x y) ≡ true → (is_name x ≡ true) × (is_name y ≡ true)
alike_names x y h =
    let p = and_parts (is_name x && is_name y) (bytes_eq x.text y.text) h in
    and_parts (is_name x) (is_name y) p.0

alike_self : (t : Token) → is_name t ≡ true → are_alike (link_of t t) ≡ true
alike_self t name = and_from (is_name t && is_name t) (bytes_eq t.text t.text) (and_from (is_name t) (is_name t) name name) (bytes_eq-same t.text)

-- what is not alike itself is no name
pub known_unlike : (x first : Token) (table : Table) (own : Bool) → MatchBool own (first ≡ x) (IsKnown first table) → are_alike (link_of x first) ≡ false → IsKnown first table
known_unlike x first table true same unlike = λ name.
    let P : Token → Type 0 = λ v. are_alike (link_of v first) ≡ false in
    absurd (false≢true (sym (subst P (sym same) unlike) ∙ alike_self first name))
known_unlike x first table false h unlike = h

pub own_same : (x first : Token) (table : Table) (own : Bool) → own ≡ true → MatchBool own (first ≡ x) (IsKnown first table) → first ≡ x
own_same x first table true e h = h
own_same x first table false e h = absurd (false≢true e)

met_known : (x first : Token) (table : Table) (own : Bool) → own ≡ false → MatchBool own (first ≡ x) (IsKnown first table) → IsKnown first table
met_known x first table true e h = absurd (false≢true (sym e))
met_known x first table false e h = h

pub met_whole : (x first : Token) (table : Table) (own : Bool) → own ≡ false → MatchBool own (first ≡ x) (IsKnown first table) → are_alike (link_of x first) ≡ true → AreWhole table first.origins
met_whole x first table own e h alike = met_known x first table own e h (alike_names x first alike).1

pub met_after : (x first : Token) (old new : Table) (own : Bool) → own ≡ false → MatchBool own (first ≡ x) (IsKnown first old) → JoinsPair x first old new → IsKnown first new
met_after x first old new own e h joins = known_kept first old new joins.tokens (met_known x first old own e h)

-- ---- all first ones

pub all_kept : (firsts : List (Option ℕ)) (toks : List Token) (old new : Table) → added_tokens new ≡ added_tokens old → AreKnown firsts toks old → AreKnown firsts toks new
all_kept firsts toks old new same h = λ e j t is at. known_kept t old new same (h e j t is at)

pub known_more : (entity first : ℕ) (firsts next : List (Option ℕ)) (toks : List Token) (y : Token) (table : Table) → entity < length firsts → next ≡ set firsts entity (Some first)
    → slice_get toks first ≡ Some y → IsKnown y table → AreKnown firsts toks table → AreKnown next toks table
known_more entity first firsts next toks y table within noted stands known h = λ e j t is at.
    elim (cases_eq e entity) [
      | inl same ↦
          let told : get_or next e None ≡ Some first = ap (λ v. get_or next v None) same ∙ ap (λ v. get_or v entity None) noted ∙ get_or-set_same firsts entity (Some first) None within in
          let place : first ≡ j = same_Some first j (sym told ∙ is) in
          let token : y ≡ t = same_Some y t (sym stands ∙ ap (slice_get toks) place ∙ at) in
          let P : Token → Type 0 = λ v. IsKnown v table in
          subst P token known
      | inr ne ↦
          let told : get_or next e None ≡ get_or firsts e None = ap (λ v. get_or v e None) noted ∙ get_or-set_other firsts entity e (Some first) None ne in
          h e j t (sym told ∙ is) at
    ]

met_before : (k entity first : ℕ) (o : Option ℕ) (firsts : List (Option ℕ)) (toks : List Token) (y : Token) (table : Table) → get_or firsts entity None ≡ o → first ≡ unwrap_or o k → (first ≡ k → ⊥)
    → slice_get toks first ≡ Some y → AreKnown firsts toks table → IsKnown y table
met_before k entity first None firsts toks y table e is ne stands h = absurd (ne is)
met_before k entity first (Some j) firsts toks y table e is ne stands h =
    let P : ℕ → Type 0 = λ v. slice_get toks v ≡ Some y in
    h entity j y e (subst P is stands)

-- the first one is the token itself, or was met before
pub met : (k entity first : ℕ) (firsts : List (Option ℕ)) (toks : List Token) (x y : Token) (table : Table) (own : Bool) → first ≡ unwrap_or (get_or firsts entity None) k
    → slice_get toks k ≡ Some x → slice_get toks first ≡ Some y → AreKnown firsts toks table → MatchBool own (first ≡ k) (first ≡ k → ⊥) → MatchBool own (y ≡ x) (IsKnown y table)
met k entity first firsts toks x y table true is here stands h same = same_Some y x (sym stands ∙ ap (slice_get toks) same ∙ here)
met k entity first firsts toks x y table false is here stands h ne = met_before k entity first (get_or firsts entity None) firsts toks y table refl is ne stands h
