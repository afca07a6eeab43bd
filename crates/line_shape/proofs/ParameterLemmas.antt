-- Parameter lists: what the walk finds is what the definition says.
use Rattle.std.proofs.Common.{◌≡◌, ℕ, ◌+◌, Bool, true, false, not, ◌&&◌, List, [], ◌∷◌, ◌++◌, drop, Option, Some, None, length, get_or, ◌<◌, ◌≤◌, refl, ap, sym, ◌∙◌, inl, inr, arith, lit<}
use Rattle.std.specs.Prelude.{if◌then◌else◌}
use Rattle.std.specs.List.{list_any}
use Rattle.std.specs.Str.{bytes_eq}
use Rattle.std.proofs.lemmas.Bool.{cases_Bool}
use Rattle.std.proofs.lemmas.List.{append-nil, append_assoc, drop-drop}
use Rattle.std.proofs.Math.Bool.{or-true}
use Rattle.cs_base.specs.Token.{Token}
use Rattle.cs_base.specs.declared.causes.Cause.{Cause}
use Rattle.cs_base.specs.declared.causes.Cause.TheVariants.{BadParameters}
use Rattle.line_shape.specs.Signs.{is_name, is_open, is_close, is_comma, is_ellipsis}
use Rattle.line_shape.specs.MacroLine.{spellings, is_function_like, macro_of, before_close, behind_close, is_parameter, is_identifier_list, is_parameter_list, params_in, are_distinct, function_macro, has_named_rest, has_plain_rest}
use Rattle.line_shape.specs.Walk.{is_new_parameter, ended, ended_named, parameters_from, parameters_of, body_cause, definition_cause, function_cause}
use Rattle.line_shape.proofs.NameLemmas.{are_distinct-twice, are_distinct-new}
use Rattle.line_shape.proofs.SignLemmas.{close-no_name, comma-no_name, ellipsis-no_name, close-no_ellipsis, ellipsis-no_close, comma-no_close, comma-no_ellipsis, other-no_parameter, parameter-is_name}

-- what stands against a macro whose parameters are these names and those of a list
abbrev named_cause : List (List ℕ) → List Token → Option (List Token) → Option Cause
named_cause names list None = Some BadParameters
named_cause names list (Some body) =
    if is_identifier_list list && are_distinct (names ++ spellings (params_in list)) then
    body_cause true (names ++ spellings (params_in list)) (has_plain_rest list) body else Some BadParameters

-- a list that is none
unlisted : (names : List (List ℕ)) (list : List Token) (behind : Option (List Token)) → is_identifier_list list ≡ false
    → named_cause names list behind ≡ Some BadParameters
unlisted names list None h = refl
unlisted names list (Some body) h = rw h refl

-- a list with a name twice
repeated : (names : List (List ℕ)) (list : List Token) (behind : Option (List Token))
    → are_distinct (names ++ spellings (params_in list)) ≡ false → named_cause names list behind ≡ Some BadParameters
repeated names list None h = refl
repeated names list (Some body) h = rw h (elim (cases_Bool (is_identifier_list list)) [ inl is ↦ rw is refl | inr other ↦ rw other refl ])

-- a list that is one, without a name twice
listed : (names : List (List ℕ)) (list body : List Token) (all : List (List ℕ)) → is_identifier_list list ≡ true
    → names ++ spellings (params_in list) ≡ all → are_distinct all ≡ true
    → named_cause names list (Some body) ≡ body_cause true all (has_plain_rest list) body
listed names list body all list_is all_is distinct = rw (all_is, list_is, distinct) refl

-- the token behind two more
drop-two : (whole : List Token) (at : ℕ) (t s : Token) (toks : List Token) → drop at whole ≡ t ∷ s ∷ toks → drop (at + 2) whole ≡ toks
drop-two whole at t s toks h = sym (drop-drop 2 at whole) ∙ ap (λ (xs : List Token). drop 2 xs) h

drop-three : (whole : List Token) (at : ℕ) (t s u : Token) (toks : List Token) → drop at whole ≡ t ∷ s ∷ u ∷ toks → drop (at + 3) whole ≡ toks
drop-three whole at t s u toks h = sym (drop-drop 3 at whole) ∙ ap (λ (xs : List Token). drop 3 xs) h

-- two tokens that a list begins with
pub two_first : (xs : List Token) (t s : Token) → 2 ≤ length xs → t ≡ get_or xs 0 t → s ≡ get_or xs 1 s → xs ≡ t ∷ s ∷ drop 2 xs
two_first [] t s two first second = absurd (omega arith)
two_first (x ∷ []) t s two first second = absurd (omega arith)
two_first (x ∷ y ∷ xs) t s two first second = cc

-- ---- the steps of the walk

pub from-ellipsis : (names : List (List ℕ)) (at : ℕ) (xs : List Token) (t s : Token) (toks : List Token) → xs ≡ t ∷ s ∷ toks
    → is_ellipsis t ≡ true → parameters_from names at xs ≡ ended names true false (at + 2) (is_close s)
unfolding parameters_from
from-ellipsis names at xs t s toks two ellipsis = rw (two, ellipsis) refl

pub from-refused : (names : List (List ℕ)) (at : ℕ) (xs : List Token) (t s : Token) (toks : List Token) → xs ≡ t ∷ s ∷ toks
    → is_ellipsis t ≡ false → is_new_parameter names t ≡ false → parameters_from names at xs ≡ None
unfolding parameters_from
from-refused names at xs t s toks two ellipsis refused = rw (two, ellipsis, refused) refl

pub from-last : (names : List (List ℕ)) (at : ℕ) (xs : List Token) (t s : Token) (toks : List Token) → xs ≡ t ∷ s ∷ toks
    → is_ellipsis t ≡ false → is_new_parameter names t ≡ true → is_comma s ≡ false → is_ellipsis s ≡ false
    → parameters_from names at xs ≡ ended (names ++ t.text ∷ []) false false (at + 2) (is_close s)
unfolding parameters_from
from-last names at xs t s toks two ellipsis new comma other = rw (two, ellipsis, new, comma, other) refl

pub from-named : (names : List (List ℕ)) (at : ℕ) (xs : List Token) (t s : Token) (toks : List Token) → xs ≡ t ∷ s ∷ toks
    → is_ellipsis t ≡ false → is_new_parameter names t ≡ true → is_comma s ≡ false → is_ellipsis s ≡ true
    → parameters_from names at xs ≡ ended_named (names ++ t.text ∷ []) (at + 3) toks
unfolding parameters_from
from-named names at xs t s toks two ellipsis new comma rest = rw (two, ellipsis, new, comma, rest) refl

pub from-more : (names : List (List ℕ)) (at : ℕ) (xs : List Token) (t s : Token) (toks : List Token) → xs ≡ t ∷ s ∷ toks
    → is_ellipsis t ≡ false → is_new_parameter names t ≡ true → is_comma s ≡ true
    → parameters_from names at xs ≡ parameters_from (names ++ t.text ∷ []) (at + 2) toks
unfolding parameters_from
from-more names at xs t s toks two ellipsis new comma = rw (two, ellipsis, new, comma, parameters_from) refl

pub from-short : (names : List (List ℕ)) (at : ℕ) (xs : List Token) → length xs < 2 → parameters_from names at xs ≡ None
unfolding parameters_from
from-short names at [] short = refl
from-short names at (t ∷ []) short = refl
from-short names at (t ∷ s ∷ toks) short = absurd (omega arith)

-- ---- what they find

module _ (whole : List Token) where
  -- what the walk finds after some names, with these tokens left
  abbrev Finds : List (List ℕ) → ℕ → List Token → Type 0
  Finds names at toks = function_cause whole (parameters_from names at toks) ≡ named_cause names (before_close toks) (behind_close toks)

  -- `...` before the end
  finds-ellipsis : (names : List (List ℕ)) (at : ℕ) (t s : Token) (toks : List Token) → are_distinct names ≡ true
      → drop at whole ≡ t ∷ s ∷ toks → is_close t ≡ false → is_ellipsis t ≡ true → Finds names at (t ∷ s ∷ toks)
  finds-ellipsis names at t s toks distinct place inner ellipsis =
      let no_name = ellipsis-no_name t ellipsis in
      let no_parameter = other-no_parameter t no_name in
      rw (from-ellipsis names at (t ∷ s ∷ toks) t s toks refl ellipsis, inner) (
      elim (cases_Bool (is_close s)) [
        | inl closed ↦
            let none : names ++ spellings (params_in (t ∷ [])) ≡ names = rw no_name (append-nil names) in
            let list_is : is_identifier_list (t ∷ []) ≡ true = rw ellipsis (or-true (is_parameter t)) in
            let variadic : has_plain_rest (t ∷ []) ≡ true = rw ellipsis refl in
            rw (closed, drop-two whole at t s toks place) (sym (listed names (t ∷ []) toks names list_is none distinct ∙ ap (λ (b : Bool). body_cause true names b toks) variadic))
        | inr other ↦
            let bad : is_identifier_list (t ∷ s ∷ before_close toks) ≡ false = rw no_parameter refl in
            rw other (sym (unlisted names (t ∷ s ∷ before_close toks) (behind_close toks) bad))
      ])

  -- what is no parameter
  finds-other : (names : List (List ℕ)) (at : ℕ) (t s : Token) (toks : List Token) → is_close t ≡ false → is_ellipsis t ≡ false
      → is_parameter t ≡ false → Finds names at (t ∷ s ∷ toks)
  finds-other names at t s toks inner ellipsis other =
      let refused : is_new_parameter names t ≡ false = rw other refl in
      rw (from-refused names at (t ∷ s ∷ toks) t s toks refl ellipsis refused, inner) (
      elim (cases_Bool (is_close s)) [
        | inl closed ↦
            let bad : is_identifier_list (t ∷ []) ≡ false = rw (other, ellipsis) refl in
            rw closed (sym (unlisted names (t ∷ []) (Some toks) bad))
        | inr more ↦
            let bad : is_identifier_list (t ∷ s ∷ before_close toks) ≡ false = rw other refl in
            rw more (sym (unlisted names (t ∷ s ∷ before_close toks) (behind_close toks) bad))
      ])

  -- a parameter that stands among the names
  finds-repeated : (names : List (List ℕ)) (at : ℕ) (t s : Token) (toks : List Token) → is_close t ≡ false → is_ellipsis t ≡ false
      → is_parameter t ≡ true → list_any (bytes_eq t.text) names ≡ true → Finds names at (t ∷ s ∷ toks)
  finds-repeated names at t s toks inner ellipsis parameter twice =
      let refused : is_new_parameter names t ≡ false = rw (parameter, twice) refl in
      let name = parameter-is_name t parameter in
      rw (from-refused names at (t ∷ s ∷ toks) t s toks refl ellipsis refused, inner) (
      elim (cases_Bool (is_close s)) [
        | inl closed ↦
            let bad : are_distinct (names ++ spellings (params_in (t ∷ []))) ≡ false = rw name (are_distinct-twice names t.text [] twice) in
            rw closed (sym (repeated names (t ∷ []) (Some toks) bad))
        | inr more ↦
            let list = t ∷ s ∷ before_close toks in
            let bad : are_distinct (names ++ spellings (params_in list)) ≡ false =
            rw name (are_distinct-twice names t.text (spellings (params_in (s ∷ before_close toks))) twice) in
            rw more (sym (repeated names list (behind_close toks) bad))
      ])

  -- a new parameter with `...` behind it
  finds-named : (names : List (List ℕ)) (at : ℕ) (t s : Token) (toks : List Token) → are_distinct names ≡ true
      → drop at whole ≡ t ∷ s ∷ toks → is_close t ≡ false → is_ellipsis t ≡ false
      → is_parameter t ≡ true → list_any (bytes_eq t.text) names ≡ false → is_comma s ≡ false → is_ellipsis s ≡ true → Finds names at (t ∷ s ∷ toks)
  finds-named names at t s toks distinct place inner ellipsis parameter once comma rest =
      let new : is_new_parameter names t ≡ true = rw (parameter, once) refl in
      let open_ = ellipsis-no_close s rest in
      rw (from-named names at (t ∷ s ∷ toks) t s toks refl ellipsis new comma rest, inner, open_) (by toks place)
    where
      by : (ts : List Token) → drop at whole ≡ t ∷ s ∷ ts
          → function_cause whole (ended_named (names ++ t.text ∷ []) (at + 3) ts) ≡ named_cause names (t ∷ s ∷ before_close ts) (behind_close ts)
      by [] here = refl
      by (u ∷ ts) here = elim (cases_Bool (is_close u)) [
        | inl closed ↦
            let name = parameter-is_name t parameter in
            let no_name = ellipsis-no_name s rest in
            let all : names ++ spellings (params_in (t ∷ s ∷ [])) ≡ names ++ t.text ∷ [] = rw (name, no_name) refl in
            let list_is : is_identifier_list (t ∷ s ∷ []) ≡ true = rw (parameter, comma, rest) refl in
            let variadic : has_plain_rest (t ∷ s ∷ []) ≡ false = rw (ellipsis, rest, name) refl in
            let behind : drop (at + 3) whole ≡ ts = drop-three whole at t s u ts here in
            rw (closed, behind) (
            sym (listed names (t ∷ s ∷ []) ts (names ++ t.text ∷ []) list_is all (are_distinct-new names t.text distinct once)
            ∙ ap (λ (b : Bool). body_cause true (names ++ t.text ∷ []) b ts) variadic))
        | inr more ↦
            let bad : is_identifier_list (t ∷ s ∷ u ∷ before_close ts) ≡ false = rw (parameter, comma, rest) refl in
            rw more (sym (unlisted names (t ∷ s ∷ u ∷ before_close ts) (behind_close ts) bad))
      ]

  -- a new parameter before what is no comma
  finds-last : (names : List (List ℕ)) (at : ℕ) (t s : Token) (toks : List Token) → are_distinct names ≡ true
      → drop at whole ≡ t ∷ s ∷ toks → is_close t ≡ false → is_ellipsis t ≡ false
      → is_parameter t ≡ true → list_any (bytes_eq t.text) names ≡ false → is_comma s ≡ false → is_ellipsis s ≡ false → Finds names at (t ∷ s ∷ toks)
  finds-last names at t s toks distinct place inner ellipsis parameter once comma plain =
      let new : is_new_parameter names t ≡ true = rw (parameter, once) refl in
      let name = parameter-is_name t parameter in
      rw (from-last names at (t ∷ s ∷ toks) t s toks refl ellipsis new comma plain, inner) (
      elim (cases_Bool (is_close s)) [
        | inl closed ↦
            let all : names ++ spellings (params_in (t ∷ [])) ≡ names ++ t.text ∷ [] = rw name refl in
            let list_is : is_identifier_list (t ∷ []) ≡ true = rw parameter refl in
            let variadic : has_plain_rest (t ∷ []) ≡ false = rw ellipsis refl in
            rw (closed, drop-two whole at t s toks place) (
            sym (listed names (t ∷ []) toks (names ++ t.text ∷ []) list_is all (are_distinct-new names t.text distinct once)
            ∙ ap (λ (b : Bool). body_cause true (names ++ t.text ∷ []) b toks) variadic))
        | inr more ↦
            let bad : is_identifier_list (t ∷ s ∷ before_close toks) ≡ false = rw (parameter, comma, plain) refl in
            rw more (sym (unlisted names (t ∷ s ∷ before_close toks) (behind_close toks) bad))
      ])

  -- `...` behind a comma is one more
  named_rest-more : (t s : Token) (list : List Token) → is_name s ≡ false → is_ellipsis s ≡ false → has_named_rest (t ∷ s ∷ list) ≡ has_named_rest list
  named_rest-more t s [] no_name plain = rw plain refl
  named_rest-more t s (u ∷ list) no_name plain = rw no_name refl

  plain_rest-more : (t s : Token) (list : List Token) → is_name s ≡ false → is_ellipsis t ≡ false → is_ellipsis s ≡ false → has_plain_rest (t ∷ s ∷ list) ≡ has_plain_rest list
  plain_rest-more t s list no_name ellipsis plain =
      ap (λ (b : Bool). list_any is_ellipsis (t ∷ s ∷ list) && not b) (named_rest-more t s list no_name plain) ∙ rw (ellipsis, plain) refl

  -- a parameter and a comma before a list
  named_cause-more : (names : List (List ℕ)) (t s : Token) (list : List Token) (behind : Option (List Token))
      → is_ellipsis t ≡ false → is_parameter t ≡ true → is_comma s ≡ true
      → named_cause names (t ∷ s ∷ list) behind ≡ named_cause (names ++ t.text ∷ []) list behind
  named_cause-more names t s list None ellipsis parameter comma = refl
  named_cause-more names t s list (Some body) ellipsis parameter comma =
      let name = parameter-is_name t parameter in
      let no_name = comma-no_name s comma in
      let no_ellipsis = comma-no_ellipsis s comma in
      let all : names ++ spellings (params_in (t ∷ s ∷ list)) ≡ (names ++ t.text ∷ []) ++ spellings (params_in list) =
      rw (name, no_name) (sym (append_assoc names (t.text ∷ []) (spellings (params_in list)))) in
      rw (all, parameter, comma, plain_rest-more t s list no_name ellipsis no_ellipsis) refl

  -- a new parameter before a comma
  finds-more : (names : List (List ℕ)) (at : ℕ) (t s : Token) (toks : List Token) → is_close t ≡ false → is_ellipsis t ≡ false
      → is_parameter t ≡ true → list_any (bytes_eq t.text) names ≡ false → is_comma s ≡ true
      → Finds (names ++ t.text ∷ []) (at + 2) toks → Finds names at (t ∷ s ∷ toks)
  finds-more names at t s toks inner ellipsis parameter once comma rest =
      let new : is_new_parameter names t ≡ true = rw (parameter, once) refl in
      let go_on = comma-no_close s comma in
      rw (from-more names at (t ∷ s ∷ toks) t s toks refl ellipsis new comma, inner, go_on) (
      rest ∙ sym (named_cause-more names t s (before_close toks) (behind_close toks) ellipsis parameter comma))

  finds : (names : List (List ℕ)) (at : ℕ) (toks : List Token) → are_distinct names ≡ true → drop at whole ≡ toks → Finds names at toks
  finds names at [] distinct place = rw (from-short names at [] (lit< tt)) refl
  finds names at (t ∷ []) distinct place =
      rw (from-short names at (t ∷ []) (lit< tt)) (
      elim (cases_Bool (is_close t)) [
        | inl closed ↦ rw closed refl
        | inr inner ↦ rw inner refl
      ])
  finds names at (t ∷ s ∷ toks) distinct place =
      elim (cases_Bool (is_close t)) [
        | inl closed ↦
            let other = other-no_parameter t (close-no_name t closed) in
            let refused : is_new_parameter names t ≡ false = rw other refl in
            rw (from-refused names at (t ∷ s ∷ toks) t s toks refl (close-no_ellipsis t closed) refused, closed) refl
        | inr inner ↦ elim (cases_Bool (is_ellipsis t)) [
          | inl ellipsis ↦ finds-ellipsis names at t s toks distinct place inner ellipsis
          | inr no_ellipsis ↦ elim (cases_Bool (is_parameter t)) [
            | inr other ↦ finds-other names at t s toks inner no_ellipsis other
            | inl parameter ↦ elim (cases_Bool (list_any (bytes_eq t.text) names)) [
              | inl twice ↦ finds-repeated names at t s toks inner no_ellipsis parameter twice
              | inr once ↦ elim (cases_Bool (is_comma s)) [
                | inr last ↦ elim (cases_Bool (is_ellipsis s)) [
                  | inl rest ↦ finds-named names at t s toks distinct place inner no_ellipsis parameter once last rest
                  | inr plain ↦ finds-last names at t s toks distinct place inner no_ellipsis parameter once last plain
                ]
                | inl comma ↦
                    finds-more names at t s toks inner no_ellipsis parameter once comma
                    (finds (names ++ t.text ∷ []) (at + 2) toks (are_distinct-new names t.text distinct once) (drop-two whole at t s toks place))
              ]
            ]
          ]
        ]
      ]

-- a list that is not empty
named_cause-first : (t : Token) (list : List Token) (behind : Option (List Token))
    → named_cause [] (t ∷ list) behind ≡ definition_cause (function_macro (t ∷ list) behind)
named_cause-first t list None = refl
named_cause-first t list (Some body) =
    elim (cases_Bool (is_parameter_list (t ∷ list))) [ inl good ↦ rw good refl | inr bad ↦ rw bad refl ]

-- what stands against a function-like macro
pub function_cause-is : (toks : List Token)
    → function_cause toks (parameters_of toks) ≡ definition_cause (function_macro (before_close toks) (behind_close toks))
unfolding parameters_of
function_cause-is [] = refl
function_cause-is (t ∷ toks) =
    elim (cases_Bool (is_close t)) [
      | inl closed ↦ rw closed refl
      | inr inner ↦
          let found = finds (t ∷ toks) [] 0 (t ∷ toks) refl refl in
          let list : before_close (t ∷ toks) ≡ t ∷ before_close toks = rw inner refl in
          rw inner (rw inner at found ∙ named_cause-first t (before_close toks) (behind_close toks))
    ]

-- ---- macro definitions

first_is : (toks : List Token) (t : Token) → 0 < length toks → t ≡ get_or toks 0 t → toks ≡ t ∷ drop 1 toks
first_is [] t some first = absurd (omega arith)
first_is (x ∷ toks) t some first = cc

macro_of-function : (toks : List Token) → is_function_like toks ≡ true
    → macro_of toks ≡ function_macro (before_close (drop 1 toks)) (behind_close (drop 1 toks))
unfolding macro_of
macro_of-function toks h = rw h refl

pub definition_cause-function : (toks : List Token) (t : Token) → 0 < length toks → t ≡ get_or toks 0 t → is_open t ≡ true → t.gap ≡ false
    → definition_cause (macro_of toks) ≡ function_cause (drop 1 toks) (parameters_of (drop 1 toks))
definition_cause-function toks t some first opens gap =
    let begins : is_function_like toks ≡ true = rw (first_is toks t some first, opens, gap) refl in
    ap definition_cause (macro_of-function toks begins) ∙ sym (function_cause-is (drop 1 toks))
