-- The parts of a macro's definition: what is kept of its parameters and of its replacement list.
use Rattle.std.proofs.Common.{◌≡◌, ℕ, zero, suc, ◌&&◌, Bool, true, false, List, [], ◌∷◌, ◌++◌, map, drop, Option, Some, None, refl, ap, sym, subst, ◌∙◌, inl, inr}
use Rattle.std.specs.List.{flat_map, position, position_or_len}
use Rattle.std.specs.Str.{bytes_eq}
use Rattle.std.proofs.lemmas.Bool.{cases_Bool}
use Rattle.std.proofs.lemmas.Bool.Decides.{same_from_decides}
use Rattle.std.proofs.lemmas.List.{map-append, length-map}
use Rattle.std.proofs.lemmas.Option.{none-some, same_Some}
use Rattle.std.proofs.lemmas.Slice.Eq.{bytes_eq-Decides}
use Rattle.cs_base.specs.Token.{Token}
use Rattle.line_shape.specs.Signs.{is_name, is_identifier, is_va_args, is_close}
use Rattle.line_shape.specs.MacroLine.{MacroParts, macro, is_function_like, before_close, behind_close, is_parameter_list, has_named_rest, has_plain_rest, params_in, function_macro, macro_of}
use Rattle.line_shape.proofs.SignLemmas.{cond-parts}
use Rattle.macro_body.specs.declared.definitions.Definition.{Definition}
use Rattle.macro_body.specs.Macro.{rest_name, named_or_rest, parameter_at}
use Rattle.macro_expand.specs.Renaming.{Renaming, spelled, renamed, renamed_macro, KeepsBody}
use Rattle.unit_steps.specs.Names.{spelled_in, linked_with, parameter_named, definition_links}
use Rattle.unit_steps.specs.Notes.{Note}
use Rattle.edited_unit_laws.specs.Lines.{Each, KeepsToken, NamesAsBefore, KeepsParameters}
use Rattle.edited_unit_laws.specs.Keeping.{Change, Fits}
use Rattle.edited_unit_laws.specs.Renamed.{renamed_happening}
use Rattle.edited_unit_laws.proofs.FollowLemmas.{each-more}
use Rattle.edited_unit_laws.proofs.NameLemmas.{linked-renamed, spelled_in-renamed}

-- ---- parts of lists

pub each-drop : {X : Type 0} (P : X → Type 0) (n : ℕ) (xs : List X) → Each P xs → Each P (drop n xs)
each-drop P zero [] h = tt
each-drop P zero (x ∷ xs) h = h
each-drop P (suc n) [] h = tt
each-drop P (suc n) (x ∷ xs) h = each-drop P n xs h.1

behind-each : (P : Token → Type 0) (ts body : List Token) → Each P ts → behind_close ts ≡ Some body → Each P body
behind-each P [] body h e = absurd (none-some body e)
behind-each P (t ∷ ts) body h e = elim (cases_Bool (is_close t)) [
  | inl close ↦ subst (λ (l : List Token). Each P l) (same_Some ts body (rw close at e)) h.1
  | inr other ↦ behind-each P ts body h.1 (rw other at e)
]

-- what is true of each of one list and each of another
swapped : {X : Type 0} (R : X → X → Type 0) (ps ts : List X) → Each (λ p. Each (λ t. R p t) ts) ps → Each (λ t. Each (λ p. R p t) ps) ts
swapped R ps [] h = tt
swapped R ps (t ∷ ts) h = (
  each-more (λ p. Each (λ u. R p u) (t ∷ ts)) (λ p. R p t) ps (λ p k. k.0) h,
  swapped R ps ts (each-more (λ p. Each (λ u. R p u) (t ∷ ts)) (λ p. Each (λ u. R p u) ts) ps (λ p k. k.1) h),
)

-- ---- the parts of a definition

-- What is kept of them: each token of the replacement list fits, and names those parameters that it named.
pub record PartsGo (c : Change) (params ts : List Token) : Type 0 where
  pub body : Each (Fits c) ts
  pub uses : Each (λ t. Each (λ p. NamesAsBefore c.renaming p t) params) ts

function-goes : (c : Change) (list : List Token) (o : Option (List Token)) (m : MacroParts) → ((body : List Token) → o ≡ Some body → PartsGo c (params_in list) body)
    → function_macro list o ≡ Some m → PartsGo c m.params m.body
function-goes c list None m h e = absurd (none-some m e)
function-goes c list (Some body) m h e =
    subst (λ (x : MacroParts). PartsGo c x.params x.body) (cond-parts (is_parameter_list list) (macro true (params_in list) (has_plain_rest list) (has_named_rest list) body) m e) (h body refl)

pub macro-goes : (c : Change) (ts : List Token) (m : MacroParts) → Each (Fits c) ts → KeepsParameters c.renaming ts → macro_of ts ≡ Some m → PartsGo c m.params m.body
unfolding macro_of
macro-goes c ts m h same e = elim (cases_Bool (is_function_like ts)) [
  | inl function ↦
      let asked : Each (λ p. Each (λ t. NamesAsBefore c.renaming p t) ts) (params_in (before_close (drop 1 ts))) = rw function at same in
      function-goes c (before_close (drop 1 ts)) (behind_close (drop 1 ts)) m
      (λ body is. record {
        body = behind-each (Fits c) (drop 1 ts) body (each-drop (Fits c) 1 ts h) is;
        uses = behind-each (λ t. Each (λ p. NamesAsBefore c.renaming p t) (params_in (before_close (drop 1 ts)))) (drop 1 ts) body
            (each-drop (λ t. Each (λ p. NamesAsBefore c.renaming p t) (params_in (before_close (drop 1 ts)))) 1 ts (swapped (NamesAsBefore c.renaming) (params_in (before_close (drop 1 ts))) ts asked)) is;
      })
      (rw function at e)
  | inr object ↦
      subst (λ (x : MacroParts). PartsGo c x.params x.body) (same_Some (macro false [] false false ts) m (rw object at e))
      (record { body = h; uses = no_params ts })
]
  where
    no_params : (us : List Token) → Each (λ t. Each (λ p. NamesAsBefore c.renaming p t) []) us
    no_params [] = tt
    no_params (u ∷ us) = (tt, no_params us)

-- ---- parameters

flipped : (a b x y : List ℕ) → bytes_eq a b ≡ bytes_eq x y → bytes_eq b a ≡ bytes_eq y x
flipped a b x y h = swap a b ∙ h ∙ swap y x
  where
    swap : (p q : List ℕ) → bytes_eq q p ≡ bytes_eq p q
    swap p q = same_from_decides {P = p ≡ q} (bytes_eq q p) (bytes_eq p q) ((λ e. sym ((bytes_eq-Decides q p).0 e)), (λ e. (bytes_eq-Decides q p).1 (sym e))) (bytes_eq-Decides p q)

place-same : (r : Renaming) (t : Token) (ps : List Token) → Each (λ p. bytes_eq (spelled r t) (spelled r p) ≡ bytes_eq t.text p.text) ps
    → position_or_len (λ (p : Token). bytes_eq p.text (spelled r t)) (map (renamed r) ps) ≡ position_or_len (λ (p : Token). bytes_eq p.text t.text) ps
place-same r t [] h = refl
place-same r t (p ∷ ps) h = rw (flipped (spelled r t) (spelled r p) t.text p.text h.0, place-same r t ps h.1) refl

position-same : (r : Renaming) (t : Token) (ps : List Token) → Each (λ p. bytes_eq (spelled r t) (spelled r p) ≡ bytes_eq t.text p.text) ps
    → position (λ (p : Token). bytes_eq p.text (spelled r t)) (map (renamed r) ps) ≡ position (λ (p : Token). bytes_eq p.text t.text) ps
position-same r t ps h = rw (place-same r t ps h, length-map ps (renamed r)) refl

-- the parameters of a name, seen from it
seen : (r : Renaming) (t : Token) (ps : List Token) → is_name t ≡ true → Each (λ p. NamesAsBefore r p t) ps → Each (λ p. bytes_eq (spelled r t) (spelled r p) ≡ bytes_eq t.text p.text) ps
seen r t ps named h = each-more (λ p. NamesAsBefore r p t) (λ p. bytes_eq (spelled r t) (spelled r p) ≡ bytes_eq t.text p.text) ps (λ p k. k named) h

rest-stays : (r : Renaming) (t : Token) → KeepsToken r t → is_name t ≡ true → bytes_eq (spelled r t) rest_name ≡ bytes_eq t.text rest_name
unfolding is_va_args
rest-stays r t h named = by (is_identifier t.kind) named h.rest
  where
    by : (n : Bool) → n ≡ true → (n && bytes_eq (spelled r t) rest_name) ≡ (n && bytes_eq t.text rest_name) → bytes_eq (spelled r t) rest_name ≡ bytes_eq t.text rest_name
    by true is e = e
    by false is e = absurd (cc)

rest-same : (r : Renaming) (m : Definition) (t : Token) (o : Option ℕ) → bytes_eq (spelled r t) rest_name ≡ bytes_eq t.text rest_name
    → named_or_rest (renamed_macro r m) (spelled r t) o ≡ named_or_rest m t.text o
rest-same r m t (Some i) e = refl
rest-same r m t None e = rw (e, length-map m.params (renamed r)) refl

pub parameter-same : (r : Renaming) (m : Definition) (t : Token) → KeepsToken r t → Each (λ p. NamesAsBefore r p t) m.params
    → parameter_at (renamed_macro r m) (renamed r t) ≡ parameter_at m t
parameter-same r m t h uses = elim (cases_Bool (is_name t)) [
  | inl named ↦
      let place = position-same r t m.params (seen r t m.params named uses) in
      let rest = rest-stays r t h named in
      rw named (ap (named_or_rest (renamed_macro r m) (spelled r t)) place ∙ rest-same r m t (position (λ (p : Token). bytes_eq p.text t.text) m.params) rest)
  | inr other ↦ rw other refl
]

body-kept : (c : Change) (m : Definition) (body : List Token) → Each (Fits c) body → Each (λ t. Each (λ p. NamesAsBefore c.renaming p t) m.params) body → KeepsBody c.occurring c.renaming m body
body-kept c m [] h uses = tt
body-kept c m (t ∷ ts) h uses = (h.0.0, parameter-same c.renaming m t h.0.1 uses.0, body-kept c m ts h.1 uses.1)

pub parts-keep : (c : Change) (m : Definition) → PartsGo c m.params m.body → KeepsBody c.occurring c.renaming m m.body
parts-keep c m h = body-kept c m m.body h.body h.uses

-- ---- the links of a definition

use-renamed : (r : Renaming) (params : List Token) (t : Token) → Each (λ p. NamesAsBefore r p t) params
    → linked_with (renamed r t) (parameter_named (map (renamed r) params) (renamed r t)) ≡ map (renamed_happening r) (linked_with t (parameter_named params t))
use-renamed r params t uses = elim (cases_Bool (is_name t)) [
  | inl named ↦ rw named (ap (linked_with (renamed r t)) (spelled_in-renamed r t params (seen r t params named uses)) ∙ linked-renamed r t (spelled_in params t.text))
  | inr other ↦ rw other refl
]

uses-renamed : (r : Renaming) (params body : List Token) → Each (λ t. Each (λ p. NamesAsBefore r p t) params) body
    → flat_map (λ t. linked_with t (parameter_named (map (renamed r) params) t)) (map (renamed r) body) ≡ map (renamed_happening r) (flat_map (λ t. linked_with t (parameter_named params t)) body)
uses-renamed r params [] uses = refl
uses-renamed r params (t ∷ ts) uses =
    ap (λ (l : List Note). l ++ flat_map (λ u. linked_with u (parameter_named (map (renamed r) params) u)) (map (renamed r) ts)) (use-renamed r params t uses.0)
    ∙ ap (λ (l : List Note). map (renamed_happening r) (linked_with t (parameter_named params t)) ++ l) (uses-renamed r params ts uses.1)
    ∙ sym (map-append (renamed_happening r) (linked_with t (parameter_named params t)) (flat_map (λ u. linked_with u (parameter_named params u)) ts))

pub links-renamed : (c : Change) (m : Definition) → PartsGo c m.params m.body → definition_links (renamed_macro c.renaming m) ≡ map (renamed_happening c.renaming) (definition_links m)
links-renamed c m h = uses-renamed c.renaming m.params m.body h.uses
