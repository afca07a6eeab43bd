-- The items of a kept file, each with its tokens.
use Rattle.std.proofs.Common.{◌≡◌, ℕ, zero, suc, ◌-◌, ◌<◌, ◌≤◌, ◌&&◌, Bool, true, false, List, [], ◌∷◌, length, take, drop, get_or, Option, Some, None, Result, Ok, Err, IsTrue, refl, sym, ◌∙◌, ap, subst, inl, inr, arith}
use Rattle.std.specs.Prelude.{All, IfSome, slice_get, slice_range}
use Rattle.std.specs.List.{list_all}
use Rattle.std.specs.Option.{option_map}
use Rattle.std.proofs.lemmas.Bool.{cases_Bool, and_parts}
use Rattle.std.proofs.lemmas.Option.{slice_get-map, slice_get_read, slice_get_past, same_Some}
use Rattle.std.proofs.lemmas.List.Elements.{All-same}
use Rattle.cs_base.specs.Token.{Token}
use Rattle.source_files.specs.Below.lexer.FileText.{TextValue, LexFault, file_text}
use Rattle.source_files.specs.Below.line_shape.declared.items.Item.{Item}
use Rattle.source_files.specs.Below.line_shape.declared.items.ItemKind.TheVariants.{Define}
use Rattle.source_files.specs.Below.line_shape.Signs.{is_close}
use Rattle.source_files.specs.Below.line_shape.MacroLine.{MacroParts, macro, is_function_like, is_parameter_list, function_macro, has_named_rest, has_plain_rest, params_in, before_close, behind_close, macro_of}
use Rattle.source_files.specs.Below.line_shape.Directives.{is_run}
use Rattle.source_files.specs.Below.line_shape.Items.{line_kind, items_of}
use Rattle.source_files.proofs.Below.line_shape.CoverLemmas.{Follow-items_of, Follow-within}
use Rattle.unit_steps.specs.Below.macro_body.declared.definitions.Definition.{Definition}
use Rattle.unit_steps.specs.Below.macro_body.Defining.{defined_by, definition_of}
use Rattle.unit_steps.specs.Below.macro_body.Sound.{is_traced, is_low}
use Rattle.unit_steps.proofs.Below.macro_expand.TracedLemmas.{list_all-left, IsLine, lines-items_of}
use Rattle.source_files.specs.KeptFiles.{KeptValue}
use Rattle.source_files.specs.Files.{source_file}
use Rattle.source_files.specs.Sources.{read_as, source_kept}
use Rattle.unit_steps.proofs.FileToksLemmas.{text-sound}
use Rattle.include_tree.specs.Walk.{ItemText, item_text, item_texts, items_in}

-- ---- parts of lists

pub list_all-take : (p : Token → Bool) (n : ℕ) (ts : List Token) → list_all p ts ≡ true → list_all p (take n ts) ≡ true
list_all-take p zero [] h = refl
list_all-take p zero (t ∷ ts) h = refl
list_all-take p (suc n) [] h = refl
list_all-take p (suc n) (t ∷ ts) h =
    let both = and_parts (p t) (list_all p ts) h in
    let rest = list_all-take p n ts both.1 in
    rw (both.0, rest) refl

pub list_all-drop : (p : Token → Bool) (n : ℕ) (ts : List Token) → list_all p ts ≡ true → list_all p (drop n ts) ≡ true
list_all-drop p zero [] h = refl
list_all-drop p zero (t ∷ ts) h = h
list_all-drop p (suc n) [] h = refl
list_all-drop p (suc n) (t ∷ ts) h = list_all-drop p n ts (and_parts (p t) (list_all p ts) h).1

pub list_all-range : (p : Token → Bool) (ts : List Token) (from to : ℕ) → list_all p ts ≡ true → list_all p (slice_range ts from to) ≡ true
list_all-range p ts from to h = list_all-take p (to - from) (drop from ts) (list_all-drop p from ts h)

-- ---- replacement lists (6.10.3)

behind_close-all : (p : Token → Bool) (ts body : List Token) → behind_close ts ≡ Some body → list_all p ts ≡ true → list_all p body ≡ true
behind_close-all p [] body e h = absurd (cc)
behind_close-all p (t ∷ ts) body e h =
    let both = and_parts (p t) (list_all p ts) h in
    elim (cases_Bool (is_close t)) [
      | inl close ↦ subst (λ (b : List Token). list_all p b ≡ true) (same_Some ts body (rw close at e)) both.1
      | inr other ↦ behind_close-all p ts body (rw other at e) both.1
    ]

function_macro-body : (p : Token → Bool) (list : List Token) (o : Option (List Token)) (parts : MacroParts) → function_macro list o ≡ Some parts
    → ((body : List Token) → o ≡ Some body → list_all p body ≡ true) → list_all p parts.body ≡ true
function_macro-body p list None parts e h = absurd (cc)
function_macro-body p list (Some body) parts e h = elim (cases_Bool (is_parameter_list list)) [
  | inl fit ↦
      subst (λ (m : MacroParts). list_all p m.body ≡ true) (same_Some (macro true (params_in list) (has_plain_rest list) (has_named_rest list) body) parts (rw fit at e)) (h body refl)
  | inr bad ↦ absurd (let none : ◌≡◌ {A = Option MacroParts} None (Some parts) = rw bad at e in cc)
]

macro_of-body : (p : Token → Bool) (ts : List Token) (parts : MacroParts) → macro_of ts ≡ Some parts → list_all p ts ≡ true → list_all p parts.body ≡ true
unfolding macro_of
macro_of-body p ts parts e h = elim (cases_Bool (is_function_like ts)) [
  | inl function ↦
      function_macro-body p (before_close (drop 1 ts)) (behind_close (drop 1 ts)) parts (rw function at e)
      (λ body is. behind_close-all p (drop 1 ts) body is (list_all-drop p 1 ts h))
  | inr object ↦ subst (λ (m : MacroParts). list_all p m.body ≡ true) (same_Some (macro false [] false false ts) parts (rw object at e)) h
]

-- the parts of a definition
parts-behind : (name : Token) (o : Option MacroParts) (m : Definition) → option_map (definition_of name) o ≡ Some m
    → (parts : MacroParts) × (o ≡ Some parts) × (parts.body ≡ m.body)
parts-behind name None m e = absurd (cc)
parts-behind name (Some parts) m e =
    (parts, refl, ap (λ (d : Definition). d.body) (same_Some (definition_of name parts) m e))

-- what holds of the tokens of a line holds of those of the replacement list
pub defined_by-body : (p : Token → Bool) (ts : List Token) (m : Definition) → defined_by ts ≡ Some m → list_all p ts ≡ true → list_all p m.body ≡ true
defined_by-body p [] m e h = absurd (cc)
defined_by-body p (a ∷ []) m e h = absurd (cc)
defined_by-body p (a ∷ b ∷ []) m e h = absurd (cc)
defined_by-body p (a ∷ b ∷ name ∷ ts) m e h =
    let are = parts-behind name (macro_of ts) m e in
    rw (← are.2) (macro_of-body p ts are.0 are.1 (list_all-drop p 3 (a ∷ b ∷ name ∷ ts) h))

pub body-traced : (ts : List Token) (m : Definition) → list_all (λ t. is_traced t && is_low t) ts ≡ true → defined_by ts ≡ Some m → IsTrue (list_all is_traced m.body)
body-traced ts m h e = defined_by-body is_traced ts m e (list_all-left is_traced is_low ts h)

-- ---- items

-- the source file of a kept file with this text
pub source_kept-text : (k : KeptValue) (text : TextValue) → file_text k.number k.bytes ≡ Ok text → source_kept k ≡ Some (source_file k.number k.path text)
source_kept-text k text h = ap (read_as k.number k.path) h

items_in-at : (toks : List Token) (firsts : List Bool) (items : List Item) (k : ℕ) (o : Option Item) → items ≡ items_of toks firsts → slice_get items k ≡ o
    → slice_get (item_texts toks firsts) k ≡ option_map (item_text toks) o
items_in-at toks firsts items k o is at =
    slice_get-map (item_text toks) (items_of toks firsts) k ∙ ap (λ (l : List Item). option_map (item_text toks) (slice_get l k)) (sym is) ∙ ap (option_map (item_text toks)) at

-- item number k of a kept file, or that there is none
item-is : (f : KeptValue) (text : TextValue) (items : List Item) (k : ℕ) (o : Option Item) → file_text f.number f.bytes ≡ Ok text
    → ((t : TextValue) → file_text f.number f.bytes ≡ Ok t → items ≡ items_of t.toks t.firsts) → o ≡ slice_get items k
    → IfSome (source_kept f) (λ source. option_map (item_text text.toks) o ≡ slice_get (items_in source) k)
item-is f text items k o has are at =
    rw (source_kept-text f text has) (sym (items_in-at text.toks text.firsts items k o (are text has) (sym at)))

none-by : (f : KeptValue) (items : List Item) (k : ℕ) (r : Result TextValue LexFault) → file_text f.number f.bytes ≡ r
    → ((t : TextValue) → file_text f.number f.bytes ≡ Ok t → items ≡ items_of t.toks t.firsts) → ◌≡◌ {A = Option Item} None (slice_get items k)
    → IfSome (source_kept f) (λ source. ◌≡◌ {A = Option ItemText} None (slice_get (items_in source) k))
none-by f items k (Ok text) has are at = item-is f text items k None has are at
none-by f items k (Err fault) has are at = rw has tt

pub item-none : (f : KeptValue) (items : List Item) (k : ℕ) → ((t : TextValue) → file_text f.number f.bytes ≡ Ok t → items ≡ items_of t.toks t.firsts)
    → length items ≤ k → IfSome (source_kept f) (λ source. ◌≡◌ {A = Option ItemText} None (slice_get (items_in source) k))
item-none f items k are past = none-by f items k (file_text f.number f.bytes) refl are (sym (slice_get_past items k past))

-- where this item stands
module _ (f : KeptValue) (text : TextValue) (items : List Item) (k : ℕ) (item : Item) (toks : List Token) (has : file_text f.number f.bytes ≡ Ok text)
    (are : (t : TextValue) → file_text f.number f.bytes ≡ Ok t → items ≡ items_of t.toks t.firsts) (below : k < length items) (read : item ≡ get_or items k item)
    (toks_are : toks ≡ text.toks) where
  is_there : ◌≡◌ {A = Option Item} (Some item) (slice_get items k)
  is_there = sym (slice_get_read items (length items) k item refl below read)

  here : (P : Item → Type 0) → All P (items_of text.toks text.firsts) → P item
  here P all =
      let each : P (get_or items k item) = All-same P items (items_of text.toks text.firsts) (are text has) all k item below in
      subst P (sym read) each

  fits : (item.from < item.to) × (item.to ≤ length text.toks)
  fits = here (λ (i : Item). (i.from < i.to) × (i.to ≤ length text.toks)) (Follow-within 0 (length text.toks) (items_of text.toks text.firsts) (Follow-items_of text.toks text.firsts))

  pub item-ordered : item.from ≤ item.to
  item-ordered = let order = fits.0 in omega arith

  pub item-within : item.to ≤ length toks
  item-within = omega (arith, fits.1, ap length toks_are)

  pub item-some : (cut : List Token) → cut ≡ slice_range toks item.from item.to
      → IfSome (source_kept f) (λ source. ◌≡◌ {A = Option ItemText} (Some (record { kind = item.kind; at = item.at; toks = cut })) (slice_get (items_in source) k))
  item-some cut is = rw (is, toks_are) (item-is f text items k (Some item) has are is_there)

  -- its tokens are sound
  pub item-sound : (cut : List Token) → cut ≡ slice_range toks item.from item.to → list_all (λ t. is_traced t && is_low t) cut ≡ true
  item-sound cut is =
      rw (is, toks_are) (list_all-range (λ t. is_traced t && is_low t) text.toks item.from item.to (text-sound f.number f.bytes text has))

  -- those of a `define` line make one
  pub item-defines : (cut : List Token) → cut ≡ slice_range toks item.from item.to → item.kind ≡ Define
      → (line_kind cut ≡ Define) × ((m : Definition) → defined_by cut ≡ Some m → IsTrue (list_all is_traced m.body))
  item-defines cut is kind =
      let line = here (IsLine text.toks) (lines-items_of text.toks text.firsts) (ap is_run kind) in
      (rw (is, toks_are) (line ∙ kind), λ m e. body-traced cut m (item-sound cut is) e)
