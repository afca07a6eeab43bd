-- What stands in a `define` line.
use Rattle.std.proofs.Common.{◌≡◌, ℕ, zero, suc, ◌+◌, ◌<◌, ◌≤◌, ◌-◌, ◌&&◌, Bool, true, false, List, [], ◌∷◌, length, take, drop, get_or, Option, Some, None, IsSome, is_none, Result, Ok, Err, IfOk, refl, sym, ◌∙◌, ap, subst, inl, inr, add-one, arith}
use Rattle.std.specs.List.{position, position_or_len}
use Rattle.std.proofs.lemmas.Bool.{cases_Bool, lt-ltb}
use Rattle.std.proofs.Math.Bool.{and-false}
use Rattle.std.proofs.lemmas.List.Quantifiers.{position-Some}
use Rattle.cs_base.specs.Token.{Token}
use Rattle.cs_base.specs.declared.positions.Pos.{Pos}
use Rattle.cs_base.specs.declared.causes.Cause.{Cause}
use Rattle.line_shape.specs.declared.items.ItemKind.{ItemKind}
use Rattle.line_shape.specs.declared.items.ItemKind.TheVariants.{Define}
use Rattle.line_shape.specs.Signs.{is_hash, is_close, is_ellipsis, is_name}
use Rattle.line_shape.specs.Directives.{directive_named}
use Rattle.line_shape.specs.MacroLine.{MacroParts, macro, macro_of, is_function_like, function_macro, is_parameter_list, before_close, behind_close, params_in, ends_in_rest, has_named_rest, has_plain_rest}
use Rattle.line_shape.specs.BadLines.{causes_on, first_of, cause_on}
use Rattle.line_shape.specs.Items.{line_kind, directive_kind, named_kind, kind_unless}
use Rattle.macro_body.specs.declared.definitions.Definition.{Definition}
use Rattle.macro_body.specs.Defining.{defined_by, definition_of}

-- A `define` line: behind its `#` and its word stand a name and the parts of a macro.
pub record DefineLine (toks : List Token) : Type 0 where
  pub hash : Token
  pub word : Token
  pub name : Token
  pub rest : List Token
  pub parts : MacroParts
  pub is : toks ≡ hash ∷ word ∷ name ∷ rest
  pub are : macro_of rest ≡ Some parts

kind_unless-define : (c : Option Cause) (at : Pos) (kind : ItemKind) → kind_unless c at kind ≡ Define → (c ≡ None) × (kind ≡ Define)
kind_unless-define None at kind h = (refl, h)
kind_unless-define (Some c) at kind h = absurd (cc)

named_kind-define : (o : Option ItemKind) (at : Pos) (operands : List Token) → named_kind o at operands ≡ Define → cause_on Define operands ≡ None
named_kind-define None at operands h = absurd (cc)
named_kind-define (Some kind) at operands h =
    let both = kind_unless-define (cause_on kind operands) at kind h in
    subst (λ (k : ItemKind). cause_on k operands ≡ None) both.1 both.0

-- nothing stands
abbrev NoneStands : List (Cause × Bool) → Type 0
NoneStands [] = Unit {0}
NoneStands (row ∷ rows) = (row.1 ≡ false) × NoneStands rows

first_of-none : (rows : List (Cause × Bool)) → first_of rows ≡ None → NoneStands rows
first_of-none [] h = tt
first_of-none ((cause, true) ∷ rows) h = absurd (cc)
first_of-none ((cause, false) ∷ rows) h = (refl, first_of-none rows h)

is_none-false : {A : Type 0} (o : Option A) → is_none o ≡ false → (x : A) × (o ≡ Some x)
is_none-false (Some x) h = (x, refl)
is_none-false None h = absurd (cc)

define_line-parts : (hash word : Token) (operands : List Token) → cause_on Define operands ≡ None → DefineLine (hash ∷ word ∷ operands)
unfolding cause_on
define_line-parts hash word [] h = absurd (cc)
define_line-parts hash word (name ∷ rest) h =
    let none = first_of-none (causes_on Define (name ∷ rest)) h in
    let parts = is_none-false (macro_of rest) none.1.1.0 in
    record { hash = hash; word = word; name = name; rest = rest; parts = parts.0; is = refl; are = parts.1 }

directive-define : (at : Pos) (hash : Token) (toks : List Token) → directive_kind at toks ≡ Define → DefineLine (hash ∷ toks)
unfolding directive_kind
directive-define at hash [] h = absurd (cc)
directive-define at hash (word ∷ operands) h =
    define_line-parts hash word operands (named_kind-define (directive_named word) at operands h)

pub define_line : (toks : List Token) → line_kind toks ≡ Define → DefineLine toks
define_line [] h = absurd (cc)
define_line (t ∷ toks) h =
    elim (cases_Bool (is_hash t)) [
      | inl hash ↦ directive-define t.at t toks (rw hash at h)
      | inr other ↦ let run = rw other at h in absurd (cc)
    ]

-- the place of the first `)`
pub close-first : (toks : List Token) (n : ℕ) (d : Token) → n < length toks → is_close (get_or toks n d) ≡ true
    → ((k : ℕ) → k < n → is_close (get_or toks k d) ≡ false)
    → (before_close toks ≡ take n toks) × (behind_close toks ≡ Some (drop (suc n) toks))
close-first [] n d inside here before = absurd (omega arith)
close-first (t ∷ toks) zero d inside here before = rw here (refl, refl)
close-first (t ∷ toks) (suc n) d inside here before =
    let rest = close-first toks n d (omega arith) here (λ k below. before (suc k) (omega arith)) in
    rw (before 0 (omega arith)) (ap (λ (ts : List Token). t ∷ ts) rest.0, rest.1)

-- a list with a `)` has a first one
pub close-found : (toks : List Token) → IsSome (behind_close toks) → position_or_len is_close toks < length toks
close-found [] some = absurd (cc)
close-found (t ∷ toks) some =
    elim (cases_Bool (is_close t)) [
      | inl close ↦ rw close (omega arith)
      | inr other ↦
          let rest = close-found toks (rw other at some) in
          rw other (omega arith)
    ]

pub close-is_some : (toks : List Token) → IsSome (behind_close toks) → IsSome (position is_close toks)
close-is_some toks some = rw (lt-ltb _ _ (close-found toks some)) refl

-- the parts of a list, by the place of its first `)`
pub close-parts : (toks : List Token) (n : ℕ) (d : Token) → position is_close toks ≡ Some n
    → (before_close toks ≡ take n toks) × (behind_close toks ≡ Some (drop (n + 1) toks))
close-parts toks n d at =
    let first = position-Some is_close toks n d at in
    let parts = close-first toks n d first.0 first.1 first.2 in
    (parts.0, parts.1 ∙ ap (λ (k : ℕ). Some (drop k toks)) (sym (add-one n)))

function_macro-parts : (list : List Token) (o : Option (List Token)) (parts : MacroParts) → function_macro list o ≡ Some parts
    → (body : List Token) × (o ≡ Some body) × (parts ≡ macro true (params_in list) (has_plain_rest list) (has_named_rest list) body)
function_macro-parts list None parts h = absurd (cc)
function_macro-parts list (Some body) parts h =
    elim (cases_Bool (is_parameter_list list)) [
      | inl fit ↦ let same = rw fit at h in (body, refl, cc)
      | inr bad ↦ let none = rw bad at h in absurd (cc)
    ]

-- a function-like macro has a `)`, and its parts
pub macro_of-function : (toks : List Token) (parts : MacroParts) → is_function_like toks ≡ true → macro_of toks ≡ Some parts
    → (body : List Token) × (behind_close (drop 1 toks) ≡ Some body)
    × (parts ≡ macro true (params_in (before_close (drop 1 toks))) (has_plain_rest (before_close (drop 1 toks))) (has_named_rest (before_close (drop 1 toks))) body)
unfolding macro_of
macro_of-function toks parts function are =
    function_macro-parts (before_close (drop 1 toks)) (behind_close (drop 1 toks)) parts (rw function at are)

pub macro_of-object : (toks : List Token) → is_function_like toks ≡ false → macro_of toks ≡ Some (macro false [] false false toks)
unfolding macro_of
macro_of-object toks object = rw object refl

pub some-same : {A : Type 0} {x y : A} → Some x ≡ Some y → x ≡ y
some-same h = cc

pub define_line-length : (toks : List Token) → DefineLine toks → 3 ≤ length toks
define_line-length toks line = let n = ap (λ (ts : List Token). length ts) line.is in omega arith

-- the macro that the tokens behind the name define
defined_by-are : (toks : List Token) (line : DefineLine toks) (name : Token) (parts : MacroParts) (m : Definition)
    → name ≡ get_or toks 2 name → macro_of (drop 3 toks) ≡ Some parts → m ≡ definition_of name parts → defined_by toks ≡ Some m
defined_by-are toks line name parts m at are same =
    let named : name ≡ line.name = rw line.is at at in
    let behind : macro_of line.rest ≡ Some parts = rw line.is at are in
    rw (line.is, behind, same, named) refl

pub defined_by-object : (toks : List Token) → DefineLine toks → (name : Token) (m : Definition) → name ≡ get_or toks 2 name
    → is_function_like (drop 3 toks) ≡ false → m ≡ definition_of name (macro false [] false false (drop 3 toks)) → defined_by toks ≡ Some m
defined_by-object toks line name m at object same =
    defined_by-are toks line name _ m at (macro_of-object (drop 3 toks) object) same

-- a function-like macro's list, of these parts
abbrev pub list_parts : List Token → List Token → MacroParts
list_parts toks body = macro true (params_in (before_close toks)) (has_plain_rest (before_close toks)) (has_named_rest (before_close toks)) body

function-parts : (toks : List Token) → DefineLine toks → is_function_like (drop 3 toks) ≡ true
    → (body : List Token) × (behind_close (drop 1 (drop 3 toks)) ≡ Some body) × (macro_of (drop 3 toks) ≡ Some (list_parts (drop 1 (drop 3 toks)) body))
function-parts toks line function =
    let are : macro_of (drop 3 toks) ≡ Some line.parts = rw line.is line.are in
    let parts = macro_of-function (drop 3 toks) line.parts function are in
    (parts.0, parts.1, are ∙ ap (λ (p : MacroParts). Some p) parts.2)

pub defined_by-closed : (toks : List Token) → DefineLine toks → is_function_like (drop 3 toks) ≡ true → IsSome (behind_close (drop 1 (drop 3 toks)))
defined_by-closed toks line function = let parts = function-parts toks line function in rw parts.1 refl

pub defined_by-function : (toks : List Token) → DefineLine toks → (name : Token) (m : Definition) → name ≡ get_or toks 2 name
    → is_function_like (drop 3 toks) ≡ true
    → ((body : List Token) → behind_close (drop 1 (drop 3 toks)) ≡ Some body → m ≡ definition_of name (list_parts (drop 1 (drop 3 toks)) body))
    → defined_by toks ≡ Some m
defined_by-function toks line name m at function same =
    let parts = function-parts toks line function in
    defined_by-are toks line name _ m at parts.2 (same parts.0 parts.1)

pub if_ok-more : {A E : Type 0} {P Q : A → Type 0} (r : Result A E) → IfOk r P → ((x : A) → P x → Q x) → IfOk r Q
if_ok-more (Ok x) p more = more x p
if_ok-more (Err e) p more = tt

get-behind : (x : Token) (xs : List Token) (d : Token) (n k : ℕ) → n ≡ suc k → get_or (x ∷ xs) n d ≡ get_or xs k d
get-behind x xs d n k is = ap (λ (i : ℕ). get_or (x ∷ xs) i d) is

-- the last two tokens of a list say whether it ends in a name with `...` behind it
ends-behind : (behind : Bool) (xs : List Token) (t u : Token) → 2 ≤ length xs → t ≡ get_or xs (length xs - 2) t → u ≡ get_or xs (length xs - 1) u
    → ends_in_rest behind xs ≡ is_ellipsis u && is_name t
ends-behind behind [] t u two first second = absurd (omega arith)
ends-behind behind (x ∷ []) t u two first second = absurd (omega arith)
ends-behind behind (x ∷ y ∷ []) t u two first second = rw (first, second) refl
ends-behind behind (x ∷ y ∷ z ∷ xs) t u two first second =
    let rest : List Token = y ∷ z ∷ xs in
    let last_but_one : length (x ∷ rest) - 2 ≡ suc (length rest - 2) = omega arith in
    let last : length (x ∷ rest) - 1 ≡ suc (length rest - 1) = omega arith in
    ends-behind (is_name x) (y ∷ z ∷ xs) t u (omega arith)
    (first ∙ get-behind x rest t (length (x ∷ rest) - 2) (length rest - 2) last_but_one)
    (second ∙ get-behind x rest u (length (x ∷ rest) - 1) (length rest - 1) last)

pub rest-last : (xs : List Token) (t u : Token) → 2 ≤ length xs → t ≡ get_or xs (length xs - 2) t → u ≡ get_or xs (length xs - 1) u
    → has_named_rest xs ≡ is_ellipsis u && is_name t
rest-last xs t u two first second = ends-behind false xs t u two first second

-- a shorter list does not
pub rest-short : (xs : List Token) → length xs < 2 → has_named_rest xs ≡ false
rest-short [] short = refl
rest-short (t ∷ []) short = and-false (is_ellipsis t)
rest-short (t ∷ u ∷ xs) short = absurd (omega arith)
