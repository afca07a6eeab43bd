-- What the steps of the walk promise each other.
use Rattle.std.specs.Prelude.{◌≡◌, ℕ, ◌+◌, ◌<◌, ◌≤◌, Bool, true, false, not, ◌&&◌, ◌||◌, if◌then◌else◌, Option, Some, None, List, [], ◌∷◌, ◌++◌, length, drop, get_or, slice_get}
use Rattle.std.specs.List.{list_any}
use Rattle.std.specs.Str.{bytes_eq}
use Rattle.cs_base.specs.Token.{Token}
use Rattle.cs_base.specs.declared.causes.Cause.{Cause}
use Rattle.cs_base.specs.declared.causes.Cause.TheVariants.{BadParameters, BadHash, BadPaste, BadVaArgs}
use Rattle.line_shape.specs.declared.parameters.Parameters.{Parameters}
use Rattle.line_shape.specs.Signs.{is_hash, is_close, is_comma, is_ellipsis, is_va_args}
use Rattle.line_shape.specs.MacroLine.{MacroParts, spellings, is_parameter}
use Rattle.line_shape.specs.BadLines.{has_end_paste, has_lone_hash, is_operand}
use Rattle.line_shape.specs.Items.{items_from, pieces_of, lines_of}
use Rattle.line_shape.specs.declared.items.Item.{Item}

-- whether a `#` stands at a place
abbrev pub is_hash_in : Option Token → Bool
is_hash_in None = false
is_hash_in (Some t) = is_hash t

unfoldable pub is_hash_at : List Token → ℕ → Bool
is_hash_at toks k = is_hash_in (slice_get toks k)

-- whether an item that is a directive or none ends before this place
abbrev pub is_end : Bool → List Token → List Bool → ℕ → Bool
is_end directive toks firsts k = get_or firsts k false && (directive || is_hash_at toks k)

-- where the item ends whose first token is at `from`
pub record IsItemEnd (directive : Bool) (toks : List Token) (firsts : List Bool) (from to : ℕ) : Type 0 where
  pub after : from < to
  pub within : to ≤ length toks
  pub none : (k : ℕ) → from < k → k < to → is_end directive toks firsts k ≡ false
  pub end : to < length toks → is_end directive toks firsts to ≡ true

-- the items of the tokens from this place on
unfoldable pub rest_items : List Token → List Bool → ℕ → List Item
rest_items toks firsts from = items_from from (pieces_of (lines_of (drop from toks) (drop from firsts)))

-- ---- parameter lists

-- whether the name was new, and the names with it where it was
abbrev pub Adds : List ℕ → List (List ℕ) → Bool → List (List ℕ) → Type 0
Adds name old true new = (list_any (bytes_eq name) old ≡ false) × (new ≡ old ++ name ∷ [])
Adds name old false new = list_any (bytes_eq name) old ≡ true

abbrev pub parameters : List (List ℕ) → Bool → Bool → ℕ → Parameters
parameters names variadic named len = record { names = names; variadic = variadic; named = named; len = len }

-- a parameter that is none of these names
abbrev pub is_new_parameter : List (List ℕ) → Token → Bool
is_new_parameter names t = is_parameter t && not (list_any (bytes_eq t.text) names)

-- whether the token was such a parameter, and the names with it where it was
abbrev pub AddsParameter : Token → List (List ℕ) → Bool → List (List ℕ) → Type 0
AddsParameter t old true new = (is_new_parameter old t ≡ true) × (new ≡ old ++ t.text ∷ [])
AddsParameter t old false new = is_new_parameter old t ≡ false

-- the parameters of a list that ends with a `)` or with another token
abbrev pub ended : List (List ℕ) → Bool → Bool → ℕ → Bool → Option Parameters
ended names variadic named len closed = if closed then Some (parameters names variadic named len) else None

-- the last of these names stands before the `...` that the tokens are behind
abbrev pub ended_named : List (List ℕ) → ℕ → List Token → Option Parameters
ended_named names len [] = None
ended_named names len (t ∷ toks) = ended names false true len (is_close t)

-- The parameters of a list that goes on, after these names, with the tokens from number `at` on.
unfoldable pub parameters_from : List (List ℕ) → ℕ → List Token → Option Parameters
parameters_from names at [] = None
parameters_from names at (t ∷ []) = None
parameters_from names at (t ∷ sign ∷ toks) =
    if is_ellipsis t then ended names true false (at + 2) (is_close sign) else
    if is_new_parameter names t then
    (if is_comma sign then parameters_from (names ++ t.text ∷ []) (at + 2) toks
    else if is_ellipsis sign then ended_named (names ++ t.text ∷ []) (at + 3) toks
    else ended (names ++ t.text ∷ []) false false (at + 2) (is_close sign))
    else None

-- the parameters of the list that begins behind its `(`
unfoldable pub parameters_of : List Token → Option Parameters
parameters_of [] = None
parameters_of (t ∷ toks) =
    if is_close t then Some (parameters [] false false 1) else parameters_from [] 0 (t ∷ toks)

-- ---- macro definitions

-- what stands against a replacement list, where the macro has these parameters
unfoldable pub body_cause : Bool → List (List ℕ) → Bool → List Token → Option Cause
body_cause function names variadic body =
    if function && has_lone_hash (is_operand names variadic) body then Some BadHash else
    if has_end_paste body then Some BadPaste else
    if not variadic && list_any is_va_args body then Some BadVaArgs else None

-- what stands against a macro definition
abbrev pub definition_cause : Option MacroParts → Option Cause
definition_cause None = Some BadParameters
definition_cause (Some m) = body_cause m.function (spellings m.params) m.variadic m.body

-- what stands against a function-like macro with these parameters in the tokens behind its `(`
abbrev pub function_cause : List Token → Option Parameters → Option Cause
function_cause toks None = Some BadParameters
function_cause toks (Some list) = body_cause true list.names list.variadic (drop list.len toks)
