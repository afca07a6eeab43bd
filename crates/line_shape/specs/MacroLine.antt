-- What stands behind the name in a `define` line (ISO/IEC 9899:1999, 6.10.3).
use Rattle.std.specs.Prelude.{ℕ, Bool, true, false, not, ◌&&◌, ◌||◌, if◌then◌else◌, Option, Some, None, List, [], ◌∷◌, drop, map, filter}
use Rattle.std.specs.List.{list_any}
use Rattle.std.specs.Str.{bytes_eq}
use Rattle.cs_base.specs.Token.{Token}
use Rattle.line_shape.specs.Signs.{is_name, is_open, is_close, is_comma, is_ellipsis, is_va_args}

-- The parts of a macro definition: whether it is function-like, its parameters, whether `...` follows
-- them as one more, whether it stands behind the name of the last one, which is so in GNU C alone, and its replacement list.
pub record MacroParts : Type 0 where
  pub function : Bool
  pub params : List Token
  pub variadic : Bool
  pub named : Bool
  pub body : List Token

-- a macro definition of these parts
abbrev pub macro : Bool → List Token → Bool → Bool → List Token → MacroParts
macro function params variadic named body = record {
  function = function;
  params = params;
  variadic = variadic;
  named = named;
  body = body;
}

-- what tokens are spelled
abbrev pub spellings : List Token → List (List ℕ)
spellings toks = map (λ (t : Token). t.text) toks

-- the `(` of a parameter list has no white space before it (6.10.3 paragraph 10)
abbrev pub is_function_like : List Token → Bool
is_function_like [] = false
is_function_like (t ∷ toks) = is_open t && not t.gap

-- the tokens before the first `)`
abbrev pub before_close : List Token → List Token
before_close [] = []
before_close (t ∷ toks) = if is_close t then [] else t ∷ before_close toks

-- the tokens behind the first `)`, if there is one
abbrev pub behind_close : List Token → Option (List Token)
behind_close [] = None
behind_close (t ∷ toks) = if is_close t then Some toks else behind_close toks

-- a name that a parameter may have (6.10.3 paragraph 5)
abbrev pub is_parameter : Token → Bool
is_parameter t = is_name t && not (is_va_args t)

-- nothing stands there
abbrev pub is_end : List Token → Bool
is_end [] = true
is_end (t ∷ toks) = false

-- identifier-list (6.10.3): parameters with commas between them, the last of which may be `...`, or in GNU C a name with `...`
-- behind it
abbrev pub is_identifier_list : List Token → Bool
is_identifier_list [] = false
is_identifier_list (t ∷ []) = is_parameter t || is_ellipsis t
is_identifier_list (t ∷ sign ∷ toks) =
    is_parameter t && (if is_comma sign then is_identifier_list toks else is_ellipsis sign && is_end toks)

-- the last parameter of an identifier list is `...`, alone or behind a name
abbrev pub ends_in_rest : Bool → List Token → Bool
ends_in_rest behind [] = false
ends_in_rest behind (t ∷ []) = is_ellipsis t && behind
ends_in_rest behind (t ∷ u ∷ toks) = ends_in_rest (is_name t) (u ∷ toks)

abbrev pub has_named_rest : List Token → Bool
has_named_rest list = ends_in_rest false list

abbrev pub has_plain_rest : List Token → Bool
has_plain_rest list = list_any is_ellipsis list && not (has_named_rest list)

-- the parameters in an identifier list
abbrev pub params_in : List Token → List Token
params_in list = filter is_name list

-- no spelling stands twice (6.10.3 paragraph 6)
abbrev pub are_distinct : List (List ℕ) → Bool
are_distinct [] = true
are_distinct (name ∷ names) = not (list_any (bytes_eq name) names) && are_distinct names

-- what may stand between the parentheses: nothing, or an identifier list without a name twice
abbrev pub is_parameter_list : List Token → Bool
is_parameter_list [] = true
is_parameter_list (t ∷ toks) = is_identifier_list (t ∷ toks) && are_distinct (spellings (params_in (t ∷ toks)))

-- a function-like macro with this list between its parentheses and these tokens behind them
abbrev pub function_macro : List Token → Option (List Token) → Option MacroParts
function_macro list None = None
function_macro list (Some body) =
    if is_parameter_list list then Some (macro true (params_in list) (has_plain_rest list) (has_named_rest list) body) else None

-- the macro definition in the tokens behind a macro's name; none where its parameter list is bad
unfoldable pub macro_of : List Token → Option MacroParts
macro_of toks =
    if is_function_like toks then function_macro (before_close (drop 1 toks)) (behind_close (drop 1 toks))
    else Some (macro false [] false false toks)
