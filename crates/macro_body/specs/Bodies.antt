-- Replacement lists as chains of operands (ISO/IEC 9899:1999, 6.10.3, 6.10.3.2 and 6.10.3.3).
use Rattle.std.specs.Prelude.{ℕ, ◌&&◌, ◌==◌, Bool, true, false, if◌then◌else◌, List, [], ◌∷◌, Option, Some, None, is_some, map}
use Rattle.std.specs.List.{list_any}
use Rattle.cs_base.specs.Token.{Token}
use Rattle.macro_body.specs.declared.definitions.Definition.{Definition}
use Rattle.line_shape.specs.Signs.{is_hash, is_paste, is_comma}
use Rattle.macro_body.specs.Macro.{is_function, parameter_at, rest_number}

-- A part of a replacement list: a token that stays, a parameter with its number, a `#` with the number of
-- the parameter behind it, a `##`, or in GNU C a comma with the variable arguments behind it and `##` between them.
pub data Part : Type 0 where
  Plain : Token → Part
  Param : Token → ℕ → Part
  Quote : Token → ℕ → Part
  Paste : Token → Part
  Rest : Token → ℕ → Part

-- its token
abbrev pub token_of : Part → Token
token_of (Plain t) = t
token_of (Param t i) = t
token_of (Quote t i) = t
token_of (Paste t) = t
token_of (Rest t i) = t

-- the parameter that the next token names
abbrev pub next_parameter : Definition → List Token → Option ℕ
next_parameter m [] = None
next_parameter m (t ∷ ts) = parameter_at m t

-- the parameter that this token makes a string of (6.10.3.2): it is the `#` of a function-like macro
abbrev pub quoted_parameter : Definition → Token → List Token → Option ℕ
quoted_parameter m t ts = if is_function m.form && is_hash t then next_parameter m ts else None

-- a token that is no such `#`
abbrev pub param_or_plain : Token → Option ℕ → Part
param_or_plain t (Some i) = Param t i
param_or_plain t None = Plain t

abbrev pub lone_part : Definition → Token → Part
lone_part m t = if is_paste t then Paste t else param_or_plain t (parameter_at m t)

-- the part that begins with this token
abbrev pub quote_or : Token → Part → Option ℕ → Part
quote_or t part (Some i) = Quote t i
quote_or t part None = part

-- the parts of tokens; the first of them belongs to the part before where `taken`
unfoldable pub parts_from : Definition → Bool → List Token → List Part
parts_from m taken [] = []
parts_from m true (t ∷ ts) = parts_from m false ts
parts_from m false (t ∷ ts) =
    quote_or t (lone_part m t) (quoted_parameter m t ts) ∷ parts_from m (is_some (quoted_parameter m t ts)) ts

-- a part is the operator `##`
abbrev pub is_operator : Part → Bool
is_operator (Paste t) = true
is_operator _ = false

-- a part in front of the first chain, to be pasted to its first operand
abbrev pub pasted_to : Part → List (List Part) → List (List Part)
pasted_to p [] = (p ∷ []) ∷ []
pasted_to p (chain ∷ chains) = (p ∷ chain) ∷ chains

-- The parts in chains: operands with `##` between them; most are alone. A `##` directly behind a `##` is
-- the operand of the first.
unfoldable pub chains_in : List Part → List (List Part)
chains_in [] = []
chains_in (p ∷ []) = (p ∷ []) ∷ []
chains_in (p ∷ q ∷ ps) = if is_operator q then pasted_to p (chains_in ps) else (p ∷ []) ∷ chains_in (q ∷ ps)

-- a number is this one, if it is one
abbrev pub is_number : ℕ → Option ℕ → Bool
is_number i None = false
is_number i (Some n) = i == n

-- a comma
abbrev pub is_plain_comma : Part → Bool
is_plain_comma (Plain t) = is_comma t
is_plain_comma _ = false

-- the number of the variable arguments, if a part is these
abbrev pub rest_param : Definition → Part → Option ℕ
rest_param m (Param t i) = if is_number i (rest_number m) then Some i else None
rest_param m _ = None

-- the same of a chain of a comma and these, which GNU C does not paste
abbrev pub rest_of : Definition → List Part → Option ℕ
rest_of m (comma ∷ last ∷ []) = if m.gnu && is_plain_comma comma then rest_param m last else None
rest_of m _ = None

-- a chain is one part then, and as it is else
abbrev pub rest_or : List Part → Option ℕ → List Part
rest_or chain None = chain
rest_or [] (Some i) = []
rest_or (p ∷ ps) (Some i) = Rest (token_of p) i ∷ []

abbrev pub rest_or_chain : Definition → List Part → List Part
rest_or_chain m chain = rest_or chain (rest_of m chain)

-- the chains of a macro's replacement list
unfoldable pub chains_of : Definition → List (List Part)
chains_of m = map (rest_or_chain m) (chains_in (parts_from m false m.body))

-- a chain is this parameter alone
abbrev pub is_lone : ℕ → List Part → Bool
is_lone i (Param t k ∷ []) = i == k
is_lone i _ = false

-- the parameter occurs other than as an operand of `#` or `##` (6.10.3.1)
abbrev pub occurs_alone : ℕ → List (List Part) → Bool
occurs_alone i chains = list_any (is_lone i) chains
