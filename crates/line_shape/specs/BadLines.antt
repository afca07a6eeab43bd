-- Directive lines of no allowed form (ISO/IEC 9899:1999, 6.10): what can stand against one, and what is
-- named first. What is no constraint of the standard, as a missing header name, is this project's own
-- rule; tokens behind an operand are not looked at.
use Rattle.std.specs.Prelude.{ℕ, Bool, true, false, not, ◌&&◌, ◌||◌, if◌then◌else◌, Option, Some, None, is_none, List, [], ◌∷◌, drop}
use Rattle.std.specs.List.{list_any}
use Rattle.std.specs.Str.{bytes_eq}
use Rattle.cs_base.specs.Token.{Token}
use Rattle.cs_base.specs.declared.causes.Cause.{Cause}
use Rattle.cs_base.specs.declared.causes.Cause.TheVariants.{NoMacroName, BadMacroName, BadParameters, BadHash, BadPaste, BadVaArgs, NoHeader}
use Rattle.line_shape.specs.declared.items.ItemKind.{ItemKind}
use Rattle.line_shape.specs.Signs.{is_name, is_hash, is_paste, is_va_args, is_unfit_name}
use Rattle.line_shape.specs.Directives.{takes_name, changes_name, is_define, is_include}
use Rattle.line_shape.specs.MacroLine.{MacroParts, spellings, macro_of}

abbrev pub begins_with : (Token → Bool) → List Token → Bool
begins_with test [] = false
begins_with test (t ∷ toks) = test t

abbrev pub ends_with : (Token → Bool) → List Token → Bool
ends_with test [] = false
ends_with test (t ∷ []) = test t
ends_with test (t ∷ u ∷ toks) = ends_with test (u ∷ toks)

-- what may stand behind `#` in a replacement list: a parameter with one of these names, or `__VA_ARGS__`
-- where the macro is variadic (6.10.3.2 paragraph 1)
unfoldable pub is_operand : List (List ℕ) → Bool → Token → Bool
is_operand names variadic t = is_name t && (list_any (bytes_eq t.text) names || variadic && is_va_args t)

-- a `#` with no operand behind it
abbrev pub has_lone_hash : (Token → Bool) → List Token → Bool
has_lone_hash operand [] = false
has_lone_hash operand (t ∷ toks) = is_hash t && not (begins_with operand toks) || has_lone_hash operand toks

-- a `#` in a function-like macro without a parameter behind it
abbrev pub has_bad_hash : MacroParts → Bool
has_bad_hash m = m.function && has_lone_hash (is_operand (spellings m.params) m.variadic) m.body

-- a `##` at an end of the replacement list (6.10.3.3 paragraph 1)
abbrev pub has_end_paste : List Token → Bool
has_end_paste body = begins_with is_paste body || ends_with is_paste body

-- `__VA_ARGS__` in a macro that is not variadic (6.10.3 paragraph 5)
abbrev pub has_bad_va_args : MacroParts → Bool
has_bad_va_args m = not m.variadic && list_any is_va_args m.body

-- a macro definition that is there and passes the test
abbrev pub has : (MacroParts → Bool) → Option MacroParts → Bool
has test None = false
has test (Some m) = test m

abbrev pub is_empty : List Token → Bool
is_empty [] = true
is_empty (t ∷ toks) = false

-- What can stand against a directive with these operands, in the order in which it is named, and whether
-- it does.
abbrev pub causes_on : ItemKind → List Token → List (Cause × Bool)
causes_on kind operands =
    (NoMacroName, takes_name kind && not (begins_with is_name operands))
    ∷ (BadMacroName, changes_name kind && begins_with is_unfit_name operands)
    ∷ (BadParameters, is_define kind && is_none (macro_of (drop 1 operands)))
    ∷ (BadHash, is_define kind && has has_bad_hash (macro_of (drop 1 operands)))
    ∷ (BadPaste, is_define kind && has (λ m. has_end_paste m.body) (macro_of (drop 1 operands)))
    ∷ (BadVaArgs, is_define kind && has has_bad_va_args (macro_of (drop 1 operands)))
    ∷ (NoHeader, is_include kind && is_empty operands)
    ∷ []

-- the first that stands
abbrev pub first_of : List (Cause × Bool) → Option Cause
first_of [] = None
first_of (row ∷ rows) = if row.1 then Some row.0 else first_of rows

-- what is named against a directive with these operands
unfoldable pub cause_on : ItemKind → List Token → Option Cause
cause_on kind operands = first_of (causes_on kind operands)
