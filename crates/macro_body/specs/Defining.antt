-- Definitions of macros: those that `define` lines give (ISO/IEC 9899:1999, 6.10.3 paragraphs 9 and 10),
-- and the first ones, with which a translation unit begins (6.10.8).
use Rattle.std.specs.Prelude.{ℕ, Bool, true, false, if◌then◌else◌, List, [], ◌∷◌, Option, None, codes, length}
use Rattle.std.specs.Option.{option_map}
use Rattle.cs_base.specs.declared.tokens.Kind.TheVariants.{Other}
use Rattle.cs_base.specs.Padding.{padded}
use Rattle.cs_base.specs.Token.{Token, token}
use Rattle.line_shape.specs.MacroLine.{MacroParts, macro_of}
use Rattle.macro_body.specs.declared.definitions.Form.{Form}
use Rattle.macro_body.specs.declared.definitions.Form.TheVariants as form
use Rattle.macro_body.specs.declared.definitions.Definition.{Definition}
use Rattle.macro_body.specs.Macro.{Table}
use Rattle.macro_body.specs.Live.{no_macro, with_macro}

-- a macro is function-like or object-like
abbrev pub form_of : Bool → Form
form_of function = if function then form.Function else form.Object

-- the definition of this name by the parts behind it
abbrev pub definition_of : Token → MacroParts → Definition
definition_of name parts = record {
  name = name;
  form = form_of parts.function;
  params = parts.params;
  variadic = parts.variadic;
  named = parts.named;
  body = parts.body;
  gnu = false;
}

-- the same as a unit of GNU C or of another standard has it
abbrev pub in_gnu : Bool → Definition → Definition
in_gnu gnu m = record m { gnu = gnu }

-- The definition that the tokens of a `define` line give: the name stands behind the `#` and the word.
abbrev pub defined_by : List Token → Option Definition
defined_by (hash ∷ word ∷ name ∷ toks) = option_map (definition_of name) (macro_of toks)
defined_by _ = None

-- the name of a macro that stands in no file: none of its characters has an origin, and its labels are
-- blank
abbrev pub name_in_no_file : List ℕ → Token
name_in_no_file text = token Other text (padded (length text) []) false (record { file = 0; at = 0 }) 0 false

-- a macro that no `define` line defines (6.10.8): what it stands for depends on where its name stands
abbrev pub first_definition : Form → List ℕ → Definition
first_definition form text = record {
  name = name_in_no_file text;
  form = form;
  params = [];
  variadic = false;
  named = false;
  body = [];
  gnu = false;
}

-- `__LINE__` and `__FILE__`
abbrev pub line_macro : Definition
line_macro = first_definition form.Line (codes "__LINE__")

abbrev pub file_macro : Definition
file_macro = first_definition form.File (codes "__FILE__")

-- `__COUNTER__`, which GNU C has
abbrev pub counter_macro : Definition
counter_macro = first_definition form.Counter (codes "__COUNTER__")

-- those that each translation unit begins with
abbrev pub standard_macros : Table
standard_macros = with_macro file_macro (with_macro line_macro no_macro)

-- the macros at the beginning of a translation unit, of GNU C or not
abbrev pub first_macros : Bool → Table
first_macros false = standard_macros
first_macros true = with_macro counter_macro standard_macros
