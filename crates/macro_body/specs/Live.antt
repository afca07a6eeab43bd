-- The macros that are defined: a finite map from names to definitions (ISO/IEC 9899:1999, 6.10.3.5).
use Rattle.std.specs.Prelude.{ℕ, if◌then◌else◌, List, Some, None}
use Rattle.std.specs.Map.{lookup}
use Rattle.std.specs.Str.{bytes_eq}
use Rattle.macro_body.specs.declared.definitions.Definition.{Definition}
use Rattle.macro_body.specs.Macro.{Table}

-- The entries of a map: names, each with its definition. Their order means nothing.
abbrev pub Entries : Type 0
Entries = List (List ℕ × Definition)

-- what each spelling stands for in a map of these entries
abbrev pub table_of : Entries → Table
table_of entries name = lookup (bytes_eq name) entries

-- no macro is defined
abbrev pub no_macro : Table
no_macro name = None

-- the macros with this definition, which takes the place of an earlier one of its name
abbrev pub with_macro : Definition → Table → Table
with_macro m table name = if bytes_eq name m.name.text then Some m else table name

-- the macros without the one of this name, if it is there (6.10.3.5 paragraph 2)
abbrev pub without_macro : List ℕ → Table → Table
without_macro gone table name = if bytes_eq name gone then None else table name
