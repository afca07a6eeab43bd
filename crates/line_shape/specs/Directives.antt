-- The words of directives (ISO/IEC 9899:1999, 6.10), and those that GNU C has more.
use Rattle.std.specs.Prelude.{ℕ, Bool, true, false, if◌then◌else◌, Option, Some, None, List, [], ◌∷◌, codes}
use Rattle.std.specs.Str.{bytes_eq}
use Rattle.cs_base.specs.Token.{Token}
use Rattle.line_shape.specs.declared.items.ItemKind.{ItemKind}
use Rattle.line_shape.specs.declared.items.ItemKind.TheVariants.{Run, Define, Undef, If, Ifdef, Ifndef, Elif, Else, Endif, Include, Line, Error, Pragma, Gnu}
use Rattle.line_shape.specs.declared.items.GnuLine.{GnuLine}
use Rattle.line_shape.specs.declared.items.GnuLine.TheVariants.{IncludeNext, Message, Elifdef, Elifndef}
use Rattle.line_shape.specs.Signs.{is_name}

-- those of GNU C alone
abbrev pub gnu_directives : List (List ℕ × ItemKind)
gnu_directives =
    (codes "include_next", Gnu IncludeNext) ∷ (codes "warning", Gnu Message) ∷ (codes "ident", Gnu Message)
    ∷ (codes "sccs", Gnu Message) ∷ (codes "elifdef", Gnu Elifdef) ∷ (codes "elifndef", Gnu Elifndef) ∷ []

-- each directive by its word
abbrev pub directives : List (List ℕ × ItemKind)
directives =
    (codes "define", Define) ∷ (codes "undef", Undef) ∷ (codes "if", If) ∷ (codes "ifdef", Ifdef)
    ∷ (codes "ifndef", Ifndef) ∷ (codes "elif", Elif) ∷ (codes "else", Else) ∷ (codes "endif", Endif)
    ∷ (codes "include", Include) ∷ (codes "line", Line) ∷ (codes "error", Error)
    ∷ (codes "pragma", Pragma) ∷ gnu_directives

-- what a spelling stands for in a table
abbrev pub meaning_in : List (List ℕ × ItemKind) → List ℕ → Option ItemKind
meaning_in [] text = None
meaning_in (row ∷ rows) text = if bytes_eq text row.0 then Some row.1 else meaning_in rows text

unfoldable pub directive_spelled : List ℕ → Option ItemKind
directive_spelled text = meaning_in directives text

-- the directive that a token behind `#` names
abbrev pub directive_named : Token → Option ItemKind
directive_named t = if is_name t then directive_spelled t.text else None

-- a run of text lines
abbrev pub is_run : ItemKind → Bool
is_run Run = true
is_run _ = false

-- one of GNU C that goes on with an if-section where a name is that of a macro, or is not
abbrev pub is_elif : GnuLine → Bool
is_elif Elifdef = true
is_elif Elifndef = true
is_elif _ = false

abbrev pub is_include_next : GnuLine → Bool
is_include_next IncludeNext = true
is_include_next _ = false

-- a directive whose operand is the name of a macro (6.10.1, 6.10.3, 6.10.3.5)
abbrev pub takes_name : ItemKind → Bool
takes_name Define = true
takes_name Undef = true
takes_name Ifdef = true
takes_name Ifndef = true
takes_name (Gnu line) = is_elif line
takes_name _ = false

-- one that gives the name a meaning or takes it away (6.10.3, 6.10.3.5)
abbrev pub changes_name : ItemKind → Bool
changes_name Define = true
changes_name Undef = true
changes_name _ = false

abbrev pub is_define : ItemKind → Bool
is_define Define = true
is_define _ = false

abbrev pub is_include : ItemKind → Bool
is_include Include = true
is_include (Gnu line) = is_include_next line
is_include _ = false

-- one that begins an if-section, also where its line is bad (this project's own rule)
abbrev pub nests_when_bad : ItemKind → Bool
nests_when_bad Ifdef = true
nests_when_bad Ifndef = true
nests_when_bad _ = false
