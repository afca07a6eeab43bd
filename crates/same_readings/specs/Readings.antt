-- Whether tokens are read to a tree by GNU C, and bound so.
use Rattle.std.specs.Prelude.{Bool, true, false, ◌&&◌, ◌≡◌, ◌≢◌, List, Result, Ok, Err, Option, None}
use Rattle.cs_base.specs.Token.{Token}
use Rattle.c99_tree.specs.Tree.{Node}
use Rattle.c99_read.specs.Below.c99_grammar.declared.dialects.Dialect.TheVariants.{Gnu}
use Rattle.c99_read.specs.Below.c99_grammar.Standard.{grammar}
use Rattle.c99_read.specs.Reading.{Stop, read_of}
use Rattle.c_types.specs.declared.declarations.Fault.{Fault}
use Rattle.gnu_bind.specs.Bound.{gnu_binding_of}
use Rattle.gnu_bind.specs.Below.scope_bind.Bound.{Bound}
use Rattle.same_readings.specs.SameTrees.{same_tree}
use Rattle.same_readings.specs.SameNames.{same_bound}

abbrev pub is_bound_so : Bound → Result Bound Fault → Bool
is_bound_so bound (Ok b) = same_bound b bound
is_bound_so bound (Err f) = false

abbrev pub is_read_so : List Token → Node → Bound → Result Node Stop → Bool
is_read_so toks tree bound (Ok t) = same_tree t tree && is_bound_so bound (gnu_binding_of toks t)
is_read_so toks tree bound (Err stop) = false

-- The tokens are read by GNU C to this tree, and bound so.
unfoldable pub reads_so : List Token → Node → Bound → Bool
reads_so toks tree bound = is_read_so toks tree bound (read_of (grammar Gnu) toks)

-- The law: what is found to be so is so.
abbrev pub ReadingsFoundAreSo : Type 0
ReadingsFoundAreSo =
    (toks : List Token) (tree : Node) (bound : Bound) → reads_so toks tree bound ≡ true
    → (read_of (grammar Gnu) toks ≡ Ok tree) × (gnu_binding_of toks tree ≡ Ok bound)

-- the answer of a call that met no tree or no binding: it is not so, unless memory ran out
abbrev pub IsRefused : {F : Type 0} → Option F → Bool → Type 0
IsRefused why answer = (answer ≡ false) × (why ≢ None)
