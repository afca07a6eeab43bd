-- The binding of a translation unit of GNU C, and that of one by its standard.
use Rattle.std.specs.Prelude.{List, length, Result}
use Rattle.cs_base.specs.Token.{Token}
use Rattle.cs_base.specs.declared.ws_units.Standard.{Standard}
use Rattle.cs_base.specs.declared.ws_units.Standard.TheVariants.{C99, C11, Gnu99, Gnu11}
use Rattle.c99_tree.specs.Tree.{Forest, Node}
use Rattle.c_types.specs.declared.declarations.Fault.{Fault}
use Rattle.c_types.specs.Declarations.{Facts}
use Rattle.scope_bind.specs.Below.name_chains.Frames.{at_first}
use Rattle.scope_bind.specs.Bound.{Bound, bound_after, binding_of}
use Rattle.gnu_bind.specs.Senses.{usual_sense}
use Rattle.gnu_bind.specs.Walk.{walked}

-- what is known at the end of the unit
abbrev pub facts_of : List Token → Forest → Facts
facts_of toks tree = (walked toks usual_sense tree (at_first (length toks))).facts

-- the binding of the tokens, whose tree this is
unfoldable pub gnu_binding_of : List Token → Node → Result Bound Fault
gnu_binding_of toks tree = bound_after tree.under (facts_of toks tree.under)

-- The binding by a standard: that of ISO/IEC 9899 where it is one of its editions.
abbrev pub binding_by : Standard → List Token → Node → Result Bound Fault
binding_by C99 toks tree = binding_of toks tree
binding_by C11 toks tree = binding_of toks tree
binding_by Gnu99 toks tree = gnu_binding_of toks tree
binding_by Gnu11 toks tree = gnu_binding_of toks tree
