-- The parameter list with whose names a function's body begins (ISO/IEC 9899:1999, 6.2.1 paragraph 4), in GNU C: a block
-- in an expression has lists of its own.
use Rattle.std.specs.Prelude.{ℕ, Option, None, Some, if◌then◌else◌}
use Rattle.std.specs.Option.{option_or}
use Rattle.c99_tree.specs.Tree.{Forest, none, token, node}
use Rattle.c99_tree.specs.declared.production.Label.{Label}
use Rattle.c99_tree.specs.declared.production.Production.TheVariants.{Declarator, Block}
use Rattle.c_types.specs.declared.frames.Frame.{Frame}
use Rattle.c_types.specs.Trees.{is_node, is_list, last_token}

-- where the first list of a declarator ends that stands in no other list, and in no block
abbrev pub open_list : Forest → Option ℕ
open_list none = None
open_list (token i rest) = open_list rest
open_list (node l first under rest) =
    if is_list l then Some (last_token under 0) else option_or (if is_node l Block then None else open_list under) (open_list rest)

abbrev pub open_after : Frame → Label → Forest → Option ℕ
open_after f l under = if is_node l Declarator then open_list under else f.kept
