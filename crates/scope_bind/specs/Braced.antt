-- Lists in braces behind a tag (ISO/IEC 9899:1999, 6.7.2.1, 6.7.2.2) among the children of a node.
use Rattle.std.specs.Prelude.{Bool, ◌||◌}
use Rattle.c99_tree.specs.Tree.{Forest}
use Rattle.c99_tree.specs.declared.production.Production.TheVariants.{Members, Enumerators}
use Rattle.c_types.specs.Trees.{has_node}

-- members or enumerators stand among some children
abbrev pub has_list : Forest → Bool
has_list under = has_node Members under || has_node Enumerators under
