-- What the first of some children says, where the others are read after it or before it.
use Rattle.std.specs.Prelude.{Bool, false, Option, None, Some, if◌then◌else◌, ◌==◌}
use Rattle.c99_tree.specs.Tree.{Forest, node}
use Rattle.c99_tree.specs.declared.production.Production.TheVariants.{Suffix, Pointer}
use Rattle.c_types.specs.Types.{CType, array, function}
use Rattle.c_types.specs.Trees.{is_node, is_list, is_aside}
use Rattle.c_types.specs.Lists.{nearest_of}

-- the type in front of the later suffixes, with this one in front of it
abbrev pub front_suffixed : CType → Forest → CType
front_suffixed t (node l first under rest) =
    if is_node l Suffix then (if l.alternative == 1 then array t else function t) else t
front_suffixed t _ = t

abbrev pub is_front_pointer : Forest → Bool
is_front_pointer (node l first under rest) = is_node l Pointer
is_front_pointer _ = false

-- the part nearest to the name, where it is this one and no pointer, or stands in it
abbrev pub front_nearest : Forest → Option (Option Forest)
front_nearest (node l first under rest) =
    if is_node l Suffix then Some (if is_list l then Some under else None)
    else (if is_node l Pointer then None else (if is_aside l then None else nearest_of under))
front_nearest _ = None
