-- A declaration that is a structure or union specifier and a semicolon, and no other word (ISO/IEC 9899:1999, 6.7.2.3
-- paragraph 7), in GNU C: attributes may stand beside it, and `__extension__` in front.
use Rattle.std.specs.Prelude.{Bool, true, false, ◌&&◌, ◌||◌, not, if◌then◌else◌, ◌==◌}
use Rattle.c99_tree.specs.Tree.{Forest, none, token, node}
use Rattle.c99_tree.specs.declared.production.Label.{Label}
use Rattle.c99_tree.specs.declared.production.Production.{Production}
use Rattle.c99_tree.specs.declared.production.Production.TheVariants.{External, Declaration, Mod, Attr}
use Rattle.c_types.specs.declared.frames.Frame.{Frame}
use Rattle.c_types.specs.Trees.{is_node, has_node}
use Rattle.c_types.specs.Shapes.{is_end}
use Rattle.scope_bind.specs.Below.name_chains.Entering.{alone_in}

-- attributes among specifiers
abbrev pub is_attribute : Label → Forest → Bool
is_attribute l under = is_node l Mod && has_node Attr under

-- something else stands among some specifiers
abbrev pub has_other : Forest → Bool
has_other none = false
has_other (token i rest) = true
has_other (node l first under rest) = not (is_attribute l under) || has_other rest

-- one specifier, with attributes behind it
abbrev pub is_one_specifier : Forest → Bool
is_one_specifier (node l first under rest) = not (has_other rest)
is_one_specifier _ = false

-- .. with attributes in front of it too, as a declaration has its specifiers
abbrev pub is_lone_specifier : Forest → Bool
is_lone_specifier none = false
is_lone_specifier (token i rest) = false
is_lone_specifier (node l first under rest) =
    if is_attribute l under then is_lone_specifier rest else is_end rest && is_one_specifier under

-- a declaration ends behind its specifiers
abbrev pub ends_in : Forest → Bool
ends_in (node m second below none) = m.alternative == 1
ends_in _ = false

-- the specifiers are the first child that is a node
abbrev pub is_lone : Forest → Bool
is_lone none = false
is_lone (token i rest) = is_lone rest
is_lone (node l first specs rest) = ends_in rest && is_lone_specifier specs

-- the specifiers of a node stand alone, or it stands among such ones
abbrev pub stands_alone : Production → Forest → Frame → Bool
stands_alone External under f = is_lone under
stands_alone Declaration under f = is_lone under
stands_alone p under f = alone_in p under f
