-- Walks over the children of a node: the children from one of them on, and what one child says.
use Rattle.std.specs.Prelude.{ℕ, zero, suc, Bool, false, List, Option, None, Some, if◌then◌else◌}
use Rattle.cs_base.specs.Token.{Token}
use Rattle.c99_tree.specs.Tree.{Forest, none, token, node, Part, leaf, inner}
use Rattle.c99_tree.specs.declared.production.Label.{Label}
use Rattle.c99_read.specs.State.{is_identifier, base_at, has_name, is_declaring, name_below, is_typedef_word, is_typedef_part}
use Rattle.c99_grammar.specs.Standard.{Grammar}

-- the children from number k on
abbrev pub from_child : ℕ → Forest → Forest
from_child zero f = f
from_child (suc k) none = none
from_child (suc k) (token i rest) = from_child k rest
from_child (suc k) (node l first under rest) = from_child k rest

-- what a child says of the name of a declarator: nothing, or what the name is
abbrev pub name_found : Label → Option Part → Option (Option ℕ)
name_found l None = None
name_found l (Some (leaf i)) = if has_name l then Some (Some i) else None
name_found l (Some (inner n)) = if is_declaring n.label.production then Some (name_below n.label n.under) else None

-- a child is the word `typedef`
abbrev pub is_word_found : Option Part → Bool
is_word_found None = false
is_word_found (Some (leaf i)) = false
is_word_found (Some (inner n)) = is_typedef_word n.label

-- a child of specifiers is the word `typedef`, or has it
abbrev pub is_part_found : Option Part → Bool
is_part_found None = false
is_part_found (Some (leaf i)) = false
is_part_found (Some (inner n)) = is_typedef_part n.label n.under

-- the name of a child that is a declarator
abbrev pub declared_by : Option Part → Option ℕ
declared_by None = None
declared_by (Some (leaf i)) = None
declared_by (Some (inner n)) = name_below n.label n.under

-- a child that is an identifier
abbrev pub identifier_found : Grammar → List Token → Option Part → Option ℕ
identifier_found g toks None = None
identifier_found g toks (Some (leaf i)) = if is_identifier (base_at g toks i) then Some i else None
identifier_found g toks (Some (inner n)) = None
