-- The binding of a translation unit as plain data.
use Rattle.std.specs.Prelude.{ℕ, Bool, true, false, ◌&&◌, List, length, filter, find, map, reverse, Option, None, Some, Result, Ok, Err, ◌==◌}
use Rattle.std.specs.List.{list_any}
use Rattle.std.specs.Option.{option_map_or}
use Rattle.cs_base.specs.Token.{Token}
use Rattle.c99_tree.specs.Tree.{Forest, Node}
use Rattle.c_types.specs.declared.entity.EntityKind.{EntityKind}
use Rattle.c_types.specs.declared.entity.EntityKind.TheVariants.{Function, Object}
use Rattle.c_types.specs.declared.entity.Linkage.TheVariants.{Absent}
use Rattle.c_types.specs.declared.declarations.Fault.{Fault}
use Rattle.c_types.specs.declared.declarations.Declaration.{Declaration}
use Rattle.c_types.specs.declared.declarations.Occurrence.{Occurrence}
use Rattle.c_types.specs.Declarations.{Facts, is_typedef_name}
use Rattle.name_chains.specs.Frames.{at_first}
use Rattle.scope_bind.specs.Walk.{walked}
use Rattle.scope_bind.specs.declared.bound.Name.{Name}
use Rattle.c_types.specs.declared.lists.List.{List as NameList}
use Rattle.c_types.specs.declared.lists.Range.{Range}
use Rattle.c_types.specs.Lists.{calls_in, bodies_in, lists_in, bare_in}

-- The identifiers that are bound, in the order in which they are: a declared name at the end of its declarator, a
-- name after `goto` at the end of its function. The parameter lists of functions and the argument lists of calls,
-- in order of their names; the bodies of functions; the bare names; and the ranges of typedef names, in the order in
-- which they begin.
pub record Bound : Type 0 where
  pub names : List Name
  pub declarators : List NameList
  pub calls : List NameList
  pub functions : List Range
  pub bare : List ℕ
  pub typedefs : List Range

module _ (facts : Facts) where
  -- the declaration that token k is the name of
  abbrev pub declaration_at : ℕ → Option Declaration
  declaration_at k = find (λ d. d.name_at == k) facts.declared

  -- an identifier; kind and linkage of an entity are those of its first declaration
  abbrev pub name_of : Occurrence → Name
  name_of o = record {
    index = o.index;
    entity = o.entity;
    declares = o.declares;
    kind = option_map_or (λ d. d.kind) (declaration_at o.entity) Object;
    linkage = option_map_or (λ d. d.linkage) (declaration_at o.entity) Absent;
  }

abbrev pub names_of : Facts → List Name
names_of facts = reverse (map (name_of facts) facts.occurrences)

abbrev pub is_function_name : EntityKind → Bool
is_function_name Function = true
is_function_name _ = false

-- token k is a name of a function
abbrev pub is_of_function : List Name → ℕ → Bool
is_of_function names k = list_any (λ n. (n.index == k) && is_function_name n.kind) names

abbrev pub range_of : Declaration → Range
range_of d = record { name = d.name_at; from = d.from; to = d.to }

abbrev pub typedefs_of : Facts → List Range
typedefs_of facts = reverse (map range_of (filter (λ d. is_typedef_name d.kind) facts.declared))

-- what is bound, once all is read
abbrev pub bound_of : Forest → Facts → Bound
bound_of tree facts = record {
  names = names_of facts;
  declarators = filter (λ l. is_of_function (names_of facts) l.name) (lists_in tree);
  calls = calls_in tree;
  functions = bodies_in tree;
  bare = bare_in tree;
  typedefs = typedefs_of facts;
}

-- the binding, or the first fault
abbrev pub bound_unless : Forest → Facts → Option Fault → Result Bound Fault
bound_unless tree facts None = Ok (bound_of tree facts)
bound_unless tree facts (Some f) = Err f

-- what is known at the end of the unit
abbrev pub facts_of : List Token → Forest → Facts
facts_of toks tree = (walked toks tree (at_first (length toks))).facts

abbrev pub bound_after : Forest → Facts → Result Bound Fault
bound_after tree facts = bound_unless tree facts facts.fault

-- the binding of the tokens, whose tree this is
unfoldable pub binding_of : List Token → Node → Result Bound Fault
binding_of toks tree = bound_after tree.under (facts_of toks tree.under)
