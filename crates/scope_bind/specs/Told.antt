-- How names are told from declarations and occurrences, by tables of them.
use Rattle.std.specs.Prelude.{true, List, Option}
use Rattle.std.specs.Option.{option_map_or}
use Rattle.c_types.specs.declared.entity.EntityKind.TheVariants.{Object}
use Rattle.c_types.specs.declared.entity.Linkage.TheVariants.{Absent}
use Rattle.c_types.specs.declared.declarations.Declaration.{Declaration}
use Rattle.c_types.specs.declared.declarations.Occurrence.{Occurrence}
use Rattle.scope_bind.specs.declared.bound.Name.{Name}
use Rattle.scope_bind.specs.Names.{name_at}

-- the name that a declaration declares
abbrev pub told_name : Declaration → Name
told_name d = record {
  index = d.name_at;
  entity = d.entity;
  declares = true;
  kind = d.kind;
  linkage = d.linkage;
}

-- the name of an occurrence, given the name that first declares its entity
abbrev pub name_with : Occurrence → Option Name → Name
name_with o first = record {
  index = o.index;
  entity = o.entity;
  declares = o.declares;
  kind = option_map_or (λ n. n.kind) first Object;
  linkage = option_map_or (λ n. n.linkage) first Absent;
}

abbrev pub name_by : List Name → Occurrence → Name
name_by declared o = name_with o (name_at declared o.entity)
