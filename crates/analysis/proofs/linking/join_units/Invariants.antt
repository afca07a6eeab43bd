use Rattle.std.proofs.Common.{◌≡◌, ◌++◌, drop, take}
use Rattle.std.specs.List.{flat_map}
use Rattle.include_tree.specs.Fronts.{AreFronts}
use Rattle.analysis.specs.Analysis.{UnitAnalysis}
use Rattle.analysis.specs.Joins.{Awaits}
use Rattle.analysis.specs.Links.{unit_links, names_of_units}
use Rattle.analysis.specs.Marking.{MarksTokens}
use Rattle.analysis.specs.Naming.{names_reached}
use Rattle.analysis.proofs.linking.join_units.Given as goal

abbrev pub invariant-loop-k : goal.invariant-loop-k
invariant-loop-k l = record {
  links : Awaits (flat_map unit_links (drop l.k l.a.units)) (flat_map unit_links l.a.units) l.fn.classes l.classes;
  marks : MarksTokens l.a.table (flat_map (λ (u : UnitAnalysis). flat_map (names_reached l.a.table) u.text.reached) (take l.k l.a.units)) l.fn.marks.items l.marks.items;
  names : l.names.items ++ names_of_units (drop l.k l.units) (drop l.k l.a.units) ≡ names_of_units l.units l.a.units;
  shared : AreFronts l.a.table l.shared.all.items;
}
