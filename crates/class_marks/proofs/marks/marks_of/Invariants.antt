use Rattle.std.proofs.Common.{◌≡◌, take}
use Rattle.std.specs.List.{flat_map}
use Rattle.analysis.specs.Analysis.{UnitAnalysis}
use Rattle.class_marks.specs.Marks.{with_tokens}
use Rattle.class_marks.specs.Roles.{names_in}
use Rattle.class_marks.proofs.marks.marks_of.Given as goal

abbrev pub invariant-loop-unit : goal.invariant-loop-unit
invariant-loop-unit l =
    l.marks.items ≡ with_tokens l.a.classes l.initial.marks.items (flat_map (λ (u : UnitAnalysis). names_in l.role u.text u.bound.names) (take l.unit l.a.value.units))
