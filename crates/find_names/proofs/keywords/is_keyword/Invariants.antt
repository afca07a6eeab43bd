use Rattle.std.proofs.Common.{◌≡◌, false, take}
use Rattle.std.specs.List.{list_any}
use Rattle.cs_base.specs.Units.{UnitValue}
use Rattle.find_names.specs.Keywords.{is_keyword_of}
use Rattle.find_names.proofs.keywords.is_keyword.Given as goal

abbrev pub invariant-loop-unit : goal.invariant-loop-unit
invariant-loop-unit l = list_any (λ (u : UnitValue). is_keyword_of l.text u.standard) (take l.unit-index l.units) ≡ false
