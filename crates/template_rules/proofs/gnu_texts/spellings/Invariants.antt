use Rattle.std.proofs.Common.{◌≡◌, take}
use Rattle.std.specs.Prelude.{map}
use Rattle.std.specs.List.{flat_map}
use Rattle.template_rules.proofs.UnitLemmas.{spellings_of}
use Rattle.template_rules.proofs.gnu_texts.spellings.Given as goal

abbrev pub invariant-loop-unit : goal.invariant-loop-unit
invariant-loop-unit l = map (λ t. t.now) l.out.items ≡ flat_map spellings_of (take l.unit-index l.units)
