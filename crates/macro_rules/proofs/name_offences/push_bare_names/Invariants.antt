use Rattle.std.proofs.Common.{◌≡◌, ◌++◌, ◌-◌, ◌≤◌, take}
use Rattle.std.specs.List.{flat_map}
use Rattle.list_cuts.specs.Cuts.{numbers}
use Rattle.macro_rules.specs.FileOffences.{bare_name}
use Rattle.macro_rules.proofs.name_offences.push_bare_names.Given as goal

abbrev pub invariant-loop-k : goal.invariant-loop-k
invariant-loop-k l = (l.from ≤ l.k) × (l.out.items ≡ l.initial.out.items ++ flat_map (bare_name l.calls l.toks) (take (l.k - l.from) (numbers l.from (l.to - l.from))))
