use Rattle.std.proofs.Common.{◌≡◌, ◌++◌, ◌-◌, ◌≤◌, take}
use Rattle.std.specs.List.{flat_map}
use Rattle.list_cuts.specs.Cuts.{numbers}
use Rattle.macro_rules.specs.Lists.{call_list}
use Rattle.macro_rules.proofs.lists.push_calls.Given as goal

abbrev pub invariant-loop-k : goal.invariant-loop-k
invariant-loop-k l = (l.from ≤ l.k) × (l.out.items ≡ l.initial.out.items ++ flat_map (call_list l.calls l.toks) (take (l.k - l.from) (numbers l.from (l.to - l.from))))
