use Rattle.std.proofs.Common.{◌≡◌, true, take}
use Rattle.template_rules.specs.MacroOffences.{are_same}
use Rattle.template_rules.proofs.list_macros.are_same.Given as goal

abbrev pub invariant-loop-k : goal.invariant-loop-k
invariant-loop-k l = are_same l.toks l.others (take l.k l.indices) (take l.k l.other_indices) ≡ true
