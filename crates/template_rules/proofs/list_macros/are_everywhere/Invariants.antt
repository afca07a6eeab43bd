use Rattle.std.proofs.Common.{◌≡◌, true, take}
use Rattle.std.specs.List.{list_all}
use Rattle.template_rules.specs.MacroOffences.{is_mark_everywhere}
use Rattle.template_rules.proofs.list_macros.are_everywhere.Given as goal

abbrev pub invariant-loop-k : goal.invariant-loop-k
invariant-loop-k l = list_all (is_mark_everywhere l.functions.members l.functions.analysis.value l.toks l.reached l.list) (take l.k-index l.indices) ≡ true
