use Rattle.std.proofs.Common.{◌≡◌, true, take}
use Rattle.std.specs.List.{list_all}
use Rattle.template_rules.specs.MacroOffences.{is_list_in}
use Rattle.template_rules.proofs.list_macros.are_lists_for.Given as goal

abbrev pub invariant-loop-k : goal.invariant-loop-k
invariant-loop-k l =
    list_all (λ k. is_list_in l.unit.class.members l.toks l.list k l.unit.text.now l.unit.bound.now l.number) (take l.k-index l.indices) ≡ true
