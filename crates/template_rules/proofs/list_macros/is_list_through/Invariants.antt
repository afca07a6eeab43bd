use Rattle.std.proofs.Common.{◌≡◌, ◌-◌, true, length, take}
use Rattle.std.specs.List.{list_all}
use Rattle.list_cuts.specs.Cuts.{numbers}
use Rattle.template_rules.specs.Asking.{asks}
use Rattle.template_rules.specs.MacroOffences.{is_list_as}
use Rattle.template_rules.proofs.list_macros.is_list_through.Given as goal

abbrev pub invariant-loop-place : goal.invariant-loop-place
invariant-loop-place l =
    list_all (λ j. asks l.asked (λ k. is_list_as l.unit.class.members l.toks l.list k l.item l.unit.text.now l.unit.bound.now j) l.list)
    (take (l.place - 0) (numbers 0 (length l.unit.text.now.reached))) ≡ true
