use Rattle.std.proofs.Common.{◌≡◌, true, take}
use Rattle.std.specs.List.{list_all}
use Rattle.template_rules.specs.declared.unit_functions.UnitFunctions.{UnitFunctions}
use Rattle.template_rules.specs.Asking.{asks}
use Rattle.template_rules.specs.MacroOffences.{is_list_through}
use Rattle.template_rules.proofs.list_macros.is_list_within.Given as goal

abbrev pub invariant-loop-at : goal.invariant-loop-at
invariant-loop-at l =
    list_all (λ (f : UnitFunctions). asks l.asked (λ k. is_list_through f.class.members l.toks l.list k l.item f.text.now f.bound.now) l.list)
    (take l.at l.units) ≡ true
