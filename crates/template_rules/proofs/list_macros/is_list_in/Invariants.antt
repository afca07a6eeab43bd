use Rattle.std.proofs.Common.{◌≡◌, false}
use Rattle.template_rules.specs.MacroOffences.{is_list_at}
use Rattle.template_rules.proofs.PlaceLemmas.{NoneTo}
use Rattle.template_rules.proofs.list_macros.is_list_in.Given as goal

abbrev pub invariant-loop-at : goal.invariant-loop-at
invariant-loop-at l =
    NoneTo (λ m. is_list_at l.unit.class.members l.toks l.list l.k l.unit.text.now l.unit.bound.now.names l.number m.now) l.found l.at
