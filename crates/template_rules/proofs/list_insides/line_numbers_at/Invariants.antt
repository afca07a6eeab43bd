use Rattle.std.proofs.Common.{List, take}
use Rattle.std.specs.Borrow.{Bor}
use Rattle.c_types.specs.declared.lists.List.{List as NameList}
use Rattle.std.specs.List.{flat_map}
use Rattle.cs_base.specs.declared.causes.Cause.TheVariants as cause
use Rattle.offences.specs.First.{standing, FirstThen}
use Rattle.template_rules.specs.MacroOffences.{line_number_place}
use Rattle.template_rules.specs.ListPlaces.{HaveSame}
use Rattle.template_rules.proofs.list_insides.line_numbers_at.Given as goal

abbrev pub invariant-loop-event : goal.invariant-loop-event
invariant-loop-event l =
    (ls : List (Bor NameList)) → HaveSame ls l.lists.lists.items → FirstThen l.a.value.table (flat_map (λ e. flat_map (λ m. standing cause.LineNumber (line_number_place m.now e)) ls) (take l.event-index l.events))
    l.initial.now l.now
