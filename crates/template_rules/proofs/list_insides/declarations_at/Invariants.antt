use Rattle.std.proofs.Common.{List, take}
use Rattle.std.specs.Borrow.{Bor}
use Rattle.c_types.specs.declared.lists.List.{List as NameList}
use Rattle.std.specs.List.{flat_map}
use Rattle.cs_base.specs.declared.causes.Cause.TheVariants as cause
use Rattle.offences.specs.First.{standing, FirstThen}
use Rattle.template_rules.specs.ScopeOffences.{declaration_place}
use Rattle.template_rules.specs.ListPlaces.{HaveSame}
use Rattle.template_rules.proofs.list_insides.declarations_at.Given as goal

abbrev pub invariant-loop-name : goal.invariant-loop-name
invariant-loop-name l =
    (ls : List (Bor NameList)) → HaveSame ls l.lists.lists.items → FirstThen l.a.value.table
    (flat_map (λ n. flat_map (λ m. standing cause.DeclarationInArgument (declaration_place l.toks m.now n)) ls) (take l.name-index l.names))
    l.initial.now l.now
