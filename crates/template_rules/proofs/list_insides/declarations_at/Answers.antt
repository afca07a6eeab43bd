use Rattle.std.specs.List.{flat_map}
use Rattle.cs_base.specs.declared.causes.Cause.TheVariants as cause
use Rattle.offences.specs.First.{standing}
use Rattle.offences.proofs.FirstLemmas.{then_none}
use Rattle.template_rules.specs.ScopeOffences.{declaration_place}
use Rattle.template_rules.proofs.StepLemmas.{more_next_or, more_all}
use Rattle.template_rules.proofs.list_insides.declarations_at.Goals as goal

pub loop-name-init : goal.loop-name-init
loop-name-init c ls moved = then_none c.args.a.now.value.table c.args.first

pub loop-name-preserved : goal.loop-name-preserved
loop-name-preserved c ls moved =
    more_next_or c.args.a.now.value.table
    (λ n. flat_map (λ m. standing cause.DeclarationInArgument (declaration_place c.args.toks.now m.now n)) ls) c.args.names.now
    c.loop-name.name-index _ c.args.first c.loop-name.now c.declaration_in-now.result
    c.loop-name-test.true (c.loop-name.invariant ls moved) (c.declaration_in-now.ensures ls moved)

pub returns : goal.returns
returns c ls moved =
    more_all c.args.a.now.value.table
    (λ n. flat_map (λ m. standing cause.DeclarationInArgument (declaration_place c.args.toks.now m.now n)) ls) c.args.names.now
    c.loop-name.name-index c.args.first c.loop-name.now c.loop-name-test.false (c.loop-name.invariant ls moved)
