use Rattle.std.proofs.Common.{◌≡◌, ◌++◌, List, ap, sym, ◌∙◌, take}
use Rattle.std.specs.List.{flat_map}
use Rattle.std.proofs.lemmas.List.{take_all}
use Rattle.template_rules.specs.declared.unit_functions.UnitFunctions.{UnitFunctions}
use Rattle.template_rules.specs.GnuOffences.{unit_spellings}
use Rattle.template_rules.proofs.StepLemmas.{flat_map-more}
use Rattle.template_rules.proofs.UnitLemmas.{spellings_of, spellings_told, units_flat_map}
use Rattle.template_rules.proofs.gnu_texts.spellings.Goals as goal

pub loop-unit-preserved : goal.loop-unit-preserved
loop-unit-preserved c =
    c.in_ok-push_spellings.ensures ∙ ap (λ before. before ++ spellings_of c.unit-item.result) c.loop-unit.invariant
    ∙ sym (flat_map-more spellings_of c.units-units.result.now c.loop-unit.unit-index c.unit-item.result c.loop-unit-test.true c.unit-item.is)

pub returns : goal.returns
returns c =
    let class = c.args.functions.now in
    c.loop-unit.invariant
    ∙ ap (λ (fs : List UnitFunctions). flat_map spellings_of fs) (take_all c.loop-unit.unit-index c.units-units.result.now c.loop-unit-test.false)
    ∙ units_flat_map class c.units-units.result.now c.units-units.ensures spellings_of (unit_spellings class.members) (spellings_told class)
