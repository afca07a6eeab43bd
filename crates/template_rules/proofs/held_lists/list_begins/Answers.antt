use Rattle.std.proofs.Common.{◌≡◌, ◌-◌, List, ap, arith, sym, slice_get, ◌∙◌}
use Rattle.std.specs.Borrow.{Bor}
use Rattle.std.specs.Prelude.{map}
use Rattle.std.proofs.lemmas.List.{take_all}
use Rattle.c_types.specs.declared.lists.List.{List as NameList}
use Rattle.analysis.specs.Analysis.{UnitAnalysis}
use Rattle.template_rules.specs.declared.unit_functions.UnitFunctions.{UnitFunctions}
use Rattle.template_rules.proofs.GnuLemmas.{begins_told, unit_is}
use Rattle.template_rules.proofs.held_lists.list_begins.Goals as goal

pub bounds-units-k : goal.bounds-units-k
bounds-units-k c = omega (arith, c.units-units.ensures.many, c.requires.last, c.requires.first)

pub returns : goal.returns
returns c u at k =
    let class = c.args.functions.now in
    let f = c.index-units-k.result in
    let own = unit_is class c.units-units.result.now c.units-units.ensures (c.args.unit - 1) f (omega (arith, c.units-units.ensures.many, c.requires.last, c.requires.first))
    c.index-units-k.is in
    let all = c.loop-list.invariant ∙ ap (λ (ls : List (Bor NameList)). map (λ (l : Bor NameList). l.now.begin) ls)
    (take_all c.loop-list.list-index c.as_slice-found.result.now c.loop-list-test.false ∙ (c.as_slice-found.ensures.value ∙ ap (λ (g : UnitFunctions). g.found.items) (sym c.index-units-k.is))) in
    begins_told class u f own.0 (own.1 u at) c.loop-list.begins.items all k
