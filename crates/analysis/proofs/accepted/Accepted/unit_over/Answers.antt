use Rattle.std.proofs.Common.{◌≡◌, ◌≤◌, ◌<◌, ◌∙◌, List, Some, ap, sym, subst, length, arith, slice_get}
use Rattle.cs_base.specs.Units.{UnitValue}
use Rattle.cs_base.proofs.ListLemmas.{read_at}
use Rattle.analysis.specs.Analysis.{UnitAnalysis}
use Rattle.analysis.specs.MadeAgain.{all_units}
use Rattle.analysis.proofs.TakenLemmas.{own_at, other_at, other_made, other_within}
use Rattle.analysis.proofs.accepted.Accepted.unit_over.Goals as goal

pub returns-then-k-kept-clause-unit : goal.returns-then-k-kept-clause-unit
returns-then-k-kept-clause-unit c =
    let i = c.self.inside in
    let u = c.index-kept-k.result in
    let kept = c.as_slice-kept.result.now in
    let at : slice_get i.kept.items c.args.k ≡ Some u = ap (λ (us : List UnitAnalysis). slice_get us c.args.k) (sym c.as_slice-kept.ensures.value) ∙ read_at kept c.args.k u c.if-k-kept.true c.index-kept-k.is in
    rw (← c.self.view_is)
    (own_at i.cache.table i.workspace.units i.kept.items i.others c.args.k u at ∙ ap (λ (v : UnitAnalysis). Some v) (sym c.kept.ensures))

pub unit_again-requires : goal.unit_again-requires
unit_again-requires c =
    let i = c.self.inside in
    let less : c.args.k < length (all_units i.cache.table i.workspace.units i.kept.items i.others) = rw (← c.self.view_is) at c.requires.within in
    let from : length i.kept.items ≤ c.args.k = subst (λ (us : List UnitAnalysis). length us ≤ c.args.k) c.as_slice-kept.ensures.value c.if-k-kept.false in
    record { fresh = c.self.invariant.fresh (other_within i.cache.table i.workspace.units i.kept.items i.others c.args.k i.begins.items i.brought.items c.self.invariant from less).2; shared = rw (← c.self.view_is) at c.requires.shared }

pub returns-then-k-units-clause-unit : goal.returns-then-k-units-clause-unit
returns-then-k-units-clause-unit c =
    let i = c.self.inside in
    let less : c.args.k < length (all_units i.cache.table i.workspace.units i.kept.items i.others) = rw (← c.self.view_is) at c.requires.within in
    let from : length i.kept.items ≤ c.args.k = subst (λ (us : List UnitAnalysis). length us ≤ c.args.k) c.as_slice-kept.ensures.value c.if-k-kept.false in
    let within = other_within i.cache.table i.workspace.units i.kept.items i.others c.args.k i.begins.items i.brought.items c.self.invariant from less in
    let unit = c.index-units-k.result in
    let at : slice_get i.workspace.units c.args.k ≡ Some unit = ap (λ (us : List UnitValue). slice_get us c.args.k) (sym c.units-units.ensures.answer) ∙ read_at c.units-units.result.now c.args.k unit c.if-k-units.true c.index-units-k.is in
    rw (← c.self.view_is)
    (other_at i.cache.table i.workspace.units i.kept.items i.others c.args.k i.begins.items i.brought.items unit c.in_ok-again.again c.self.invariant from within.0 at c.in_ok-again.ensures.made
    ∙ ap (λ (v : UnitAnalysis). Some v) (sym c.made.ensures))

pub returns-then-k-units-clause-shared : goal.returns-then-k-units-clause-shared
returns-then-k-units-clause-shared c =
    let i = c.self.inside in
    let less : c.args.k < length (all_units i.cache.table i.workspace.units i.kept.items i.others) = rw (← c.self.view_is) at c.requires.within in
    let from : length i.kept.items ≤ c.args.k = subst (λ (us : List UnitAnalysis). length us ≤ c.args.k) c.as_slice-kept.ensures.value c.if-k-kept.false in
    let within = other_within i.cache.table i.workspace.units i.kept.items i.others c.args.k i.begins.items i.brought.items c.self.invariant from less in
    let unit = c.index-units-k.result in
    let at : slice_get i.workspace.units c.args.k ≡ Some unit = ap (λ (us : List UnitValue). slice_get us c.args.k) (sym c.units-units.ensures.answer) ∙ read_at c.units-units.result.now c.args.k unit c.if-k-units.true c.index-units-k.is in
    let u = other_made i.cache.table i.workspace.units i.kept.items i.others c.args.k i.begins.items i.brought.items unit c.self.invariant from within.0 at in
    rw (← c.self.view_is) (c.in_ok-again.ensures.shared u.0 u.1)
