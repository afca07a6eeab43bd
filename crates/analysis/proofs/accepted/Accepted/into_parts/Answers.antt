use Rattle.std.proofs.Common.{◌≡◌, ◌≤◌, List, length, ◌∙◌, ap, sym, subst, arith, rules}
use Rattle.cs_base.specs.Limits.{most_units}
use Rattle.analysis.specs.Analysis.{UnitAnalysis, analysis_and}
use Rattle.analysis.specs.MadeAgain.{all_units, others_of}
use Rattle.analysis.proofs.TakenLemmas.{all_count, all_parts, others_again, others_fresh}
use Rattle.analysis.proofs.accepted.Accepted.into_parts.Goals as goal

pub others_of-units-requires : goal.others_of-units-requires
others_of-units-requires c =
    let size : c.len.result ≡ length c.self.inside.kept.items = search rules in
    rw (c.units.ensures.answer, size) c.self.invariant.within

pub made_each-requires-clause-fresh : goal.made_each-requires-clause-fresh
made_each-requires-clause-fresh c =
    let i = c.self.inside in
    let size : c.len.result ≡ length i.kept.items = search rules in
    let is : c.others_of-units.result.now ≡ others_of i.workspace.units (length i.kept.items) i.others = rw (c.units.ensures.answer, size) at c.others_of-units.ensures in
    others_fresh i.cache.table i.workspace.units c.others_of-units.result.now (length i.kept.items) i.others is c.self.invariant.fresh

pub made_each-requires-clause-again : goal.made_each-requires-clause-again
made_each-requires-clause-again c =
    let i = c.self.inside in
    let size : c.len.result ≡ length i.kept.items = search rules in
    let is : c.others_of-units.result.now ≡ others_of i.workspace.units (length i.kept.items) i.others = rw (c.units.ensures.answer, size) at c.others_of-units.ensures in
    others_again i.cache.table i.workspace.units c.others_of-units.result.now (length i.kept.items) i.others is c.self.invariant.again

pub returns-clause-answer : goal.returns-clause-answer
returns-clause-answer c =
    let i = c.self.inside in
    let size : c.len.result ≡ length i.kept.items = search rules in
    let is : c.others_of-units.result.now ≡ others_of i.workspace.units (length i.kept.items) i.others = rw (c.units.ensures.answer, size) at c.others_of-units.ensures in
    let all = all_parts i.cache.table i.workspace.units c.others_of-units.result.now i.kept.items c.append.new.self.items c.in_ok-again.again.items i.others
    is c.in_ok-append.ensures.items c.in_ok-again.ensures in
    ap (λ (us : List UnitAnalysis). analysis_and i.workspace us i.cache.table) all ∙ c.self.view_is

pub returns-clause-few : goal.returns-clause-few
returns-clause-few c =
    let i = c.self.inside in
    let size : c.len.result ≡ length i.kept.items = search rules in
    let is : c.others_of-units.result.now ≡ others_of i.workspace.units (length i.kept.items) i.others = rw (c.units.ensures.answer, size) at c.others_of-units.ensures in
    let all = all_parts i.cache.table i.workspace.units c.others_of-units.result.now i.kept.items c.append.new.self.items c.in_ok-again.again.items i.others
    is c.in_ok-append.ensures.items c.in_ok-again.ensures in
    let h = c.self.invariant in
    subst (λ (us : List UnitAnalysis). length us ≤ most_units) (sym all)
    (omega (arith, h.few, all_count i.cache.table i.workspace.units i.kept.items i.others i.begins.items i.brought.items h))
