use Rattle.std.proofs.Common.{◌≡◌, ◌≤◌, ◌∙◌, Some, length, arith, slice_get, take_all}
use Rattle.cs_base.proofs.ListLemmas.{read_at}
use Rattle.analysis.specs.MadeAgain.{units_again}
use Rattle.analysis.proofs.MadeAgainLemmas.{list_at, list_count}
use Rattle.analysis.proofs.TakenLemmas.{again_next}
use Rattle.analysis.proofs.accepted.made_each.Goals as goal

pub loop-i-init : goal.loop-i-init
loop-i-init c = record {
  made = c.new-all.ensures.items;
  shared = c.new-shared.ensures c.args.cache.now.table;
}

pub unit_again-requires : goal.unit_again-requires
unit_again-requires c = record { fresh = c.requires.fresh (omega (arith, c.loop-i-test.true)); shared = c.loop-i.invariant.shared }

pub loop-i-preserved : goal.loop-i-preserved
loop-i-preserved c =
    let table = c.args.cache.now.table in
    let units = c.args.units.now in
    let i = c.loop-i.i in
    let unit = c.index-units-i.result in
    let at : slice_get units i ≡ Some unit = read_at units i unit c.loop-i-test.true c.index-units-i.is in
    let u = list_at table units (units_again table units) i unit c.requires.again at in
    record {
      made = again_next table units i unit c.in_ok-unit_again.field-0 c.loop-i.all.items _ c.requires.again at c.in_ok-unit_again.ensures.made c.in_ok-push.ensures.items c.loop-i.invariant.made;
      shared = c.in_ok-unit_again.ensures.shared u.0 u.2;
    }

pub returns : goal.returns
returns c =
    let again = units_again c.args.cache.now.table c.args.units.now in
    let past : length again ≤ c.loop-i.i = omega (arith, list_count c.args.cache.now.table c.args.units.now again c.requires.again, c.loop-i-test.false) in
    c.loop-i.invariant.made ∙ take_all c.loop-i.i again past
