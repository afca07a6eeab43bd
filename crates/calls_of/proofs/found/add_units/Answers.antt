use Rattle.std.proofs.Common.{◌<◌, ◌≤◌, length, min, arith}
use Rattle.calls_of.specs.Calls.{calls_in_unit}
use Rattle.calls_of.specs.Graphs.{nodes_in_unit}
use Rattle.calls_of.proofs.UnitLemmas.{units-next, units-all}
use Rattle.calls_of.proofs.found.add_units.Goals as goal

pub loop-i-preserved : goal.loop-i-preserved
loop-i-preserved c =
    let a = c.args.a.now.value in
    let units = c.args.units.now in
    let i = c.loop-i.i in
    let us = c.args.all.now in
    let unit = c.index-units-i.result in
    let u = c.index-all-i.result in
    let within : i < length units = omega (arith, c.loop-i-test.true, c.min-i-end.ensures) in
    let also : i < length us = omega (arith, c.loop-i-test.true, c.min-i-end.ensures) in (
      units-next (calls_in_unit a) units us i unit u c.loop-i.calls.items c.add_unit.new.calls.items _ within also c.index-units-i.is c.index-all-i.is c.in_ok-add_unit.ensures.calls c.loop-i.invariant.0,
      units-next (nodes_in_unit a) units us i unit u c.loop-i.nodes.items c.add_unit.new.nodes.items _ within also c.index-units-i.is c.index-all-i.is c.in_ok-add_unit.ensures.nodes c.loop-i.invariant.1,
    )

pub returns-clause-calls : goal.returns-clause-calls
returns-clause-calls c =
    let a = c.args.a.now.value in
    let past : min (length c.args.units.now) (length c.args.all.now) ≤ c.loop-i.i = omega (arith, c.min-i-end.ensures, c.loop-i-test.false) in
    units-all (calls_in_unit a) c.args.units.now c.args.all.now c.loop-i.i c.loop-i.calls.items _ past c.loop-i.invariant.0

pub returns-clause-nodes : goal.returns-clause-nodes
returns-clause-nodes c =
    let a = c.args.a.now.value in
    let past : min (length c.args.units.now) (length c.args.all.now) ≤ c.loop-i.i = omega (arith, c.min-i-end.ensures, c.loop-i-test.false) in
    units-all (nodes_in_unit a) c.args.units.now c.args.all.now c.loop-i.i c.loop-i.nodes.items _ past c.loop-i.invariant.1
