use Rattle.std.proofs.Common.{◌<◌, ◌≤◌, length, min, arith}
use Rattle.analysis.specs.Below.linkage_join.Firsts.{first_at}
use Rattle.analysis.specs.Links.{names_of_units}
use Rattle.calls_of.proofs.ExternalLemmas.{units-next, units-all}
use Rattle.calls_of.proofs.firsts.Firsts.keep_units.Goals as goal

pub loop-i-preserved : goal.loop-i-preserved
loop-i-preserved c =
    let units = c.args.units.now in
    let us = c.args.all.now in
    let within : c.loop-i.i < length units = omega (arith, c.loop-i-test.true, c.min-i-end.ensures) in
    let also : c.loop-i.i < length us = omega (arith, c.loop-i-test.true, c.min-i-end.ensures) in
    units-next units us c.loop-i.i c.index-units-i.result c.index-all-i.result (names_of_units units us)
    (first_at c.args.self.now.toks) (first_at c.loop-i.self.toks) (first_at c.keep_unit.new.self.toks)
    within also c.index-units-i.is c.index-all-i.is c.loop-i.invariant
    (rw (← c.bound-bound.ensures, ← c.text-text.ensures, ← c.toks.ensures, ← c.project.ensures.answer, ← c.bytes.ensures) c.in_ok-keep_unit.ensures)

pub returns : goal.returns
returns c =
    let units = c.args.units.now in
    let us = c.args.all.now in
    let past : min (length units) (length us) ≤ c.loop-i.i = omega (arith, c.min-i-end.ensures, c.loop-i-test.false) in
    units-all units us c.loop-i.i (names_of_units units us) (first_at c.args.self.now.toks) (first_at c.loop-i.self.toks) past c.loop-i.invariant
