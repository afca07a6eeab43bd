use Rattle.std.proofs.Common.{◌≡◌, ◌+◌, ◌-◌, ◌≤◌, ◌<◌, arith}
use Rattle.std.specs.List.{flat_map, remove}
use Rattle.cs_base.specs.declared.causes.Cause.TheVariants as cause
use Rattle.offences.proofs.FirstLemmas.{then_none}
use Rattle.template_rules.specs.ScopeOffences.{dependence_place}
use Rattle.template_rules.proofs.NumberLemmas.{then_number, then_numbers, then_no_numbers, then_first_number}
use Rattle.template_rules.proofs.dependences.dependences_between.Goals as goal

pub returns-then-begin-close : goal.returns-then-begin-close
returns-then-begin-close c =
    then_no_numbers c.args.a.now.value.table cause.ParameterDependence (dependence_place c.args.toks.now c.args.names.now c.args.bare.now (remove c.args.all.now c.args.item)) (c.args.begin + 1) (c.args.close - (c.args.begin + 1)) c.args.first
    (omega (arith, c.if-begin-close.true))

pub loop-k-init : goal.loop-k-init
loop-k-init c = (
  omega arith,
  then_first_number c.args.a.now.value.table cause.ParameterDependence (dependence_place c.args.toks.now c.args.names.now c.args.bare.now (remove c.args.all.now c.args.item)) (c.args.begin + 1) (c.args.close - (c.args.begin + 1)) c.args.first,
)

pub loop-k-preserved : goal.loop-k-preserved
loop-k-preserved c =
    let low : c.args.begin + 1 ≤ c.loop-k.k = c.loop-k.invariant.0 in
    let high : c.loop-k.k < c.args.begin + 1 + (c.args.close - (c.args.begin + 1)) = omega (arith, low, c.loop-k-test.true) in (
      omega (arith, low),
      then_number c.args.a.now.value.table cause.ParameterDependence (dependence_place c.args.toks.now c.args.names.now c.args.bare.now (remove c.args.all.now c.args.item)) (c.args.begin + 1) (c.args.close - (c.args.begin + 1)) c.loop-k.k
          c.args.first c.loop-k.now c.dependence_at-now.result low high c.loop-k.invariant.1 c.dependence_at-now.ensures,
    )

pub returns : goal.returns
returns c =
    then_numbers c.args.a.now.value.table cause.ParameterDependence (dependence_place c.args.toks.now c.args.names.now c.args.bare.now (remove c.args.all.now c.args.item)) (c.args.begin + 1) (c.args.close - (c.args.begin + 1)) c.loop-k.k
    c.args.first c.loop-k.now (omega (arith, c.loop-k-test.false, c.if-begin-close.false)) c.loop-k.invariant.1
