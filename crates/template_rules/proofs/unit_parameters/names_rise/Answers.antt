use Rattle.std.proofs.Common.{◌≡◌, ◌+◌, ◌-◌, ◌<◌, ◌≤◌, Bool, true, false, length, get_or, inl, inr, arith}
use Rattle.std.specs.Prelude.{nat_lt}
use Rattle.std.proofs.lemmas.Bool.{cases_Bool}
use Rattle.std.proofs.lemmas.Bool.Decides.{nat_tests}
use Rattle.std.proofs.lemmas.List.{get_or_default}
use Rattle.std.proofs.lemmas.List.Sorted.{IsNonDecreasingBy-from_all_adjacent}
use Rattle.c_types.specs.declared.parameters.ParameterList.{ParameterList}
use Rattle.template_rules.proofs.unit_parameters.names_rise.Goals as goal

pub returns : goal.returns
returns c e =
    IsNonDecreasingBy-from_all_adjacent (λ (p : ParameterList). p.name) c.args.lists.now
    (λ k d lt. c.loop-k.invariant k d (omega (arith, lt, c.loop-k-test.false)))

pub loop-k-preserved : goal.loop-k-preserved
loop-k-preserved c k d lt =
    let xs = c.args.lists.now in
    let n = c.loop-k.k in
    elim (cases_Bool (nat_lt (k + 1) n)) [
      | inl less ↦ c.loop-k.invariant k d (grind (arith, nat_tests))
      | inr other ↦
          let at : k + 1 ≡ n = grind (arith, nat_tests) in
          let back : n - 1 ≡ k = omega (arith, at) in
          let here : k < length xs = omega (arith, at, c.loop-k-test.true) in
          let next : k + 1 < length xs = omega (arith, at, c.loop-k-test.true) in
          let one = c.index-lists-k-in-loop-k.result in
          let two = c.index-lists-k.result in
          let told : (get_or xs k one).name ≤ (get_or xs (k + 1) two).name =
          rw (at, ← back) c.if-lists-k.false in
          rw (get_or_default xs k d one here, get_or_default xs (k + 1) d two next) told
    ]
