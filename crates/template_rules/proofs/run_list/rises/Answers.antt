use Rattle.std.proofs.Common.{◌≡◌, ◌+◌, ◌-◌, ◌<◌, ◌≤◌, Bool, true, false, length, get_or, inl, inr, arith}
use Rattle.std.specs.Prelude.{nat_lt}
use Rattle.std.proofs.lemmas.Bool.{cases_Bool}
use Rattle.std.proofs.lemmas.Bool.Decides.{nat_tests}
use Rattle.std.proofs.lemmas.List.{get_or_default}
use Rattle.std.proofs.lemmas.List.Sorted.{IsNonDecreasingBy-from_all_adjacent}
use Rattle.analysis.specs.Below.unit_steps.declared.events.Reached.{Reached}
use Rattle.template_rules.proofs.HalvingLemmas.{nothing_reached}
use Rattle.template_rules.proofs.run_list.rises.Goals as goal

pub returns : goal.returns
returns c e =
    IsNonDecreasingBy-from_all_adjacent (λ (r : Reached). r.before) c.args.reached.now
    (λ k d lt. c.loop-k.invariant k d (omega (arith, lt, c.loop-k-test.false)))

pub loop-k-preserved : goal.loop-k-preserved
loop-k-preserved c k d lt =
    let xs = c.args.reached.now in
    let n = c.loop-k.k in
    elim (cases_Bool (nat_lt (k + 1) n)) [
      | inl less ↦ c.loop-k.invariant k d (grind (arith, nat_tests))
      | inr other ↦
          let at : k + 1 ≡ n = grind (arith, nat_tests) in
          let back : n - 1 ≡ k = omega (arith, at) in
          let here : k < length xs = omega (arith, at, c.loop-k-test.true) in
          let next : k + 1 < length xs = omega (arith, at, c.loop-k-test.true) in
          let told : (get_or xs k nothing_reached).before ≤ (get_or xs (k + 1) nothing_reached).before =
          rw (at, ← back) c.if-reached-k.false in
          rw (get_or_default xs k d nothing_reached here, get_or_default xs (k + 1) d nothing_reached next) told
    ]
