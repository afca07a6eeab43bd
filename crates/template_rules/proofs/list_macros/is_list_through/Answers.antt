use Rattle.std.proofs.Common.{◌≡◌, ◌+◌, ◌<◌, ◌≤◌, ℕ, length, sym, ap, ◌∙◌, arith}
use Rattle.std.specs.Prelude.{List}
use Rattle.analysis.specs.Below.unit_steps.declared.events.Reached.{Reached}
use Rattle.list_cuts.specs.Cuts.{numbers}
use Rattle.template_rules.specs.Asking.{asks}
use Rattle.template_rules.specs.MacroOffences.{is_list_as}
use Rattle.template_rules.proofs.AskLemmas.{asks_all}
use Rattle.template_rules.proofs.NumberLemmas.{all_at, all_next, all_all}
use Rattle.template_rules.proofs.list_macros.is_list_through.Goals as goal

pub is_list_as-requires : goal.is_list_as-requires
is_list_as-requires c = rw c.reached-reached.ensures at c.loop-place-test.true

pub returns-then-not-is_list_as : goal.returns-then-not-is_list_as
returns-then-not-is_list_as c =
    let n = length c.args.unit.now.text.now.reached in
    let lt : c.loop-place.place < 0 + n = omega (arith, c.loop-place-test.true, ap (λ (rs : List Reached). length rs) c.reached-reached.ensures) in
    sym (sym (asks_all c.args.asked c.args.list.now (λ k j. is_list_as c.args.unit.now.class.members c.args.toks.now c.args.list.now k c.args.item c.args.unit.now.text.now c.args.unit.now.bound.now j) (numbers 0 n))
    ∙ all_at (λ j. asks c.args.asked (λ k. is_list_as c.args.unit.now.class.members c.args.toks.now c.args.list.now k c.args.item c.args.unit.now.text.now c.args.unit.now.bound.now j) c.args.list.now) 0 n c.loop-place.place (omega arith) lt (sym c.is_list_as.ensures ∙ c.if-not-is_list_as.true))

pub loop-place-preserved : goal.loop-place-preserved
loop-place-preserved c =
    let n = length c.args.unit.now.text.now.reached in
    let lt : c.loop-place.place < 0 + n = omega (arith, c.loop-place-test.true, ap (λ (rs : List Reached). length rs) c.reached-reached.ensures) in
    all_next (λ j. asks c.args.asked (λ k. is_list_as c.args.unit.now.class.members c.args.toks.now c.args.list.now k c.args.item c.args.unit.now.text.now c.args.unit.now.bound.now j) c.args.list.now) 0 n c.loop-place.place (omega arith) lt (sym c.is_list_as.ensures ∙ c.if-not-is_list_as.false) c.loop-place.invariant

pub returns : goal.returns
returns c =
    let n = length c.args.unit.now.text.now.reached in
    let past : 0 + n ≤ c.loop-place.place = omega (arith, c.loop-place-test.false, ap (λ (rs : List Reached). length rs) c.reached-reached.ensures) in
    sym (sym (asks_all c.args.asked c.args.list.now (λ k j. is_list_as c.args.unit.now.class.members c.args.toks.now c.args.list.now k c.args.item c.args.unit.now.text.now c.args.unit.now.bound.now j) (numbers 0 n))
    ∙ all_all (λ j. asks c.args.asked (λ k. is_list_as c.args.unit.now.class.members c.args.toks.now c.args.list.now k c.args.item c.args.unit.now.text.now c.args.unit.now.bound.now j) c.args.list.now) 0 n c.loop-place.place past c.loop-place.invariant)
