use Rattle.std.proofs.Common.{rules, ◌≡◌, ◌+◌, ◌++◌, ◌∷◌, [], ◌∙◌, ap, take, arith}
use Rattle.std.specs.Prelude.{map}
use Rattle.std.proofs.lemmas.List.{take_more, take_all}
use Rattle.trim_rules.specs.JudgedLines.{judged_in}
use Rattle.trim_plan.specs.Stays.{stays_lines}
use Rattle.trim_plan.proofs.ToldLemmas.{stays-begin, stays-next}
use Rattle.trim_plan.proofs.telling.push_each.Goals as goal

pub loop-one-init : goal.loop-one-init
loop-one-init c = stays-begin c.args.a.now.value c.args.text.now.items

pub loop-one-preserved : goal.loop-one-preserved
loop-one-preserved c =
    let judged = c.args.judged.now in
    let one = c.one-item.result in
    let more : take (c.loop-one.one-index + 1) judged ≡ take c.loop-one.one-index judged ++ one ∷ [] = search (rules, take_more) in
    stays-next c.args.a.now.value (take c.loop-one.one-index judged) (take (c.loop-one.one-index + 1) judged) one c.args.text.now.items
    c.loop-one.text.items c.push_judged.new.text.items more c.loop-one.invariant
    c.in_ok-push_judged.ensures

pub returns : goal.returns
returns c =
    c.loop-one.invariant
    ∙ ap (λ js. c.args.text.now.items ++ stays_lines c.args.a.now.value (map judged_in js))
    (take_all c.loop-one.one-index c.args.judged.now (omega (arith, c.loop-one-test.false)))
