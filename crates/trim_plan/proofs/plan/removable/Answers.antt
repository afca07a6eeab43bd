use Rattle.std.proofs.Common.{rules, ◌≡◌, ◌+◌, ◌++◌, ◌∷◌, [], ◌∙◌, ap, take, arith}
use Rattle.std.specs.Prelude.{map}
use Rattle.std.proofs.lemmas.List.{take_more, take_all}
use Rattle.trim_rules.specs.JudgedLines.{judged_in}
use Rattle.trim_rules.specs.Staying.{removable}
use Rattle.trim_plan.proofs.OverLemmas.{removable-next}
use Rattle.trim_plan.proofs.plan.removable.Goals as goal

pub loop-one-preserved : goal.loop-one-preserved
loop-one-preserved c =
    let judged = c.args.judged.now in
    let one = c.one-item.result in
    let more : take (c.loop-one.one-index + 1) judged ≡ take c.loop-one.one-index judged ++ one ∷ [] = search (rules, take_more) in
    removable-next (take c.loop-one.one-index judged) (take (c.loop-one.one-index + 1) judged) one c.loop-one.lines.items c.push_removed.new.lines.items
    more c.loop-one.invariant c.in_ok-push_removed.ensures

pub returns : goal.returns
returns c =
    c.loop-one.invariant
    ∙ ap (λ js. removable (map judged_in js)) (take_all c.loop-one.one-index c.args.judged.now (omega (arith, c.loop-one-test.false)))
