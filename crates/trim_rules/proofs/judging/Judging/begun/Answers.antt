use Rattle.std.proofs.Common.{rules, ◌≡◌, ◌+◌, ◌++◌, ◌∷◌, [], List, length, subst, take, arith}
use Rattle.std.proofs.lemmas.List.{take_more, take_all}
use Rattle.cs_base.specs.declared.positions.Pos.{Pos}
use Rattle.trim_rules.specs.Judging.{told_of, AreStarted}
use Rattle.trim_rules.proofs.JudgingLemmas.{started-none, started-next}
use Rattle.trim_rules.proofs.judging.Judging.begun.Goals as goal

pub loop-p-init : goal.loop-p-init
loop-p-init c = started-none (told_of c.new-judging.result.whys) c.new-judging.ensures

pub loop-p-preserved : goal.loop-p-preserved
loop-p-preserved c =
    let lines = c.args.lines.now in
    started-next (take c.loop-p.p-index lines) (take (c.loop-p.p-index + 1) lines) _ (told_of c.loop-p.judging.whys) (told_of c.know.new.self.whys)
    (take_more lines c.loop-p.p-index _ (omega (arith, c.loop-p-test.true))) c.loop-p.invariant c.in_ok-know.ensures

pub returns : goal.returns
returns c =
    let lines = c.args.lines.now in
    subst (λ (ps : List Pos). AreStarted ps (told_of c.loop-p.judging.whys)) (take_all c.loop-p.p-index lines (omega (arith, c.loop-p-test.false))) c.loop-p.invariant
