use Rattle.std.proofs.Common.{◌≡◌, ◌+◌, ◌++◌, ◌∷◌, [], ◌∙◌, List, sym, ap, subst, length, take, arith, rules}
use Rattle.std.specs.Prelude.{map}
use Rattle.std.proofs.lemmas.List.{take_more, take_all, map-append}
use Rattle.cs_base.specs.declared.positions.Pos.{Pos}
use Rattle.trim_rules.specs.JudgedLines.{judged_in, told_judgement}
use Rattle.trim_rules.specs.Judging.{told_of}
use Rattle.trim_rules.proofs.JudgingLemmas.{judged-next}
use Rattle.trim_rules.proofs.judging.Judging.judgements.Goals as goal

pub loop-p-preserved : goal.loop-p-preserved
loop-p-preserved c =
    let lines = c.args.lines.now in
    judged-next (told_of c.args.self.now.whys) (take c.loop-p.p-index lines) (take (c.loop-p.p-index + 1) lines) _ c.loop-p.out.items c.push.new.self.items _
    (take_more lines c.loop-p.p-index _ (omega (arith, c.loop-p-test.true))) (search rules) c.in_ok-judged.ensures c.loop-p.invariant

pub returns : goal.returns
returns c =
    c.loop-p.invariant ∙ ap (map (told_judgement (told_of c.args.self.now.whys))) (take_all c.loop-p.p-index c.args.lines.now (omega (arith, c.loop-p-test.false)))
