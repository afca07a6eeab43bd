use Rattle.std.proofs.Common.{◌∙◌, ap}
use Rattle.std.specs.Prelude.{map}
use Rattle.trim_rules.specs.Judging.{told_of}
use Rattle.trim_rules.specs.Staying.{judged}
use Rattle.trim_rules.proofs.JudgingLemmas.{judged-each}
use Rattle.trim_rules.proofs.judging.judge.Goals as goal

pub returns : goal.returns
returns c = record {
  lines = c.in_ok-lines.lines.items;
  unneeded = c.in_ok-lines.ensures;
  each =
      c.in_ok-js.ensures ∙ judged-each c.args.a.now.value c.as_slice-all.result.now (told_of c.in_ok-judging.judging.whys)
      (rw c.in_ok-units.ensures at c.in_ok-judging.ensures)
      ∙ ap (map (judged c.args.a.now.value)) c.as_slice-all.ensures.value;
}
