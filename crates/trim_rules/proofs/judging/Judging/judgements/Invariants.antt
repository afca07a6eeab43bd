use Rattle.std.proofs.Common.{◌≡◌, take}
use Rattle.std.specs.Prelude.{map}
use Rattle.trim_rules.specs.JudgedLines.{judged_in, told_judgement}
use Rattle.trim_rules.specs.Judging.{told_of}
use Rattle.trim_rules.proofs.judging.Judging.judgements.Given as goal

abbrev pub invariant-loop-p : goal.invariant-loop-p
invariant-loop-p l = map judged_in l.out.items ≡ map (told_judgement (told_of l.self.whys)) (take l.p-index l.lines)
