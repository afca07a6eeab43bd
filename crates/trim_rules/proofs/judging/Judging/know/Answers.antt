use Rattle.std.proofs.Common.{ap, ◌∙◌}
use Rattle.std.specs.Option.{option_map}
use Rattle.trim_rules.specs.Reasons.{reason}
use Rattle.trim_rules.proofs.JudgingLemmas.{told-cond}
use Rattle.trim_rules.proofs.judging.Judging.know.Goals as goal

pub returns : goal.returns
returns c = λ q. ap (option_map (option_map reason)) (c.in_ok-insert.ensures.updates.0 (q.file, q.at)) ∙ told-cond (option_map reason) _ _ _
