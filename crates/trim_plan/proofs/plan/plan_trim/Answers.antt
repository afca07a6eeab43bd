use Rattle.std.proofs.Common.{◌≡◌, ◌∙◌, List, ap}
use Rattle.std.specs.Prelude.{map}
use Rattle.cs_base.specs.declared.positions.Pos.{Pos}
use Rattle.trim_rules.specs.declared.judging.Judged.{Judged}
use Rattle.trim_rules.specs.JudgedLines.{judged_in}
use Rattle.trim_rules.specs.Staying.{removable}
use Rattle.trim_rules.specs.Trimmed.{edits_of}
use Rattle.trim_plan.proofs.plan.plan_trim.Goals as goal

pub returns-clause-answer : goal.returns-clause-answer
returns-clause-answer c =
    let lines : c.in_ok-lines.lines ≡ removable (map judged_in c.in_ok-judged.judged.items) =
    c.in_ok-lines.ensures ∙ c.in_ok-removed.ensures ∙ ap (λ (js : List Judged). removable (map judged_in js)) c.as_slice-all.ensures.value in
    record { judged = c.in_ok-judged.ensures; edits_are = c.in_ok-edits.ensures.edits ∙ ap (λ (ls : List Pos). edits_of ls c.args.a.now.value.table) lines }

pub returns-clause-meaning : goal.returns-clause-meaning
returns-clause-meaning c =
    let lines : c.in_ok-lines.lines ≡ removable (map judged_in c.in_ok-judged.judged.items) =
    c.in_ok-lines.ensures ∙ c.in_ok-removed.ensures ∙ ap (λ (js : List Judged). removable (map judged_in js)) c.as_slice-all.ensures.value in
    rw lines at c.in_ok-edits.ensures.meaning
