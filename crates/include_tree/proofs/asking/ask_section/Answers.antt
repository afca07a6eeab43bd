use Rattle.std.proofs.Common.{◌∷◌, false, ◌∙◌, ap}
use Rattle.source_files.specs.Answers.{fault_of}
use Rattle.source_files.specs.Sources.{source_at}
use Rattle.include_tree.specs.Sections.{Group, Section, section}
use Rattle.unit_steps.specs.Moments.{state_in}
use Rattle.include_tree.specs.GivenFiles.{unit_context}
use Rattle.include_tree.proofs.AskingLemmas.{asked-opens, asked-stops}
use Rattle.include_tree.proofs.asking.ask_section.Goals as goal

pub returns-in-Err-clause-answer : goal.returns-in-Err-clause-answer
returns-in-Err-clause-answer g c = λ source found.
    asked-stops (unit_context source c.args.unit.now c.args.cache.now.toks) (source_at c.args.cache.now.table c.args.number) c.args.line.now c.args.sections.now
    (state_in c.args.cache.now.table c.args.p.now) c.args.p.now.text (fault_of c.in-Err.fault) (c.in-Err.ensures.answer source found)

pub returns-in_ok-push-in-Ok-clause-answer : goal.returns-in_ok-push-in-Ok-clause-answer
returns-in_ok-push-in-Ok-clause-answer g c = λ source found.
    asked-opens (unit_context source c.args.unit.now c.args.cache.now.toks) (source_at c.args.cache.now.table c.args.number) c.args.line.now c.args.sections.now c.push.new.self
    (state_in c.args.cache.now.table c.args.p.now) (state_in c.condition_holds.new.cache.table c.condition_holds.new.p) c.args.p.now.text c.condition_holds.new.p.text c.in-Ok.holds
    (c.in_ok-push-in-Ok.ensures ∙ ap (λ (s : Section). s ∷ c.args.sections.now) (c.new.ensures ∙ ap (λ (g : Group). section c.args.line.now.opening g false) c.group_if.ensures))
    (c.in-Ok.ensures.answer source found)
