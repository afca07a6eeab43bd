use Rattle.std.proofs.Common.{◌∷◌, false, Ok, sym, ◌∙◌, ap}
use Rattle.cs_base.specs.declared.ws_units.Standard.{Standard}
use Rattle.include_tree.specs.Asking.{asks_files}
use Rattle.include_tree.specs.Sections.{Group, section}
use Rattle.source_files.specs.Answers.{fault_of}
use Rattle.unit_steps.specs.SourceTexts.{source_in}
use Rattle.include_tree.specs.ItemTexts.{item_in}
use Rattle.unit_steps.specs.Moments.{state_in}
use Rattle.include_tree.proofs.WalkingLemmas.{asked-step, asked-step_fault}
use Rattle.include_tree.proofs.section_lines.asked_group.Goals as goal

pub returns-in-Ok-clause-answer : goal.returns-in-Ok-clause-answer
returns-in-Ok-clause-answer c = λ ctx table open_ around standard.
    asked-step ctx (source_in c.args.file.now) c.args.k (item_in c.args.item.now) open_ around table c.args.p.now c.reach.new.self
    c.in_ok-reach.ensures.noted (ap (λ (x : Standard). asks_files x c.args.item.now.kind) standard ∙ c.requires.here) c.in-Ok.holds (state_in table c.goes_with.new.self) c.goes_with.new.self.text (c.in-Ok.ensures.answer table)
    ∙ ap (λ (g : Group). Ok (section open_.opening g false ∷ around, state_in table c.goes_with.new.self, c.goes_with.new.self.text)) (sym c.group_if.ensures)

pub returns-in-Err-clause-answer : goal.returns-in-Err-clause-answer
returns-in-Err-clause-answer c = λ ctx table open_ around standard.
    asked-step_fault ctx (source_in c.args.file.now) c.args.k (item_in c.args.item.now) open_ around table c.args.p.now c.reach.new.self
    c.in_ok-reach.ensures.noted (ap (λ (x : Standard). asks_files x c.args.item.now.kind) standard ∙ c.requires.here) (fault_of c.in-Err.fault) (c.in-Err.ensures.answer table)
