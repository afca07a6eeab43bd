use Rattle.std.proofs.Common.{List, ◌∷◌, drop, false, Ok, sym, ◌∙◌, ap}
use Rattle.cs_base.specs.declared.ws_units.Standard.{Standard}
use Rattle.include_tree.specs.Asking.{asks_files}
use Rattle.include_tree.specs.Sections.{Group, Section, section}
use Rattle.source_files.specs.Answers.{fault_of}
use Rattle.unit_steps.specs.SourceTexts.{source_in}
use Rattle.include_tree.specs.ItemTexts.{item_in}
use Rattle.unit_steps.specs.Moments.{state_in}
use Rattle.include_tree.proofs.WalkingLemmas.{opens-skipped, opens-left, opens-step, opens-step_fault, line-given}
use Rattle.include_tree.proofs.section_lines.open_section.Goals as goal

pub returns-then-not-are_processed-clause-answer : goal.returns-then-not-are_processed-clause-answer
returns-then-not-are_processed-clause-answer c = λ ctx inner table standard.
    opens-skipped ctx c.args.p.now.text (source_in c.args.file.now) c.args.k (item_in c.args.item.now) c.args.sections.now (state_in table c.args.p.now)
    (sym c.are_processed.ensures ∙ c.if-not-are_processed.true)
    ∙ ap (λ (xs : List Section). Ok (xs, state_in table c.args.p.now, c.args.p.now.text))
    (sym (c.in_ok-push.ensures ∙ ap (λ (s : Section). s ∷ c.args.sections.now) c.new.ensures))

pub returns-in_ok-push-in-Ok-clause-answer : goal.returns-in_ok-push-in-Ok-clause-answer
returns-in_ok-push-in-Ok-clause-answer c = λ ctx inner table standard.
    opens-step ctx (source_in c.args.file.now) c.args.k (item_in c.args.item.now) c.args.sections.now table c.args.p.now c.reach.new.self c.is_if.result c.is_if.ensures
    c.in_ok-reach.ensures.noted (sym c.are_processed.ensures ∙ c.if-not-are_processed.false)
    (ap (λ (x : Standard). asks_files x c.args.item.now.kind) standard ∙ sym c.asks_files.ensures ∙ c.if-asks_files.false) c.in-Ok.holds (state_in table c.opens_with.new.self) c.opens_with.new.self.text
    (c.in-Ok.ensures.answer table)
    ∙ ap (λ (xs : List Section). Ok (xs, state_in table c.opens_with.new.self, c.opens_with.new.self.text))
    (sym (c.in_ok-push-in-Ok.ensures
    ∙ ap (λ (s : Section). s ∷ c.args.sections.now) (c.new-in-Ok.ensures ∙ ap (λ (g : Group). section c.args.item.now.at g false) c.group_if.ensures)))

pub returns-in-Err-clause-answer : goal.returns-in-Err-clause-answer
returns-in-Err-clause-answer c = λ ctx inner table standard.
    opens-step_fault ctx (source_in c.args.file.now) c.args.k (item_in c.args.item.now) c.args.sections.now table c.args.p.now c.reach.new.self c.is_if.result c.is_if.ensures
    c.in_ok-reach.ensures.noted (sym c.are_processed.ensures ∙ c.if-not-are_processed.false)
    (ap (λ (x : Standard). asks_files x c.args.item.now.kind) standard ∙ sym c.asks_files.ensures ∙ c.if-asks_files.false) (fault_of c.in-Err.fault) (c.in-Err.ensures.answer table)

-- a condition that is left to the caller
pub returns-then-asks_files-clause-answer : goal.returns-then-asks_files-clause-answer
returns-then-asks_files-clause-answer c = λ ctx inner table standard.
    opens-left ctx (source_in c.args.file.now) c.args.k (item_in c.args.item.now) c.args.sections.now table c.args.p.now c.reach.new.self c.is_if.result c.is_if.ensures
    c.in_ok-reach.ensures.noted (sym c.are_processed.ensures ∙ c.if-not-are_processed.false)
    (ap (λ (x : Standard). asks_files x c.args.item.now.kind) standard ∙ sym c.asks_files.ensures ∙ c.if-asks_files.true)
    ∙ line-given ctx (source_in c.args.file.now) c.in_ok-line.line c.args.item.now.at c.args.item.now.at (drop 2 c.args.item.now.toks.now) c.args.sections.now
    (state_in table c.reach.new.self) c.reach.new.self.text c.in_ok-line.ensures.at.0 c.in_ok-line.ensures.at.1 c.in_ok-line.ensures.pieces
