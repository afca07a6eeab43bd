use Rattle.std.proofs.Common.{ℕ, refl, sym, ap, ◌∙◌}
use Rattle.macro_expand.specs.Below.macro_body.Live.{table_of}
use Rattle.macro_expand.specs.Expansion.{expansion}
use Rattle.macro_expand.specs.Below.macro_body.Kept.{Kept, expanded_kept}
use Rattle.unit_steps.specs.SourceTexts.{source_in}
use Rattle.unit_steps.specs.Moments.{state_in}
use Rattle.unit_steps.specs.Keeping.{expanded_into}
use Rattle.unit_steps.proofs.GoingLemmas.{expanded-done}
use Rattle.unit_steps.proofs.progress.Progress.expanded.Goals as goal

pub returns-in_ok-note_expanded-in-Ok-clause-answer : goal.returns-in_ok-note_expanded-in-Ok-clause-answer
returns-in_ok-note_expanded-in-Ok-clause-answer c = λ table.
    expanded-done c.args.run (source_in c.args.file.now) (state_in table c.args.self.now) c.args.self.now.text c.note_expanded.new.self
    (expansion (table_of c.args.self.now.macros) c.args.file.now.path.now c.args.toks.now c.args.self.now.work) c.in-Ok.out.items c.expand.new.work c.expand.new.notes refl
    (ap (λ (k : Kept). expanded_kept k (expansion (table_of c.args.self.now.macros) c.args.file.now.path.now c.args.toks.now c.args.self.now.work)) (sym c.new-notes.ensures) ∙ c.in-Ok.ensures.answer)
    (c.in_ok-note_expanded-in-Ok.ensures ∙ ap (λ (b : ℕ). expanded_into c.args.self.now.text c.args.run b c.expand.new.notes) c.before-before.ensures)
