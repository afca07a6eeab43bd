use Rattle.std.proofs.Common.{ℕ, true, [], ◌∷◌, ◌∙◌, ap}
use Rattle.unit_steps.specs.Notes.{ReadOnce}
use Rattle.unit_steps.specs.Texts.{UnitTextValue}
use Rattle.unit_steps.specs.Keeping.{noted_in}
use Rattle.unit_steps.proofs.VisitLemmas.{event-once}
use Rattle.unit_steps.proofs.progress.Progress.pass.Goals as goal

pub returns-clause-noted : goal.returns-clause-noted
returns-clause-noted c =
    ap (λ (t : UnitTextValue). record c.args.self.now { text = t }) (c.in_ok-note_file.ensures ∙ event-once true c.args.self.now.text c.args.at c.args.file c.before-before.result
    ∙ ap (λ (b : ℕ). noted_in c.args.self.now.text (ReadOnce true c.args.at c.args.file b ∷ [])) c.before-before.ensures)
