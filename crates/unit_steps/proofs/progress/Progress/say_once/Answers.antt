use Rattle.std.proofs.Common.{ℕ, false, [], ◌∷◌, ◌∙◌, ap}
use Rattle.unit_steps.specs.Notes.{ReadOnce}
use Rattle.unit_steps.specs.Texts.{UnitTextValue}
use Rattle.unit_steps.specs.Keeping.{noted_in}
use Rattle.unit_steps.proofs.VisitLemmas.{event-once, said-known}
use Rattle.unit_steps.proofs.progress.Progress.say_once.Goals as goal

pub returns-clause-answer : goal.returns-clause-answer
returns-clause-answer c = λ table source number.
    said-known table c.args.self.now (record c.args.self.now { text = c.note_file.new.self; once = c.push.new.self }) source c.args.at c.args.file number
    (ap (λ (t : UnitTextValue). record c.args.self.now { text = t; once = c.push.new.self })
    (c.in_ok-note_file.ensures ∙ event-once false c.args.self.now.text c.args.at c.args.file c.before-before.result
    ∙ ap (λ (b : ℕ). noted_in c.args.self.now.text (ReadOnce false c.args.at c.args.file b ∷ [])) c.before-before.ensures))
    c.in_ok-push.ensures.items
